use Rattle.std.proofs.Common.{◌≡◌, ◌++◌, ◌∷◌, [], ℕ, List, map, sym, ◌∙◌, ap, ap₂, subst}
use Rattle.std.proofs.lemmas.List.{map-append}
use Rattle.std.specs.List.{AllByRecursion}
use Rattle.sp_defs.specs.Partition.{conjugate}
use Rattle.sp_lists.proofs.Elements.{all_append}
use Rattle.sp_module_defs.proofs.Places.{descends}
use Rattle.sp_module_defs.specs.Cells.{place}
use Rattle.sp_matrix.proofs.Shown.{map_more}
use Rattle.sp_matrix.proofs.TurnedGrids.{place_at}
use Rattle.sp_matrix.proofs.conjugates.placed_conjugates.Goals as goal

pub loop-place-preserved : goal.loop-place-preserved
loop-place-preserved c =
    let heading = c.args.heading.now in
    let k = c.loop-place.place in
    let p = c.index-heading-place.result in
    let q = c.conjugate.result in
    let turned = c.loop-place.turned.items in
    let own : place heading p ≡ k =
    ap (place heading) c.index-heading-place.is ∙ place_at heading (descends heading c.requires) k p
    c.loop-place-test.true in
    record {
      partitions =
          ap (map (λ t. t.0)) c.in_ok-push.ensures.items
          ∙ map-append (λ (t : List ℕ × ℕ). t.0) turned ((q, k) ∷ [])
          ∙ ap₂ (λ xs x. xs ++ x ∷ []) c.loop-place.invariant.partitions c.conjugate.ensures.columns
          ∙ sym (map_more conjugate heading k p c.loop-place-test.true c.index-heading-place.is);
      places =
          subst (AllByRecursion (λ t. t.1 ≡ place heading (conjugate t.0))) (sym c.in_ok-push.ensures.items)
          (all_append (λ t. t.1 ≡ place heading (conjugate t.0)) turned ((q, k) ∷ []) c.loop-place.invariant.places (
            sym (ap (λ x. place heading (conjugate x)) c.conjugate.ensures.columns
                ∙ ap (place heading) c.conjugate.ensures.involution
                ∙ own),
            tt,
          ));
    }
