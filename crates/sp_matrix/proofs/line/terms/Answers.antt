use Rattle.std.proofs.Common.{◌<◌, ◌++◌, ◌∷◌, [], List, length, sym, ◌∙◌, ap₂, subst, ℤ, ℕ, rules, SFits}
use Rattle.std.proofs.Common.{to_z-of_z}
use Rattle.std.specs.Int.{w128}
use Rattle.std.specs.List.{AllByRecursion}
use Rattle.sp_defs.specs.Laurent.{Laurent}
use Rattle.sp_lists.proofs.Places.{all_at}
use Rattle.sp_module_defs.specs.Cells.{place}
use Rattle.sp_matrix.specs.declared.line.Term.{Term}
use Rattle.sp_matrix.specs.Agreements.{term_of}
use Rattle.sp_matrix.proofs.Lined.{entries_placed, line_found}
use Rattle.sp_matrix.proofs.Shown.{map_more}
use Rattle.sp_matrix.proofs.line.terms.Goals as goal

abbrev the_term : ℤ → ℕ → Term
the_term c k = record { coefficient = c; line = k }

pub loop-pair-preserved : goal.loop-pair-preserved
loop-pair-preserved c =
    let g = c.args.grid.now in
    let items = c.pairs-pair-items.result.now in
    let i = c.loop-pair.pair-index in
    let pair = c.pair-item.result in
    let placed : place g.lines pair.0 < length g.lines =
    subst (λ (t : List ℕ × Laurent). place g.lines t.0 < length g.lines) (sym c.pair-item.is)
    (all_at (λ t. place g.lines t.0 < length g.lines) items i pair
    (subst (AllByRecursion (λ t. place g.lines t.0 < length g.lines)) (sym c.loop-pair.invariant.same)
    (entries_placed c.args.e g c.args.p.now c.requires.all c.requires.line)) c.loop-pair-test.true) in
    let fits : SFits w128 c.at_one.result = search rules in
    let line = line_found g pair.0 c.lines.result.now c.place_in.result c.unwrap_or-line.result placed
    c.lines.ensures.value c.place_in.ensures c.unwrap_or-line.ensures in
    record {
      same = c.loop-pair.invariant.same;
      terms =
          c.in_ok-push.ensures.items
          ∙ ap₂ (λ ys t. ys ++ t ∷ []) c.loop-pair.invariant.terms
          (ap₂ the_term (to_z-of_z fits ∙ c.at_one.ensures) line)
          ∙ sym (map_more (term_of g) items i pair c.loop-pair-test.true c.pair-item.is);
    }
