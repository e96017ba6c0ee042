use Rattle.std.proofs.Common.{◌≡◌, ℕ, ◌+◌, ◌-◌, ◌<◌, ◌≤◌, List, [], ◌∷◌, ◌++◌, length}
use Rattle.std.proofs.Common.{map, reverse, take, get_or, sym, ◌∙◌}
use Rattle.std.proofs.Common.{ap, arith, None}
use Rattle.std.proofs.lemmas.List.{map-append, reverse-append, take_more}
use Rattle.std.specs.Arc.{arc_value}
use Rattle.std.specs.declared.sync.Arc.{Arc}
use Rattle.std.specs.declared.alloc.Global.{Global}
use Rattle.sp_llt.specs.Place.{Place}
use Rattle.sp_llt.specs.Refusals.{first_refusal, refusal, or_else}
use Rattle.sp_llt.proofs.refused.first_refused.Goals as goal

-- one entry more
refusal_step : (rows : List (Arc Place Global)) (k : ℕ) (a : Arc Place Global) → 0 < k → k ≤ length rows →
    a ≡ get_or rows (k - 1) a →
    first_refusal (reverse (map arc_value (take k rows)))
    ≡ or_else (refusal (arc_value a)) (first_refusal (reverse (map arc_value (take (k - 1) rows))))
unfolding first_refusal
refusal_step rows k a some le at =
    ap (λ n. first_refusal (reverse (map arc_value (take n rows)))) before
    ∙ ap (λ xs. first_refusal (reverse (map arc_value xs)))
    (take_more rows (k - 1) a (omega arith) ∙ ap (λ x. take (k - 1) rows ++ (x ∷ [])) (sym at))
    ∙ ap (λ xs. first_refusal (reverse xs)) (map-append arc_value (take (k - 1) rows) (a ∷ []))
    ∙ ap first_refusal (reverse-append (map arc_value (take (k - 1) rows)) (arc_value a ∷ []))
  where
    before : k ≡ k - 1 + 1
    before = omega arith

-- no entry
refusal_none : (rows : List (Arc Place Global)) (k : ℕ) → k ≤ 0 →
    first_refusal (reverse (map arc_value (take k rows))) ≡ None
unfolding first_refusal
refusal_none rows k le = ap (λ n. first_refusal (reverse (map arc_value (take n rows)))) none
  where
    none : k ≡ 0
    none = omega arith

pub returns-in-Some : goal.returns-in-Some
returns-in-Some c =
    let rest = first_refusal (reverse (map arc_value (take (c.loop-k.k - 1) c.args.rows.now))) in
    let told = c.in-Some.ensures ∙ ap refusal c.deref.ensures in
    sym
    (c.loop-k.invariant
    ∙ refusal_step c.args.rows.now c.loop-k.k c.index-rows-k.result c.loop-k-test.true c.loop-k.auto.k c.index-rows-k.is
    ∙ ap (λ o. or_else o rest) (sym told))

pub loop-k-preserved : goal.loop-k-preserved
loop-k-preserved c =
    let rest = first_refusal (reverse (map arc_value (take (c.loop-k.k - 1) c.args.rows.now))) in
    let told = sym c.in_default.is ∙ c.refusal_of.ensures ∙ ap refusal c.deref.ensures in
    c.loop-k.invariant
    ∙ refusal_step c.args.rows.now c.loop-k.k c.index-rows-k.result c.loop-k-test.true c.loop-k.auto.k c.index-rows-k.is
    ∙ ap (λ o. or_else o rest) (sym told)

pub returns : goal.returns
returns c =
    sym (c.loop-k.invariant ∙ refusal_none c.args.rows.now c.loop-k.k c.loop-k-test.false)
