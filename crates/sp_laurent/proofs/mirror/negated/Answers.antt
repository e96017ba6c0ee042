use Rattle.std.proofs.Common.{rules, ◌++◌, ◌∷◌, [], pos, take, map, get_or, ◌∙◌, sym, ap, ap₂, neg_ℤ, arith}
use Rattle.std.proofs.Common.{SFits, w32, to_z-of_z}
use Rattle.std.specs.Int.{w128}
use Rattle.std.proofs.lemmas.Int.{ints}
use Rattle.std.proofs.lemmas.List.{take_more, map-append}
use Rattle.sp_defs.specs.Laurent.{Term}
use Rattle.sp_algebra.proofs.Sizes.{coefficient_le}
use Rattle.sp_laurent.proofs.Machine.{neg_back, neg_fits, small_fits}
use Rattle.sp_laurent.proofs.mirror.negated.Goals as goal

pub overflow_sub-coefficient : goal.overflow_sub-coefficient
overflow_sub-coefficient c =
    let t = get_or c.args.terms.now c.loop-power.power-index (pos 0, pos 0) in
    let fits : SFits w128 t.1 = search rules in
    let small = coefficient_le c.args.terms.now c.loop-power.power-index (pos 0, pos 0) c.loop-power-test.true in
    neg_fits w128 t.1 fits (small_fits (neg_ℤ t.1) (omega (arith, ints, small, c.requires)))

pub loop-power-preserved : goal.loop-power-preserved
loop-power-preserved c =
    let t = get_or c.args.terms.now c.loop-power.power-index (pos 0, pos 0) in
    let negative : Term → Term = λ u. (u.0, neg_ℤ u.1) in
    let fits : SFits w32 t.0 = search rules in
    let coefficient_fits : SFits w128 t.1 = search rules in
    let small = coefficient_le c.args.terms.now c.loop-power.power-index (pos 0, pos 0) c.loop-power-test.true in
    let back = neg_back w128 t.1 coefficient_fits (small_fits (neg_ℤ t.1) (omega (arith, ints, small, c.requires))) in
    c.in_ok-push.ensures.items ∙ ap₂ (λ k a. c.loop-power.negated.items ++ ((k, a) ∷ [])) (to_z-of_z fits) back
    ∙ ap (λ p. p ++ (negative t ∷ [])) c.loop-power.invariant
    ∙ sym (map-append negative (take c.loop-power.power-index c.args.terms.now) (t ∷ []))
    ∙ ap (map negative) (sym (take_more c.args.terms.now c.loop-power.power-index
    (pos 0, pos 0) c.loop-power-test.true))
