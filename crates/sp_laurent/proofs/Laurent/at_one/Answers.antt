use Rattle.std.proofs.Common.{rules, ◌+ℤ◌, pos, take, get_or, sym, ◌∙◌, ap, ap₂, subst, arith, SFits, to_z}
use Rattle.std.proofs.Common.{of_z, to_z-of_z}
use Rattle.std.specs.Int.{w128}
use Rattle.sp_defs.specs.Laurent.{value_at_one, size}
use Rattle.sp_algebra.proofs.Values.{value-nought, value-more, value_small}
use Rattle.sp_laurent.proofs.Machine.{small_fits}
use Rattle.sp_laurent.proofs.Laurent.at_one.Goals as goal

pub loop-term-init : goal.loop-term-init
loop-term-init c = sym value-nought

pub overflow_add-sum : goal.overflow_add-sum
overflow_add-sum c =
    let items = c.deref-term-items.result.now in
    let t = get_or items c.loop-term.term-index (pos 0, pos 0) in
    let fits : SFits w128 t.1 = search rules in
    let small = value_small items c.loop-term.term-index (pos 0, pos 0) c.loop-term-test.true in
    let sum = ap₂ (λ x y. x +ℤ y) c.loop-term.invariant (to_z-of_z fits) in
    subst (λ x. SFits w128 x) (sym sum)
    (small_fits (value_at_one (take c.loop-term.term-index items) +ℤ t.1)
    (omega (arith, small, ap size c.deref-term-items.ensures.value, c.self.invariant.small)))

pub loop-term-preserved : goal.loop-term-preserved
loop-term-preserved c =
    let items = c.deref-term-items.result.now in
    let t = get_or items c.loop-term.term-index (pos 0, pos 0) in
    let fits : SFits w128 t.1 = search rules in
    let small = value_small items c.loop-term.term-index (pos 0, pos 0) c.loop-term-test.true in
    let sum = ap₂ (λ x y. x +ℤ y) c.loop-term.invariant (to_z-of_z fits) in
    ap (λ x. to_z w128 (of_z w128 x)) sum
    ∙ to_z-of_z (small_fits (value_at_one (take c.loop-term.term-index items) +ℤ t.1)
    (omega (arith, small, ap size c.deref-term-items.ensures.value, c.self.invariant.small)))
    ∙ sym (value-more items c.loop-term.term-index (pos 0, pos 0) c.loop-term-test.true)
