use Rattle.std.proofs.Common.{◌+◌, ◌*◌, ◌<◌, ◌^◌, refl, sym, ◌∙◌, ap, ap₂, subst, arith, inl, inr}
use Rattle.sp_defs.specs.Laurent.{coefficient, plus, times, size}
use Rattle.sp_defs.specs.Within.{PowersWithin}
use Rattle.sp_algebra.proofs.Laws.{coefficient-plus_times}
use Rattle.sp_algebra.proofs.Sizes.{within_plus, within_times}
use Rattle.sp_laurent.specs.Held.{IsHeld}
use Rattle.sp_laurent.proofs.Held.{held_sum, add_none}
use Rattle.sp_laurent.proofs.Laurent.add_scaled.Goals as goal
use Rattle.sp_laurent.proofs.Laurent.add_scaled.Goals.{then-is_zero-via-then-is_zero}
use Rattle.sp_laurent.proofs.Laurent.add_scaled.Goals.{then-is_zero-via-else-is_zero+then-is_zero-2}

pub returns-then-is_zero-clause-ok : goal.returns-then-is_zero-clause-ok
returns-then-is_zero-clause-ok c =
    let add = add_none c.args.self.now c.args.a.now c.args.b.now c.size.ensures.held.laurent in
    elim c.then-is_zero.branch [
      | then-is_zero-via-then-is_zero w ↦ add (inl (w.if-is_zero.ensures.0 refl))
      | then-is_zero-via-else-is_zero+then-is_zero-2 w ↦ add (inr (w.if-is_zero-2.ensures.0 refl))
    ]

pub invariant_of-self : goal.invariant_of-self
invariant_of-self c =
    let sum = c.in_ok-add_product.ensures
    ∙ ap₂ plus (c.in_ok-sum.ensures.items ∙ c.deref.ensures.value ∙ c.self.view_is)
    (ap₂ times (c.deref-2.ensures.value ∙ c.a.view_is) (c.deref-3.ensures.value ∙ c.b.view_is)) in
    let fits : size c.args.self.now + size c.args.a.now * size c.args.b.now < 2 ^ 127 =
    omega (
      arith,
      c.if-not-is_within.ensures.0 refl,
      c.size.ensures.value,
      ap₂ (λ x y. x * y) c.size-2.ensures.value c.size-3.ensures.value,
    ) in
    subst IsHeld (sym sum)
    (held_sum c.args.self.now c.args.a.now c.args.b.now c.size.ensures.held fits c.requires.within)

pub returns-clause-powers : goal.returns-clause-powers
returns-clause-powers c d old product =
    let sum = c.in_ok-add_product.ensures
    ∙ ap₂ plus (c.in_ok-sum.ensures.items ∙ c.deref.ensures.value ∙ c.self.view_is)
    (ap₂ times (c.deref-2.ensures.value ∙ c.a.view_is) (c.deref-3.ensures.value ∙ c.b.view_is)) in
    subst (PowersWithin d) (sym sum)
    (within_plus d c.args.self.now (times c.args.a.now c.args.b.now) old
    (within_times d c.args.a.now c.args.b.now product))

pub returns-clause-held : goal.returns-clause-held
returns-clause-held c = invariant_of-self c

pub returns-clause-coefficients : goal.returns-clause-coefficients
returns-clause-coefficients c j =
    let sum = c.in_ok-add_product.ensures ∙ ap₂ plus
    (c.in_ok-sum.ensures.items ∙ c.deref.ensures.value ∙ c.self.view_is)
    (ap₂ times (c.deref-2.ensures.value ∙ c.a.view_is) (c.deref-3.ensures.value ∙ c.b.view_is)) in
    ap (λ q. coefficient q j) sum ∙ coefficient-plus_times c.args.self.now c.args.a.now c.args.b.now j

pub returns-then-is_zero-clause-coefficients : goal.returns-then-is_zero-clause-coefficients
returns-then-is_zero-clause-coefficients c j =
    ap (λ q. coefficient q j) (returns-then-is_zero-clause-ok c)
    ∙ coefficient-plus_times c.args.self.now c.args.a.now c.args.b.now j
