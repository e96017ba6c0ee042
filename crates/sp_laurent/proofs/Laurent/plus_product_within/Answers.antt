use Rattle.std.proofs.Common.{refl, sym, ◌∙◌, ap₂, subst}
use Rattle.sp_defs.specs.Laurent.{plus, times}
use Rattle.sp_defs.specs.Within.{PowersWithin}
use Rattle.sp_algebra.proofs.Sizes.{within_plus, within_times}
use Rattle.sp_laurent.specs.Held.{IsHeld}
use Rattle.sp_laurent.proofs.Held.{held_sum}
use Rattle.sp_laurent.proofs.Laurent.plus_product_within.Goals as goal

pub invariant_of-result : goal.invariant_of-result
invariant_of-result c =
    let sum = c.in_ok-add_product.ensures ∙ ap₂ plus c.self.view_is
    (ap₂ times (c.deref.ensures.value ∙ c.a.view_is) refl) in
    subst IsHeld (sym sum)
    (held_sum c.args.self c.args.a.now c.args.b.now (subst IsHeld c.self.view_is c.self.invariant) c.requires.fits
    c.requires.within)

pub returns-clause-powers : goal.returns-clause-powers
returns-clause-powers c d old product =
    let sum = c.in_ok-add_product.ensures ∙ ap₂ plus c.self.view_is
    (ap₂ times (c.deref.ensures.value ∙ c.a.view_is) refl) in
    subst (PowersWithin d) (sym sum)
    (within_plus d c.args.self (times c.args.a.now c.args.b.now) old
    (within_times d c.args.a.now c.args.b.now product))

pub returns-clause-held : goal.returns-clause-held
returns-clause-held c = invariant_of-result c
