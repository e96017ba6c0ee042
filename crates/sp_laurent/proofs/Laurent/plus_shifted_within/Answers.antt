use Rattle.std.proofs.Common.{◌+◌, ◌*◌, ◌<◌, ◌^◌, [], pos, sym, ◌∙◌, ap₂, subst, subst₂, arith, to_z-of_z}
use Rattle.sp_defs.specs.Laurent.{plus, times, power, size}
use Rattle.sp_defs.specs.Within.{PowersWithin, ProductWithin}
use Rattle.sp_algebra.proofs.Sizes.{size-cons, within_plus, within_times}
use Rattle.sp_laurent.specs.Held.{IsHeld, power_limit}
use Rattle.sp_laurent.proofs.Held.{held_sum}
use Rattle.sp_laurent.proofs.Laurent.plus_shifted_within.Goals as goal

pub add_shifted-requires-clause-within : goal.add_shifted-requires-clause-within
add_shifted-requires-clause-within c =
    subst₂ (λ k q. ProductWithin power_limit (power k) q) (sym (to_z-of_z c.ranges.power))
    (sym (c.deref.ensures.value ∙ c.other.view_is)) c.requires.within

pub invariant_of-result : goal.invariant_of-result
invariant_of-result c =
    let k = c.args.power in
    let sum = c.in_ok-add_shifted.ensures ∙ ap₂ plus c.self.view_is
    (ap₂ (λ j q. times (power j) q) (to_z-of_z c.ranges.power) (c.deref.ensures.value ∙ c.other.view_is)) in
    let fits : size c.args.self + size (power k) * size c.args.other.now < 2 ^ 127 =
    omega (
      arith,
      c.requires.fits,
      size-cons k (pos 1) [],
    ) in
    subst IsHeld (sym sum)
    (held_sum c.args.self (power k) c.args.other.now (subst IsHeld c.self.view_is c.self.invariant) fits
    c.requires.within)

pub returns-clause-powers : goal.returns-clause-powers
returns-clause-powers c d old product =
    let k = c.args.power in
    let sum = c.in_ok-add_shifted.ensures ∙ ap₂ plus c.self.view_is
    (ap₂ (λ j q. times (power j) q) (to_z-of_z c.ranges.power) (c.deref.ensures.value ∙ c.other.view_is)) in
    subst (PowersWithin d) (sym sum)
    (within_plus d c.args.self (times (power k) c.args.other.now) old
    (within_times d (power k) c.args.other.now product))

pub returns-clause-held : goal.returns-clause-held
returns-clause-held c = invariant_of-result c
