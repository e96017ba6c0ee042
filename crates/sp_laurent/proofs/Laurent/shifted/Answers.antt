use Rattle.std.proofs.Common.{sym, ◌∙◌, ap₂, subst, to_z-of_z}
use Rattle.sp_algebra.proofs.Canonical.{shifted, shifted_is}
use Rattle.sp_laurent.specs.Held.{IsHeld}
use Rattle.sp_laurent.proofs.Held.{held_shifted}
use Rattle.sp_laurent.proofs.Laurent.shifted.Goals as goal

pub invariant_of-result : goal.invariant_of-result
invariant_of-result c =
    let p = c.args.self.now in
    let held = subst IsHeld c.self.view_is c.self.invariant in
    let is = c.in_ok-shifted.ensures ∙ ap₂ shifted (to_z-of_z c.ranges.power)
    (c.deref.ensures.value ∙ c.self.view_is)
    ∙ sym (shifted_is c.args.power p held.laurent) in
    subst IsHeld (sym is) (held_shifted c.args.power p held c.requires)

pub returns : goal.returns
returns c =
    let p = c.args.self.now in
    let held = subst IsHeld c.self.view_is c.self.invariant in
    record {
      ok = c.in_ok-shifted.ensures ∙ ap₂ shifted (to_z-of_z c.ranges.power)
          (c.deref.ensures.value ∙ c.self.view_is)
          ∙ sym (shifted_is c.args.power p held.laurent);
      held = invariant_of-result c;
    }
