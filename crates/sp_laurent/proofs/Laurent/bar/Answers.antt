use Rattle.std.proofs.Common.{◌++◌, ◌∙◌, sym, ap, ap₂, subst, reverse}
use Rattle.sp_defs.specs.Laurent.{bar}
use Rattle.sp_algebra.proofs.Mirrored.{mirrored, bar_is}
use Rattle.sp_laurent.specs.Held.{IsHeld}
use Rattle.sp_laurent.proofs.Held.{held_bar}
use Rattle.sp_laurent.proofs.Laurent.bar.Goals as goal

pub invariant_of-result : goal.invariant_of-result
invariant_of-result c =
    let p = c.self.inside.terms.items in
    let is = c.in_ok-push_mirrored.ensures ∙ ap₂ (λ q r. q ++ reverse
    (mirrored r)) c.new-terms.ensures.items c.deref.ensures.value
    ∙ sym (bar_is p c.self.invariant.laurent) in
    subst IsHeld (sym is) (held_bar p c.self.invariant)

pub returns : goal.returns
returns c =
    let p = c.self.inside.terms.items in
    c.in_ok-push_mirrored.ensures ∙ ap₂ (λ q r. q ++ reverse
    (mirrored r)) c.new-terms.ensures.items c.deref.ensures.value
    ∙ sym (bar_is p c.self.invariant.laurent) ∙ ap bar c.self.view_is
