use Rattle.std.proofs.Common.{◌∙◌, sym, ap, subst, map, neg_ℤ}
use Rattle.sp_defs.specs.Laurent.{negate}
use Rattle.sp_algebra.proofs.Canonical.{negate_is}
use Rattle.sp_laurent.specs.Held.{IsHeld}
use Rattle.sp_laurent.proofs.Held.{held_negate}
use Rattle.sp_laurent.proofs.Laurent.negate.Goals as goal

pub invariant_of-result : goal.invariant_of-result
invariant_of-result c =
    let p = c.self.inside.terms.items in
    let is = c.in_ok-negated.ensures ∙ ap (map (λ t. (t.0, neg_ℤ t.1))) c.deref.ensures.value
    ∙ sym (negate_is p c.self.invariant.laurent) in
    subst IsHeld (sym is) (held_negate p c.self.invariant)

pub returns : goal.returns
returns c =
    let p = c.self.inside.terms.items in
    c.in_ok-negated.ensures ∙ ap (map (λ t. (t.0, neg_ℤ t.1))) c.deref.ensures.value
    ∙ sym (negate_is p c.self.invariant.laurent)
    ∙ ap negate c.self.view_is
