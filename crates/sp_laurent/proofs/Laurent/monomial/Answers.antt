use Rattle.std.proofs.Common.{sym, ◌∙◌, ap₂, subst, ◌++◌, to_z-of_z}
use Rattle.sp_defs.specs.Laurent.{monomial}
use Rattle.sp_laurent.specs.Held.{IsHeld}
use Rattle.sp_laurent.proofs.Held.{held_monomial}
use Rattle.sp_laurent.proofs.Laurent.monomial.Goals as goal

pub invariant_of-result : goal.invariant_of-result
invariant_of-result c =
    let items = c.in_ok-push_term.ensures
    ∙ ap₂ (λ p q. p ++ q) c.new-terms.ensures.items
    (ap₂ (λ k a. monomial k a) (to_z-of_z c.ranges.power) (to_z-of_z c.ranges.coefficient)) in
    subst IsHeld (sym items) (held_monomial c.args.power c.args.coefficient c.requires.small c.requires.within)
