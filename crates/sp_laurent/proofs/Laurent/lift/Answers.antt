use Rattle.std.proofs.Common.{rules, ◌≡◌, sym, ◌∙◌, subst}
use Rattle.sp_defs.specs.Laurent.{IsPositive, IsBarInvariant, plus, negate, lift}
use Rattle.sp_algebra.proofs.Laws.{bar_invariant-lift, lift_rest, lift_unique}
use Rattle.sp_laurent.proofs.Laurent.lift.Goals as goal

pub returns-clause-invariant : goal.returns-clause-invariant
returns-clause-invariant c =
    let is : c.in_ok-lifted.field-0.items ≡ lift c.args.self.now = search rules in
    subst IsBarInvariant (sym is) (bar_invariant-lift c.args.self.now)

pub returns-clause-rest : goal.returns-clause-rest
returns-clause-rest c =
    let is : c.in_ok-lifted.field-0.items ≡ lift c.args.self.now = search rules in
    subst (λ q. IsPositive (plus c.args.self.now (negate q))) (sym is) (lift_rest c.args.self.now)

pub returns-clause-unique : goal.returns-clause-unique
returns-clause-unique c a invariant rest =
    let is : c.in_ok-lifted.field-0.items ≡ lift c.args.self.now = search rules in
    lift_unique c.args.self.now a invariant rest ∙ sym is
