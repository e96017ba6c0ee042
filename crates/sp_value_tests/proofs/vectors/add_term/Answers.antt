use Rattle.std.proofs.Common.{sym, subst}
use Rattle.std.specs.List.{AllByRecursion}
use Rattle.sp_defs.specs.Power.{FockVector}
use Rattle.sp_defs.specs.Within.{PowersWithin, ProductWithin}
use Rattle.sp_fock_law.proofs.Single.{unit_within}
use Rattle.sp_laurent.specs.Held.{power_limit}
use Rattle.sp_value_tests.proofs.vectors.add_term.Goals as goal

pub add_scaled-requires-clause-within : goal.add_scaled-requires-clause-within
add_scaled-requires-clause-within g c =
    let a = c.in_ok-a.a in
    let Within : FockVector → Type 0 = λ v. AllByRecursion (λ t. ProductWithin power_limit a t.1) v.entries in
    subst Within (sym c.in_ok-unit.ensures)
    (unit_within power_limit a c.in_ok-p.p c.degree-2.ensures.held.partition
    (subst (PowersWithin power_limit) c.a.view_is c.a.invariant.powers))
