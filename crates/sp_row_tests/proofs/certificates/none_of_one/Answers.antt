use Rattle.std.proofs.Common.{sym, subst}
use Rattle.std.specs.List.{AllByRecursion}
use Rattle.sp_defs.specs.Power.{FockVector}
use Rattle.sp_defs.specs.Within.{PowersWithin}
use Rattle.sp_fock_law.proofs.Single.{entries-nought}
use Rattle.sp_llt.specs.Adopting.{listed_powers}
use Rattle.sp_row_tests.proofs.certificates.none_of_one.Goals as goal

pub returns-clause-powers : goal.returns-clause-powers
returns-clause-powers c =
    subst (λ (v : FockVector). AllByRecursion (λ t. PowersWithin listed_powers t.1) v.entries) (sym c.zero.ensures)
    (subst (AllByRecursion (λ t. PowersWithin listed_powers t.1)) (sym (entries-nought 1)) tt)
