use Rattle.std.proofs.Common.{◌∷◌, [], sym, subst, arith}
use Rattle.std.specs.List.{AllByRecursion}
use Rattle.sp_defs.specs.Partition.{degree}
use Rattle.sp_defs.specs.Power.{FockVector, entries, unit}
use Rattle.sp_defs.specs.Within.{PowersWithin}
use Rattle.sp_shapes.proofs.Listing.{IsPartition-nil, IsPartition-cons}
use Rattle.sp_fock_law.proofs.Single.{entries-unit}
use Rattle.sp_llt.specs.Adopting.{listed_powers}
use Rattle.sp_row_tests.proofs.certificates.row_of_one.Goals as goal

pub returns-clause-powers : goal.returns-clause-powers
returns-clause-powers c =
    subst (λ (v : FockVector). AllByRecursion (λ t. PowersWithin listed_powers t.1) v.entries) (sym c.in_ok-one.ensures)
    (subst (λ m. AllByRecursion (λ t. PowersWithin listed_powers t.1) (entries (degree m) (unit m)))
    (sym c.in_ok-mu.ensures.ok)
    (subst (AllByRecursion (λ t. PowersWithin listed_powers t.1))
    (sym (entries-unit (1 ∷ []) (IsPartition-cons 1 [] (omega arith) (omega arith) IsPartition-nil)))
    ((omega arith, tt), tt)))
