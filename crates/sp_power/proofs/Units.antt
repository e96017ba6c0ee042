-- The vector with 1 at one partition has no power but 0.
use Rattle.std.proofs.Common.{◌≡◌, ℕ, ◌+◌, ◌*◌, ◌≤◌, List, [], ◌∷◌, sym, ◌∙◌, ap, subst, arith}
use Rattle.std.proofs.Common.{mul-le-mul_left, mul-le-mul_right}
use Rattle.sp_defs.specs.Partition.{degree, IsPartition}
use Rattle.sp_defs.specs.Power.{Entries, FockVector, fock_vector, unit}
use Rattle.sp_algebra.proofs.Sizes.{within_more}
use Rattle.sp_fock_law.proofs.Single.{entries-unit}
use Rattle.sp_power.specs.Arrivals.{AllWithin}

-- The powers of the vector with 1 at a partition are within any bound.
pub unit_within : (d : ℕ) (p : List ℕ) (v : FockVector) → IsPartition p → v ≡ fock_vector (degree p) (unit p) →
    AllWithin d v.entries
unit_within d p v h is = subst (AllWithin d) (sym (ap (λ w. w.entries) is ∙ entries-unit p h)) (((omega arith, tt), tt))

-- Powers within one bound are within a greater one.
pub all_more : (d e : ℕ) (es : Entries) → d ≤ e → AllWithin d es → AllWithin e es
all_more d e [] le h = tt
all_more d e (t ∷ es) le (h, hs) = (within_more d e t.1 le h, all_more d e es le hs)
