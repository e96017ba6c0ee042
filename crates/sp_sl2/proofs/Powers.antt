-- The entries of a restriction: they are a vector, and their powers lie near those of the vector restricted.
use Rattle.std.proofs.Common.{◌≢◌, ℕ, ◌+◌, ◌-◌, [], arith}
use Rattle.sp_defs.specs.Partition.{degree, partitions, IsPartitionOf}
use Rattle.sp_defs.specs.Power.{Vector, Entries, vector_of, entries, IsVector}
use Rattle.sp_defs.specs.Within.{PowersWithin}
use Rattle.sp_lists.proofs.Places.{all_weaken}
use Rattle.sp_algebra.proofs.Sizes.{within_more}
use Rattle.sp_algebra.proofs.Sums.{IsLaurent-sum_over}
use Rattle.sp_shapes.proofs.Listing.{all_partitions}
use Rattle.sp_fock_law.proofs.Vectors.{all_at, vector_of-all, IsVector-entries}
use Rattle.sp_power.specs.Arrivals.{AllWithin}
use Rattle.sp_sl2_law.specs.Restriction.{enlarged, restriction}
use Rattle.sp_sl2_law.proofs.Bounds.{near_restriction}

-- The entries are those of a vector of one degree less.
pub restricted_entries_vector : (e i n : ℕ) (w : Vector) → IsVector (n - 1) (entries (n - 1) (restriction e i w))
unfolding restriction
restricted_entries_vector e i n w =
    IsVector-entries (n - 1) (restriction e i w) (λ mu. IsLaurent-sum_over (enlarged e i mu) _)

-- Their powers are at most one more than the degree further from 0.
pub restricted_entries_within : (e i n d : ℕ) (es : Entries) → AllWithin d es →
    AllWithin (n + 1 + d) (entries (n - 1) (restriction e i (vector_of es)))
restricted_entries_within e i n d es within =
    all_at (λ t. PowersWithin (n + 1 + d) t.1) (partitions (n - 1)) (restriction e i (vector_of es))
    (all_weaken (IsPartitionOf (n - 1))
    (λ mu. restriction e i (vector_of es) mu ≢ [] → PowersWithin (n + 1 + d) (restriction e i (vector_of es) mu))
    (partitions (n - 1))
    (λ mu h ne. within_more (degree mu + 1 + d) (n + 1 + d) (restriction e i (vector_of es) mu) (omega (arith, h.total))
    (near_restriction e i d (vector_of es) mu h.partition
    (λ x. vector_of-all (PowersWithin d) tt es within x))) (all_partitions (n - 1)))
