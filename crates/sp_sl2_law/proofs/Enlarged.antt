-- What a restriction takes from a vector: its values at the partitions with a node more, and their sizes.
use Rattle.std.proofs.Common.{◌≡◌, ℕ, ◌+◌, ◌-◌, ◌≤◌, max, fold, true, List, map, filter}
use Rattle.std.proofs.Common.{ap, subst}
use Rattle.std.specs.List.{AllByRecursion}
use Rattle.sp_defs.specs.Partition.{degree, partitions, IsPartitionOf}
use Rattle.sp_defs.specs.Laurent.{Laurent, one, power, times, size}
use Rattle.sp_defs.specs.Power.{Vector, unit, is_move}
use Rattle.sp_lists.proofs.Elements.{all_filter, all_every}
use Rattle.sp_lists.proofs.Greatest.{greatest_within, map_within}
use Rattle.sp_lists.proofs.Maps.{map-alike}
use Rattle.sp_lists.proofs.Places.{all_weaken}
use Rattle.sp_lists.proofs.Sums.{sum-alike}
use Rattle.sp_algebra.proofs.Sums.{sum_over-alike}
use Rattle.sp_shapes.proofs.Listing.{all_partitions, partitions_ascend, Ascending-filter}
use Rattle.sp_power_law.proofs.Sources.{unit_sizes_within}
use Rattle.sp_sl2_law.specs.Restriction.{restriction_exponent, enlarged, restriction, restricted_size}
use Rattle.sp_sl2_law.specs.Restriction.{restriction_weight}
use Rattle.sp_sl2_law.proofs.Totals.{total}

-- A partition of one degree more to which a move of one node leads.
pub record IsEnlarged (e i : ℕ) (smaller larger : List ℕ) : Type 0 where
  pub partition : IsPartitionOf (degree smaller + 1) larger
  pub move : is_move e i 1 smaller larger ≡ true

-- All partitions with a node of residue i more are this.
pub all_enlarged : (e i : ℕ) (smaller : List ℕ) → AllByRecursion (IsEnlarged e i smaller) (enlarged e i smaller)
unfolding enlarged
all_enlarged e i smaller =
    all_filter (IsEnlarged e i smaller) (λ x. is_move e i 1 smaller x) (partitions (degree smaller + 1))
    (all_weaken (IsPartitionOf (degree smaller + 1)) (λ x. is_move e i 1 smaller x ≡ true → IsEnlarged e i smaller x)
    (partitions (degree smaller + 1)) (λ x h t. record { partition = h; move = t })
    (all_partitions (degree smaller + 1)))

-- ---- vectors that agree at the partitions of n

module _ (e i n : ℕ) (v w : Vector) (same : (lambda : List ℕ) → IsPartitionOf n lambda → v lambda ≡ w lambda)
    (smaller : List ℕ) (total : degree smaller + 1 ≡ n) where
  same_there : AllByRecursion (λ x. v x ≡ w x) (enlarged e i smaller)
  same_there = all_weaken (IsEnlarged e i smaller) (λ x. v x ≡ w x) (enlarged e i smaller)
      (λ x h. same x (subst (λ k. IsPartitionOf k x) total h.partition)) (all_enlarged e i smaller)

  -- Vectors that agree at the partitions of n have the same restriction.
  pub restriction-alike : restriction e i v smaller ≡ restriction e i w smaller
  unfolding restriction
  restriction-alike =
      sum_over-alike (enlarged e i smaller) (term v) (term w)
      (all_weaken (λ x. v x ≡ w x) (λ x. term v x ≡ term w x) (enlarged e i smaller)
      (λ x h. ap (times (power (restriction_exponent e i smaller x))) h) same_there)
    where
      term : Vector → List ℕ → Laurent
      term u x = times (power (restriction_exponent e i smaller x)) (u x)

  -- The sizes that restrict to a partition are the same too.
  pub restricted_size-alike : restricted_size e i v smaller ≡ restricted_size e i w smaller
  restricted_size-alike =
      sum-alike (λ x. size (v x)) (λ x. size (w x)) (enlarged e i smaller)
      (all_weaken (λ x. v x ≡ w x) (λ x. size (v x) ≡ size (w x)) (enlarged e i smaller) (λ x h. ap size h) same_there)

-- And so is the weight of the restriction of a vector of degree n.
pub restriction_weight-alike : (e i n : ℕ) (v w : Vector) →
    ((lambda : List ℕ) → IsPartitionOf (n - 1 + 1) lambda → v lambda ≡ w lambda) →
    restriction_weight e i n v ≡ restriction_weight e i n w
restriction_weight-alike e i n v w same =
    ap (fold max 0) (map-alike (restricted_size e i v) (restricted_size e i w) (partitions (n - 1))
    (all_weaken (IsPartitionOf (n - 1)) (λ x. restricted_size e i v x ≡ restricted_size e i w x) (partitions (n - 1))
    (λ x h. restricted_size-alike e i (n - 1 + 1) v w same x (ap (λ k. k + 1) h.total)) (all_partitions (n - 1))))

-- ---- one partition

-- A restriction of one partition is never too large, since a limit is at least 1.
pub unit_weight : (e i : ℕ) (p : List ℕ) → restriction_weight e i (degree p) (unit p) ≤ 1
unfolding enlarged
unit_weight e i p =
    greatest_within 1 (map (restricted_size e i (unit p)) (partitions (degree p - 1)))
    (map_within (restricted_size e i (unit p)) 1 (partitions (degree p - 1))
    (all_every (λ x. restricted_size e i (unit p) x ≤ 1) (partitions (degree p - 1))
    (λ x. unit_sizes_within p (filter (λ y. is_move e i 1 x y) (partitions (degree x + 1)))
    (Ascending-filter (λ y. is_move e i 1 x y) (partitions (degree x + 1)) (partitions_ascend (degree x + 1))))))
