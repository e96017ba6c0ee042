-- The partitions of degree at most n are in order, and all are listed.
use Rattle.std.proofs.Common.{◌≡◌, ℕ, zero, suc, ◌+◌, ◌<◌, ◌≤◌, cond, nat_eq, List, [], ◌∷◌, flat_map, Less, Equal}
use Rattle.std.proofs.Common.{Greater, refl, sym, ◌∙◌, ap, arith, lt-ltb}
use Rattle.std.specs.List.{AllByRecursion, range_with_len}
use Rattle.std.specs.List.Sorted.{IsStrictlySortedBy}
use Rattle.std.specs.Ordering.{ordering_then}
use Rattle.sp_defs.specs.Partition.{IsPartition, IsPartitionOf, Ascending, IsEarlier, compare, degree, order}
use Rattle.sp_defs.specs.Partition.{partitions}
use Rattle.sp_lists.proofs.Elements.{all_flat, range_all}
use Rattle.sp_lists.proofs.Occurrence.{Occurs, occurs_flat, occurs_range}
use Rattle.sp_lists.proofs.Places.{all_weaken}
use Rattle.sp_shapes.proofs.Listing.{all_partitions, each_partition, partitions_ascend}
use Rattle.sp_partition.specs.OrderLaws.{order_one_degree}
use Rattle.sp_replies.specs.Blocks.{partitions_up_to}
use Rattle.sp_replies.proofs.StrictOrder.{joined_strict}

-- partitions of one degree that ascend are in strict order
one_degree : (n : ℕ) (xs : List (List ℕ)) → AllByRecursion (IsPartitionOf n) xs → Ascending xs →
    IsStrictlySortedBy order xs
unfolding IsStrictlySortedBy
one_degree n [] all h = tt
one_degree n (x ∷ xs) (p, all) (behind, h) = (further xs all behind, one_degree n xs all h)
  where
    further : (ys : List (List ℕ)) → AllByRecursion (IsPartitionOf n) ys → AllByRecursion (IsEarlier x) ys →
        AllByRecursion (λ y. order x y ≡ Less) ys
    further [] a l = tt
    further (y ∷ ys) (q, a) (l, ls) = (order_one_degree x y (p.total ∙ sym q.total) ∙ l, further ys a ls)

lesser_degree : (x y : List ℕ) → degree x < degree y → order x y ≡ Less
lesser_degree x y lt =
    ap (λ o. ordering_then o (compare x y))
    (ap (λ b. cond b Less (cond (nat_eq (degree x) (degree y)) Equal Greater)) (lt-ltb (degree x) (degree y) lt))

degrees_from : (a k : ℕ) → AllByRecursion (λ y. a ≤ degree y) (flat_map partitions (range_with_len a k))
degrees_from a k =
    all_flat (λ y. a ≤ degree y) partitions (range_with_len a k)
    (range_all (λ m. AllByRecursion (λ y. a ≤ degree y) (partitions m)) a k
    (λ m lo hi. all_weaken (IsPartitionOf m) (λ y. a ≤ degree y) (partitions m)
    (λ y p. omega (arith, p.total, lo)) (all_partitions m)))

-- the partitions of k degrees from a on
degrees_rise : (a k : ℕ) → IsStrictlySortedBy order (flat_map partitions (range_with_len a k))
unfolding IsStrictlySortedBy
degrees_rise a zero = tt
degrees_rise a (suc k) =
    joined_strict (partitions a) (flat_map partitions (range_with_len (a + 1) k))
    (one_degree a (partitions a) (all_partitions a) (partitions_ascend a)) (degrees_rise (a + 1) k)
    (all_weaken (IsPartitionOf a)
    (λ x. AllByRecursion (λ y. order x y ≡ Less) (flat_map partitions (range_with_len (a + 1) k))) (partitions a)
    (λ x p. all_weaken (λ y. a + 1 ≤ degree y) (λ y. order x y ≡ Less)
    (flat_map partitions (range_with_len (a + 1) k))
    (λ y lo. lesser_degree x y (omega (arith, p.total, lo))) (degrees_from (a + 1) k)) (all_partitions a))

-- The partitions of degree at most n are in strict order.
pub up_to_strict : (n : ℕ) → IsStrictlySortedBy order (partitions_up_to n)
up_to_strict n = degrees_rise 0 (n + 1)

-- Each partition of degree at most n is one of them.
pub up_to_listed : (n : ℕ) (p : List ℕ) → IsPartition p → degree p ≤ n → Occurs p (partitions_up_to n)
up_to_listed n p h le =
    occurs_flat partitions (degree p) (range_with_len 0 (n + 1)) p
    (occurs_range (degree p) 0 (n + 1) (omega arith) (omega arith)) (each_partition (degree p) p h refl)
