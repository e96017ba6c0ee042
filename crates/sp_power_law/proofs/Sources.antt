-- What a divided power takes from a vector of degree n: its values at the partitions of n, and their sizes.
use Rattle.std.proofs.Common.{◌≡◌, ℕ, ◌+◌, ◌-◌, ◌≤◌, max, fold, true, cond, List, [], ◌∷◌}
use Rattle.std.proofs.Common.{map, refl, sym, ◌∙◌, ap, ap₂, subst, arith, sum_by, filter, Less, Equal, Greater}
use Rattle.std.specs.List.{AllByRecursion}
use Rattle.std.specs.Ordering.{is_eq}
use Rattle.std.specs.declared.cmp.Ordering.{Ordering}
use Rattle.std.proofs.lemmas.List.Sums.{sum_by-cons}
use Rattle.sp_defs.specs.Partition.{degree, partitions, compare, Ascending, IsPartitionOf}
use Rattle.sp_defs.specs.Laurent.{Laurent, one, power, times, size}
use Rattle.sp_defs.specs.Power.{Vector, unit, is_move, exponent, sources}
use Rattle.sp_defs.specs.Power.{divided_power, reaching_size, induction_weight}
use Rattle.sp_lists.proofs.Elements.{all_filter}
use Rattle.sp_lists.proofs.Maps.{map-alike}
use Rattle.sp_lists.proofs.Places.{all_weaken}
use Rattle.sp_lists.proofs.Sums.{sum-alike}
use Rattle.sp_lists.proofs.Greatest.{greatest_within, map_within}
use Rattle.sp_algebra.proofs.Sums.{sum_over-alike}
use Rattle.sp_shapes.proofs.Order.{same_lists}
use Rattle.sp_shapes.proofs.Listing.{all_partitions, partitions_ascend, Ascending-filter}

-- A source of a partition of n + m is a partition of n from which the move leads there.
pub record IsSource (e i m n : ℕ) (after before : List ℕ) : Type 0 where
  pub partition : IsPartitionOf n before
  pub move : is_move e i m before after ≡ true

-- Each source of a partition of n + m is a partition of n from which the move leads there.
pub all_sources : (e i m n : ℕ) (after : List ℕ) → degree after ≡ n + m →
    AllByRecursion (IsSource e i m n after) (sources e i m after)
unfolding sources
all_sources e i m n after total =
    let same : degree after - m ≡ n = omega (arith, total) in
    all_filter (IsSource e i m n after) (λ before. is_move e i m before after) (partitions (degree after - m))
    (all_weaken (IsPartitionOf n) (λ x. is_move e i m x after ≡ true → IsSource e i m n after x)
    (partitions (degree after - m))
    (λ x h t. record { partition = h; move = t })
    (subst (λ k. AllByRecursion (IsPartitionOf n) (partitions k)) (sym same) (all_partitions n)))

-- ---- vectors that agree at the partitions of n

-- Vectors that agree at the partitions of n have the same divided power.
pub divided_power-alike : (e i m n : ℕ) (v w : Vector) →
    ((lambda : List ℕ) → IsPartitionOf n lambda → v lambda ≡ w lambda) →
    (after : List ℕ) → degree after ≡ n + m → divided_power e i m v after ≡ divided_power e i m w after
unfolding divided_power
divided_power-alike e i m n v w same after total =
    sum_over-alike (sources e i m after) (term v) (term w)
    (all_weaken (IsSource e i m n after) (λ x. term v x ≡ term w x) (sources e i m after)
    (λ x h. ap (times (power (exponent e i x after))) (same x h.partition)) (all_sources e i m n after total))
  where
    term : Vector → List ℕ → Laurent
    term u before = times (power (exponent e i before after)) (u before)

-- The sizes that reach a partition are the same too.
pub reaching_size-alike : (e i m n : ℕ) (v w : Vector) →
    ((lambda : List ℕ) → IsPartitionOf n lambda → v lambda ≡ w lambda) →
    (after : List ℕ) → degree after ≡ n + m → reaching_size e i m v after ≡ reaching_size e i m w after
reaching_size-alike e i m n v w same after total =
    sum-alike (λ x. size (v x)) (λ x. size (w x)) (sources e i m after)
    (all_weaken (IsSource e i m n after) (λ x. size (v x) ≡ size (w x)) (sources e i m after)
    (λ x h. ap size (same x h.partition)) (all_sources e i m n after total))

-- And so is the weight of the induction.
pub induction_weight-alike : (e i m n : ℕ) (v w : Vector) →
    ((lambda : List ℕ) → IsPartitionOf n lambda → v lambda ≡ w lambda) →
    induction_weight e i m n v ≡ induction_weight e i m n w
induction_weight-alike e i m n v w same =
    ap (fold max 0) (map-alike (reaching_size e i m v) (reaching_size e i m w) (partitions (n + m))
    (all_weaken (IsPartitionOf (n + m)) (λ x. reaching_size e i m v x ≡ reaching_size e i m w x) (partitions (n + m))
    (λ x h. reaching_size-alike e i m n v w same x h.total) (all_partitions (n + m))))

-- ---- one partition

-- In an ascending list a partition occurs at most once.
unit_sizes : (p : List ℕ) (xs : List (List ℕ)) → AllByRecursion (λ x. compare p x ≡ Less) xs →
    ◌≡◌ {A = ℕ} (sum_by (λ x. size (unit p x)) xs) 0
unit_sizes p [] h = refl
unit_sizes p (x ∷ xs) (h, hs) =
    sum_by-cons (λ y. size (unit p y)) x xs ∙ ap₂ (λ o n. size (cond (is_eq o) one []) + n) h (unit_sizes p xs hs)

-- So the vector with 1 at one partition has the size of at most one there.
pub unit_sizes_within : (p : List ℕ) (xs : List (List ℕ)) → Ascending xs → sum_by (λ x. size (unit p x)) xs ≤ 1
unit_sizes_within p [] up = omega arith
unit_sizes_within p (x ∷ xs) (first, up) = by_order (compare p x) refl (unit_sizes_within p xs up)
  where
    by_order : (o : Ordering) → compare p x ≡ o → sum_by (λ y. size (unit p y)) xs ≤ 1 →
        sum_by (λ y. size (unit p y)) (x ∷ xs) ≤ 1
    by_order Equal is rest =
        let later : AllByRecursion (λ y. compare p y ≡ Less) xs =
        subst (λ q. AllByRecursion (λ y. compare q y ≡ Less) xs) (sym (same_lists p x is)) first in
        let head : ◌≡◌ {A = ℕ} (size (unit p x)) 1 = ap (λ o. size (cond (is_eq o) one [])) is in
        omega (arith, sum_by-cons (λ y. size (unit p y)) x xs, head, unit_sizes p xs later)
    by_order Less is rest =
        let head : ◌≡◌ {A = ℕ} (size (unit p x)) 0 = ap (λ o. size (cond (is_eq o) one [])) is in
        omega (arith, sum_by-cons (λ y. size (unit p y)) x xs, head, rest)
    by_order Greater is rest =
        let head : ◌≡◌ {A = ℕ} (size (unit p x)) 0 = ap (λ o. size (cond (is_eq o) one [])) is in
        omega (arith, sum_by-cons (λ y. size (unit p y)) x xs, head, rest)

-- An induction of one partition is never too large, since a limit is at least 1.
pub unit_weight : (e i m : ℕ) (p : List ℕ) → induction_weight e i m (degree p) (unit p) ≤ 1
unfolding sources
unit_weight e i m p =
    greatest_within 1 (map (reaching_size e i m (unit p)) (partitions (degree p + m)))
    (map_within (reaching_size e i m (unit p)) 1 (partitions (degree p + m)) (every (partitions (degree p + m))))
  where
    every : (xs : List (List ℕ)) → AllByRecursion (λ x. reaching_size e i m (unit p) x ≤ 1) xs
    every [] = tt
    every (x ∷ xs) = (
      unit_sizes_within p (filter (λ before. is_move e i m before x) (partitions (degree x - m)))
          (Ascending-filter (λ before. is_move e i m before x) (partitions (degree x - m))
          (partitions_ascend (degree x - m))),
      every xs,
    )
