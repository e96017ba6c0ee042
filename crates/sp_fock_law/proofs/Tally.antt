-- Subtracting keeps what is true of a tally.
use Rattle.std.proofs.Common.{◌≡◌, ℕ, ◌+◌, ◌*◌, ◌^◌, ◌<◌, ◌≤◌, neg_ℤ, ◌+ℤ◌, List, map, sym, ap, subst, arith}
use Rattle.std.proofs.Math.Nat.{mul-le-mul_right}
use Rattle.std.specs.Int.RustNames.{unsigned_abs}
use Rattle.std.specs.List.{AllByRecursion}
use Rattle.sp_algebra.proofs.Canonical.{negate_is}
use Rattle.sp_algebra.proofs.Sizes.{size_plus, size_times, size_negate}
use Rattle.sp_defs.specs.Laurent.{Laurent, IsLaurent, negate, plus, times, size}
use Rattle.sp_defs.specs.Partition.{partitions, IsPartitionOf}
use Rattle.sp_defs.specs.Power.{FockVector, vector_of}
use Rattle.sp_defs.specs.Within.{ProductWithin}
use Rattle.sp_lists.proofs.Elements.{all_both, all_map, map_all}
use Rattle.sp_lists.proofs.Greatest.{greatest_exactly}
use Rattle.sp_shapes.proofs.Order.{all_mono}
use Rattle.sp_shapes.proofs.Listing.{all_partitions}
use Rattle.sp_fock_law.specs.Addition.{plus_scaled, scaled_sum_weight}
use Rattle.sp_fock_law.specs.Tally.{TallyValue, IsTally, tally_of, subtracted, subtraction_weight, grown_total}
use Rattle.sp_fock_law.specs.Tally.{total_of}
use Rattle.sp_fock_law.proofs.Totals.{IsTotals-totals, total_of-totals}
use Rattle.sp_fock_law.proofs.Vectors.{vector_of-entries}

-- a product's powers don't change where a factor is negated
pub within_negate : (d : ℕ) (a q : Laurent) → IsLaurent a → ProductWithin d a q → ProductWithin d (negate a) q
within_negate d a q laurent h =
    subst (λ p. ProductWithin d p q) (sym (negate_is a laurent))
    (all_map (λ s. AllByRecursion (λ t. unsigned_abs (s.0 +ℤ t.0) ≤ d) q) (λ t. (t.0, neg_ℤ t.1)) a h)

-- a vector with its sizes as totals is a tally, where they are small
pub IsTally-tally_of : (v : FockVector) → AllByRecursion (λ total. total.1 < 2 ^ 127) (tally_of v).totals
    → IsTally (tally_of v)
IsTally-tally_of v small = record {
  totals = IsTotals-totals v.degree (λ lambda. size (vector_of v.entries lambda));
  small = small;
  covers = λ lambda h.
      let e : total_of (tally_of v).totals lambda ≡ size (vector_of v.entries lambda) =
      total_of-totals v.degree (λ lambda. size (vector_of v.entries lambda)) lambda h in
      omega (arith, e);
}

-- ---- a tally from which a times w is subtracted

module _ (t : TallyValue) (tally : IsTally t) (a : Laurent) (w : FockVector) where
  times_smaller : (q : Laurent) → size (negate a) * size q ≤ size a * size q
  times_smaller q = mul-le-mul_right (size q) (size_negate a)

  -- a tally from which a product was subtracted is one, where its totals are small
  pub IsTally-subtracted : AllByRecursion (λ total. total.1 < 2 ^ 127) (subtracted t a w).totals
      → IsTally (subtracted t a w)
  IsTally-subtracted small = record {
    totals = IsTotals-totals t.vector.degree (grown_total t a w);
    small = small;
    covers = λ lambda h.
        let v : Laurent = vector_of t.vector.entries lambda in
        let q : Laurent = vector_of w.entries lambda in
        let covered : size v ≤ total_of t.totals lambda = tally.covers lambda h in
        let sum : size (plus v (times (negate a) q)) ≤ size v + size (times (negate a) q) =
        size_plus v (times (negate a) q) in
        let product : size (times (negate a) q) ≤ size (negate a) * size q = size_times (negate a) q in
        let smaller : size (negate a) * size q ≤ size a * size q = times_smaller q in
        let value : size (vector_of (subtracted t a w).vector.entries lambda) ≡ size (plus v (times (negate a) q)) =
        ap size (vector_of-entries t.vector.degree
        (plus_scaled (vector_of t.vector.entries) (negate a) (vector_of w.entries)) lambda h) in
        let total : total_of (subtracted t a w).totals lambda ≡ total_of t.totals lambda + size a * size q =
        total_of-totals t.vector.degree (grown_total t a w) lambda h in
        omega arith;
  }

  -- where no total passes the limit, no size of the difference does
  pub smaller_weight : (limit : ℕ) → subtraction_weight t a w ≤ limit
      → scaled_sum_weight t.vector (negate a) w ≤ limit
  smaller_weight limit h =
      (greatest_exactly limit (map sum xs)).1
      (all_map (λ k. k ≤ limit) sum xs
      (all_mono (λ x. IsPartitionOf t.vector.degree x × (grown_total t a w x ≤ limit)) (λ x. sum x ≤ limit) xs
      (λ x (p, k).
      let covered : size (vector_of t.vector.entries x) ≤ total_of t.totals x = tally.covers x p in
      let smaller : size (negate a) * size (vector_of w.entries x) ≤ size a * size (vector_of w.entries x) =
      times_smaller (vector_of w.entries x) in
      omega arith)
      (all_both (IsPartitionOf t.vector.degree) (λ x. grown_total t a w x ≤ limit) xs (all_partitions t.vector.degree)
      (map_all (λ k. k ≤ limit) (grown_total t a w) xs
      ((greatest_exactly limit (map (grown_total t a w) xs)).0 h)))))
    where
      xs : List (List ℕ)
      xs = partitions t.vector.degree

      sum : List ℕ → ℕ
      sum x = size (vector_of t.vector.entries x) + size (negate a) * size (vector_of w.entries x)
