-- Moves that are sorted by rank are sorted by partition; so what their runs sum up to is the divided power.
use Rattle.std.proofs.Common.{◌≡◌, ℕ, ◌+◌, ◌*◌, ◌<◌, ◌≤◌, false, List, length, get_or, refl, sym, ◌∙◌, ap, subst}
use Rattle.std.proofs.Common.{arith, nat_cmp, is_lt, pos, ◌⊎◌, inl, inr}
use Rattle.std.specs.List.{AllByRecursion}
use Rattle.std.specs.List.Sorted.{IsPermutation, IsSortedByKey}
use Rattle.std.proofs.lemmas.List.{get_or-map, length-map}
use Rattle.std.proofs.lemmas.List.Elements.{All-from_recursion, recursion_from_All}
use Rattle.std.proofs.lemmas.List.Sorted.{All-permutation, IsNonDecreasingBy-from_sort, IsPermutation-map}
use Rattle.sp_defs.specs.Partition.{order, compare, partitions}
use Rattle.sp_defs.specs.Power.{FockVector, IsVector, fock_vector, vector_of, divided_power, greatest}
use Rattle.sp_defs.specs.Power.{induction_weight}
use Rattle.sp_lists.proofs.Elements.{all_both, map_all, le_or_lt}
use Rattle.sp_lists.proofs.Places.{all_at, all_weaken}
use Rattle.sp_partition.specs.OrderLaws.{order_one_degree}
use Rattle.sp_partition.specs.declared.TheConstants.{DEGREE_LIMIT}
use Rattle.sp_shapes.proofs.Order.{equal_self, later_than}
use Rattle.sp_power.specs.Arrivals.{half_power_limit, AllWithin, IsBrought}
use Rattle.sp_power.proofs.Induced.{all_brought, sizes_by, sorted_by, vector_after, within_after}
use Rattle.sp_power_law.specs.Runs.{arrivals, runs, sums_of, sizes_of}
use Rattle.sp_ranks.specs.Arrivals.{arrival_at, arrivals_at, IsBroughtBy}
use Rattle.sp_ranks.specs.Ranks.{partition_at}
use Rattle.sp_ranks.specs.Sorted.{AreSortedByRank}
use Rattle.sp_ranks.proofs.Overs.{earlier_rank, partition_there}
use Rattle.sp_ranks.specs.declared.walk.Arrival.{Arrival}

-- ---- the order of ranks is that of partitions

-- Of two ranks of one degree the later is not of an earlier partition.
pub ranks_in_order : (n a b : ℕ) → a ≤ b → b < length (partitions n) →
    is_lt (order (partition_at n b) (partition_at n a)) ≡ false
ranks_in_order n a b le lt =
    ap is_lt
    (order_one_degree (partition_at n b) (partition_at n a)
    ((partition_there n b lt).total ∙ sym (partition_there n a (omega arith)).total))
    ∙ by_place (le_or_lt b a)
  where
    by_place : (b ≤ a) ⊎ (a < b) → is_lt (compare (partition_at n b) (partition_at n a)) ≡ false
    by_place (inl h) =
        let same : a ≡ b = omega arith in
        subst (λ k. is_lt (compare (partition_at n b) (partition_at n k)) ≡ false) (sym same)
        (ap is_lt (equal_self (partition_at n b)))
    by_place (inr h) = ap is_lt (later_than (partition_at n a) (partition_at n b) (earlier_rank n a b h lt))

-- What is sorted by ranks is sorted by partitions.
pub sorted_at : (n : ℕ) (ts : List Arrival) → AllByRecursion (λ t. t.rank < length (partitions n)) ts →
    IsSortedByKey (λ t. t.rank) nat_cmp ts → IsSortedByKey (λ t. t.0) order (arrivals_at n ts)
sorted_at n ts there up k d lo hi =
    let next : k + 1 < length ts = omega (arith, hi, length-map ts (arrival_at n)) in
    subst (λ x. is_lt (order x.0 (get_or (arrivals_at n ts) k d).0) ≡ false)
    (sym (get_or-map (arrival_at n) ts (k + 1) none d next))
    (subst (λ x. is_lt (order (partition_at n (get_or ts (k + 1) none).rank) x.0) ≡ false)
    (sym (get_or-map (arrival_at n) ts k none d (omega arith)))
    (ranks_in_order n (get_or ts k none).rank (get_or ts (k + 1) none).rank
    (IsNonDecreasingBy-from_sort (λ t. t.rank) ts up k (k + 1) none (omega arith) next)
    (all_at (λ t. t.rank < length (partitions n)) ts (k + 1) none there next)))
  where
    none : Arrival
    none = record { rank = 0; source = 0; exponent = pos 0 }

-- ---- the moves that are found, sorted

-- What is found and sorted by rank are all moves in order.
pub are_sorted : (e i m : ℕ) (v : FockVector) (found ts : List Arrival) → 2 ≤ e → v.degree + m ≤ DEGREE_LIMIT →
    IsVector v.degree v.entries → arrivals_at (v.degree + m) found ≡ arrivals e i m 0 v.entries →
    AllByRecursion (λ t. t.rank < length (partitions (v.degree + m))) found →
    IsPermutation found ts → IsSortedByKey (λ t. t.rank) nat_cmp ts → AreSortedByRank e i m v ts
are_sorted e i m v found ts he room held is there perm up = record {
  room = room;
  there = still;
  ranks = up;
  moves =
      sorted_by e i m v.degree v.entries v.entries (arrivals_at (v.degree + m) found) (arrivals_at (v.degree + m) ts)
      he (omega arith) held refl is (IsPermutation-map (arrival_at (v.degree + m)) found ts perm)
      (sorted_at (v.degree + m) ts still up);
}
  where
    still : AllByRecursion (λ t. t.rank < length (partitions (v.degree + m))) ts
    still = recursion_from_All (λ t. t.rank < length (partitions (v.degree + m))) ts
        (All-permutation (λ t. t.rank < length (partitions (v.degree + m))) found ts perm
        (All-from_recursion (λ t. t.rank < length (partitions (v.degree + m))) found there))

-- ---- as the code has them: the degree and the moves under names of their own

module _ (e i m : ℕ) (v : FockVector) (ts : List Arrival) (s : AreSortedByRank e i m v ts) (n : ℕ)
    (same_degree : n ≡ v.degree) (read : List Arrival) (same_moves : read ≡ ts) where
  as_read : (P : ℕ → List Arrival → Type 0) → P (v.degree + m) ts → P (n + m) read
  as_read P h = subst (λ k. P (k + m) read) (sym same_degree) (subst (P (v.degree + m)) (sym same_moves) h)

  read_runs : runs (arrivals_at (n + m) read) ≡ runs (arrivals_at (v.degree + m) ts)
  read_runs = as_read (λ k l. runs (arrivals_at k l) ≡ runs (arrivals_at (v.degree + m) ts)) refl

  -- They are sorted by rank.
  pub read_sorted : IsSortedByKey (λ t. t.rank) nat_cmp read
  read_sorted = as_read (λ _ l. IsSortedByKey (λ t. t.rank) nat_cmp l) s.ranks

  -- Each comes from an entry, whose powers leave room for its exponent.
  pub all_brought_by : AllWithin half_power_limit v.entries → AllByRecursion (IsBroughtBy (n + m) v.entries) read
  all_brought_by within =
      as_read (λ k l. AllByRecursion (IsBroughtBy k v.entries) l)
      (all_weaken
      (λ t. IsBrought v.entries (arrival_at (v.degree + m) t) × (t.rank < length (partitions (v.degree + m))))
      (IsBroughtBy (v.degree + m) v.entries) ts
      (λ t h. record { source = h.0.there; rank = h.1; near = h.0.near; powers = h.0.powers })
      (all_both (λ t. IsBrought v.entries (arrival_at (v.degree + m) t))
      (λ t. t.rank < length (partitions (v.degree + m))) ts
      (map_all (IsBrought v.entries) (arrival_at (v.degree + m)) ts
      (all_brought e i m v.degree v.entries (arrivals_at (v.degree + m) ts) s.moves within)) s.there))

  -- The greatest size of a run is the weight of the induction.
  pub weight_by : greatest (sizes_of v.entries (runs (arrivals_at (n + m) read)))
      ≡ induction_weight e i m v.degree (vector_of v.entries)
  weight_by =
      ap (λ rs. greatest (sizes_of v.entries rs)) read_runs
      ∙ sizes_by e i m v.degree v.entries v.entries (arrivals_at (v.degree + m) ts) (arrivals_at (v.degree + m) ts)
      refl refl s.moves

  module _ (w : FockVector) (degree_is : w.degree ≡ n + m)
      (sums : w.entries ≡ sums_of v.entries (runs (arrivals_at (n + m) read))) where
    entries_are : w.entries ≡ sums_of v.entries (runs (arrivals_at (v.degree + m) ts))
    entries_are = sums ∙ ap (sums_of v.entries) read_runs

    -- The sums make the divided power.
    pub vector_by : w ≡ fock_vector (v.degree + m) (divided_power e i m (vector_of v.entries))
    vector_by =
        ap (λ k. let u : FockVector = record { degree = k; entries = w.entries } in u) degree_is
        ∙ vector_after e i m v.degree v.entries (arrivals_at (v.degree + m) ts) s.moves n w.entries same_degree
        entries_are

    -- The powers of the divided power are not far from those of the vector.
    pub within_by : (d : ℕ) → AllWithin d v.entries → AllWithin (m * (v.degree + 1) + d) w.entries
    within_by d =
        within_after e i m v.degree v.entries (arrivals_at (v.degree + m) ts) s.moves n w.entries w d
        (ap (λ k. let u : FockVector = record { degree = k; entries = w.entries } in u) degree_is) entries_are
