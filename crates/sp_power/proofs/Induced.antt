-- From the pairs of a vector to those of its divided power.
use Rattle.std.proofs.Common.{◌≡◌, ℕ, ◌+◌, ◌*◌, ◌<◌, ◌≤◌, List, [], ◌∷◌, map, length, nat_lt}
use Rattle.std.proofs.Common.{true, sym, ◌∙◌, ap, ap₂, subst, arith, mul-le-mul_left, mul-le-mul_right}
use Rattle.std.specs.Int.RustNames.{unsigned_abs}
use Rattle.std.specs.List.{AllByRecursion}
use Rattle.std.specs.List.Sorted.{IsPermutation, IsSortedByKey}
use Rattle.std.proofs.lemmas.List.Elements.{All-from_recursion, recursion_from_All}
use Rattle.std.proofs.lemmas.List.Sorted.{All-permutation}
use Rattle.sp_defs.specs.Partition.{degree, order, partitions, IsPartitionOf}
use Rattle.sp_defs.specs.Power.{Entries, vector_of, entries, greatest, divided_power, sources, induction_weight}
use Rattle.sp_defs.specs.Power.{IsVector, FockVector, fock_vector}
use Rattle.sp_defs.specs.Within.{PowersWithin}
use Rattle.sp_lists.proofs.Elements.{all_append, all_map, all_filter, all_both}
use Rattle.sp_algebra.proofs.Sums.{IsLaurent-sum_over}
use Rattle.sp_lists.proofs.Places.{all_weaken}
use Rattle.sp_shapes.proofs.Listing.{all_partitions}
use Rattle.sp_fock.specs.Held.{IsHeld, held_as, ArePairs}
use Rattle.sp_fock_law.proofs.Vectors.{entries-vector_of, IsVector-entries}
use Rattle.sp_power_law.specs.Walk.{Reached, moves}
use Rattle.sp_power_law.specs.Runs.{Arrival, arrivals, runs, polynomial_at, sums_of, sizes_of}
use Rattle.sp_power_law.proofs.Blocks.{in_order}
use Rattle.sp_power_law.proofs.Bounds.{near_shares, near_power}
use Rattle.sp_power_law.proofs.Gathered.{all_targets, gathers, weighs}
use Rattle.sp_power_law.proofs.Runs.{InOrder}
use Rattle.sp_power.specs.Arrivals.{half_power_limit, AllWithin, HasRoom, IsBrought, AreSorted}

-- ---- before

-- To each entry of a vector m nodes can be added, where the degree and m are at most 32.
pub all_room : (n m : ℕ) (es : Entries) → AllByRecursion (λ s. IsPartitionOf n s.0) es → n + m ≤ 32 →
    AllByRecursion (HasRoom m) es
all_room n m es all room =
    all_weaken (λ s. IsPartitionOf n s.0) (HasRoom m) es
    (λ s h. record { partition = h.partition; small = omega (arith, h.total) }) all

-- ---- the moves

all_there : (e i m place : ℕ) (es : Entries) → AllByRecursion (λ t. t.1 < place + length es) (arrivals e i m place es)
unfolding arrivals
all_there e i m place [] = tt
all_there e i m place (s ∷ es) =
    all_append (λ t. t.1 < place + length (s ∷ es)) (map (λ t. (t.0, place, t.1)) (moves e i m s.0))
    (arrivals e i m (place + 1) es)
    (all_map (λ t. t.1 < place + length (s ∷ es)) (λ t. (t.0, place, t.1)) (moves e i m s.0)
    (all_every (moves e i m s.0)))
    (all_weaken (λ t. t.1 < place + 1 + length es) (λ t. t.1 < place + length (s ∷ es)) (arrivals e i m (place + 1) es)
    (λ t h. omega arith) (all_there e i m (place + 1) es))
  where
    all_every : (xs : List Reached) → AllByRecursion (λ t. place < place + length (s ∷ es)) xs
    all_every [] = tt
    all_every (x ∷ xs) = (omega arith, all_every xs)

-- How far an exponent can lie from 0, by the degree and the number of nodes.
pub few_moves : (m n : ℕ) → n + m ≤ 32 → m * (n + 1) ≤ 2000
few_moves m n h = omega (arith, mul-le-mul_right (n + 1) at_most, mul-le-mul_left 32 less)
  where
    at_most : m ≤ 32
    at_most = omega arith

    less : n + 1 ≤ 33
    less = omega arith

module _ (e i m n : ℕ) (es : Entries) (ts : List Arrival) (h : AreSorted e i m n es ts) where
  moved : (P : Arrival → Type 0) → AllByRecursion P (arrivals e i m 0 es) → AllByRecursion P ts
  moved P all =
      recursion_from_All P ts
      (All-permutation P (arrivals e i m 0 es) ts h.permutation (All-from_recursion P (arrivals e i m 0 es) all))

  targets : AllByRecursion (λ t. IsPartitionOf (n + m) t.0) ts
  targets = moved (λ t. IsPartitionOf (n + m) t.0) (all_targets e i m n 0 es h.e_least h.vector.partitions_of)

  -- Each move comes from an entry, with an exponent and powers that are within the limit together.
  pub all_brought : AllWithin half_power_limit es → AllByRecursion (IsBrought es) ts
  all_brought within =
      all_weaken (λ t. ((unsigned_abs t.2 ≤ m * (n + 1)) × PowersWithin half_power_limit (polynomial_at es t.1)) ×
      ((t.1 < 0 + length es) × IsPartitionOf (n + m) t.0)) (IsBrought es) ts
      (λ t f. record {
        there = omega (arith, f.1.0);
        partition = record { partition = f.1.1.partition; small = omega (arith, f.1.1.total, h.room) };
        near = omega (arith, f.0.0, few_moves m n h.room);
        powers = f.0.1;
      })
      (all_both (λ t. (unsigned_abs t.2 ≤ m * (n + 1)) × PowersWithin half_power_limit (polynomial_at es t.1))
      (λ t. (t.1 < 0 + length es) × IsPartitionOf (n + m) t.0) ts
      (moved (λ t. (unsigned_abs t.2 ≤ m * (n + 1)) × PowersWithin half_power_limit (polynomial_at es t.1))
      (near_shares e i m n half_power_limit [] es h.e_least h.vector.partitions_of within))
      (all_both (λ t. t.1 < 0 + length es) (λ t. IsPartitionOf (n + m) t.0) ts
      (moved (λ t. t.1 < 0 + length es) (all_there e i m 0 es)) targets))

  ordered : InOrder ts
  ordered = in_order (n + m) ts
      (all_weaken (λ t. IsPartitionOf (n + m) t.0) (λ t. degree t.0 ≡ n + m) ts (λ t f. f.total) targets) h.sorted

  same : entries n (vector_of es) ≡ es
  same = entries-vector_of n es h.vector

  sums_are : sums_of es (runs ts) ≡ entries (n + m) (divided_power e i m (vector_of es))
  sums_are = gathers e i m n h.e_least es h.vector.partitions_of same ts h.permutation ordered

  weight_is : greatest (sizes_of es (runs ts)) ≡ induction_weight e i m n (vector_of es)
  weight_is = weighs e i m n h.e_least es h.vector.partitions_of same ts h.permutation ordered

  -- ---- after

  -- The sums are a vector that the code can hold.
  pub held_after : (sums : Entries) → sums ≡ sums_of es (runs ts) → ArePairs sums → IsHeld (held_as (n + m) sums)
  unfolding divided_power
  held_after sums is pairs = record {
    vector = subst (IsVector (n + m)) (sym (is ∙ sums_are))
        (IsVector-entries (n + m) (divided_power e i m (vector_of es))
        (λ nu. IsLaurent-sum_over (sources e i m nu) _));
    pairs = pairs;
  }

  powers_after : (d : ℕ) → AllWithin d es →
      AllWithin (m * (n + 1) + d) (entries (n + m) (divided_power e i m (vector_of es)))
  powers_after d within =
      all_filter (λ t. PowersWithin (m * (n + 1) + d) t.1) (λ t. nat_lt 0 (length t.1))
      (map (λ nu. (nu, divided_power e i m (vector_of es) nu)) (partitions (n + m)))
      (all_map (λ t. nat_lt 0 (length t.1) ≡ true → PowersWithin (m * (n + 1) + d) t.1)
      (λ nu. (nu, divided_power e i m (vector_of es) nu)) (partitions (n + m))
      (all_weaken (IsPartitionOf (n + m))
      (λ nu. nat_lt 0 (length (divided_power e i m (vector_of es) nu)) ≡ true →
      PowersWithin (m * (n + 1) + d) (divided_power e i m (vector_of es) nu)) (partitions (n + m))
      (λ nu f _. near_power e i m n d es nu h.e_least h.vector.partitions_of same within f) (all_partitions (n + m))))

-- ---- as the code has it: the pairs and the moves under names of their own

-- What is found and sorted are all moves in order.
pub sorted_by : (e i m n : ℕ) (pairs es : Entries) (found moves : List Arrival) → 2 ≤ e → n + m ≤ 32 → IsVector n es →
    pairs ≡ es →
    found ≡ arrivals e i m 0 pairs → IsPermutation found moves → IsSortedByKey (λ t. t.0) order moves →
    AreSorted e i m n es moves
sorted_by e i m n pairs es found moves he room v same_pairs is perm up = record {
  e_least = he;
  room = room;
  vector = v;
  permutation = subst (λ l. IsPermutation l moves) (is ∙ ap (arrivals e i m 0) same_pairs) perm;
  sorted = up;
}

-- Each move that is read comes from a pair.
pub brought_by : (pairs es : Entries) (moves read : List Arrival) → pairs ≡ es → read ≡ moves →
    AllByRecursion (IsBrought es) moves → AllByRecursion (IsBrought pairs) read
brought_by pairs es moves read same_pairs same_moves h =
    subst (λ p. AllByRecursion (IsBrought p) read) (sym same_pairs)
    (subst (AllByRecursion (IsBrought es)) (sym same_moves) h)

-- The sums over the moves that are read are those over the moves.
pub sums_by : (pairs es : Entries) (moves read : List Arrival) → pairs ≡ es → read ≡ moves →
    sums_of pairs (runs read) ≡ sums_of es (runs moves)
sums_by pairs es moves read same_pairs same_moves = ap₂ (λ p l. sums_of p (runs l)) same_pairs same_moves

-- The greatest size of a run that is read is the weight of the induction.
pub sizes_by : (e i m n : ℕ) (pairs es : Entries) (moves read : List Arrival) → pairs ≡ es → read ≡ moves →
    AreSorted e i m n es moves →
    greatest (sizes_of pairs (runs read)) ≡ induction_weight e i m n (vector_of es)
sizes_by e i m n pairs es moves read same_pairs same_moves s =
    ap₂ (λ p l. greatest (sizes_of p (runs l))) same_pairs same_moves ∙ weight_is e i m n es moves s

module _ (e i m n : ℕ) (es : Entries) (moves : List Arrival) (s : AreSorted e i m n es moves) (k : ℕ)
    (sums : Entries) where
  -- The sums make the divided power.
  pub vector_after : k ≡ n → sums ≡ sums_of es (runs moves) →
      held_as (k + m) sums ≡ fock_vector (n + m) (divided_power e i m (vector_of es))
  vector_after degree_is is = ap₂ (λ j l. held_as (j + m) l) degree_is (is ∙ sums_are e i m n es moves s)

  -- The powers of the divided power are not far from those of the vector.
  pub within_after : (result : FockVector) (d : ℕ) → result ≡ held_as (k + m) sums → sums ≡ sums_of es (runs moves) →
      AllWithin d es → AllWithin (m * (n + 1) + d) result.entries
  within_after result d made is within =
      subst (AllWithin (m * (n + 1) + d)) (sym (ap (λ v. v.entries) made ∙ is ∙ sums_are e i m n es moves s))
      (powers_after e i m n es moves s d within)
