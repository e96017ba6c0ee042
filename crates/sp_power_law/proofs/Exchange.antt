-- The arrivals at a partition, summed, are the divided power there: the sum over the entries is the sum over the
-- sources.
use Rattle.std.proofs.Common.{◌≡◌, ℕ, ◌+◌, ◌-◌, Bool, true, false, cond, nat_lt, List, [], ◌∷◌, ◌++◌, map, filter}
use Rattle.std.proofs.Common.{length}
use Rattle.std.proofs.Common.{refl, sym, ◌∙◌, ap, ap₂, arith, sum_by, append_assoc, length-append, add-zero, ◌≤◌}
use Rattle.std.proofs.Common.{lt-ltb}
use Rattle.std.specs.List.{AllByRecursion}
use Rattle.std.proofs.lemmas.List.Sums.{sum_by-cons, sum_by-append}
use Rattle.sp_defs.specs.Partition.{degree, partitions, IsPartition, IsPartitionOf}
use Rattle.sp_defs.specs.Laurent.{Laurent, power, plus, times, sum_over, size}
use Rattle.sp_defs.specs.Power.{Vector, Entries, vector_of, entries, is_move, exponent, sources, divided_power}
use Rattle.sp_defs.specs.Power.{reaching_size}
use Rattle.sp_lists.proofs.Elements.{filter_append}
use Rattle.sp_lists.proofs.Maps.{filter-map}
use Rattle.sp_lists.proofs.Places.{all_weaken}
use Rattle.sp_lists.proofs.Counts.{sum-filter, sum-map}
use Rattle.sp_algebra.proofs.Laws.{IsLaurent-times, plus_nought, times_nought}
use Rattle.sp_algebra.proofs.Sums.{sum_over-append, sum_over-map}
use Rattle.sp_algebra.proofs.Reordered.{sum_over-filter}
use Rattle.std.proofs.Math.Seq.{get_or-append_seam}
use Rattle.sp_power_law.specs.Walk.{Reached, moves}
use Rattle.sp_power_law.specs.Runs.{is_at, Arrival, arrivals, share_of, size_of}
use Rattle.sp_power_law.proofs.Ways.{moves_to}

-- What a polynomial at lambda adds at nu, and its size where it adds anything.
abbrev pub reach : ℕ → ℕ → ℕ → List ℕ → List ℕ → Laurent → Laurent
reach e i m nu lambda p = cond (is_move e i m lambda nu) (times (power (exponent e i lambda nu)) p) []

-- The size of what a polynomial at lambda adds at nu, if it adds anything.
abbrev pub reach_size : ℕ → ℕ → ℕ → List ℕ → List ℕ → Laurent → ℕ
reach_size e i m nu lambda p = cond (is_move e i m lambda nu) (size p) 0

-- ---- the arrivals at nu: one from each entry from which there is a move

arrivals_at : ℕ → ℕ → ℕ → List ℕ → ℕ → Entries → List Arrival
arrivals_at e i m nu place [] = []
arrivals_at e i m nu place (s ∷ es) =
    cond (is_move e i m s.0 nu) ((nu, place, exponent e i s.0 nu) ∷ []) [] ++ arrivals_at e i m nu (place + 1) es

module _ (e i m : ℕ) (he : 2 ≤ e) (nu : List ℕ) (pn : IsPartition nu) where
  arrivals_are : (place : ℕ) (es : Entries) → AllByRecursion (λ s. IsPartition s.0) es →
      filter (is_at nu) (arrivals e i m place es) ≡ arrivals_at e i m nu place es
  unfolding arrivals arrivals_at
  arrivals_are place [] h = refl
  arrivals_are place (s ∷ es) (h, hs) =
      filter_append (is_at nu) (map (λ t. (t.0, place, t.1)) (moves e i m s.0)) (arrivals e i m (place + 1) es)
      ∙ ap₂ (λ a b. a ++ b)
      (filter-map (is_at nu) tagged (moves e i m s.0) ∙ ap (map tagged) (moves_to e i m s.0 nu he h pn)
      ∙ one (is_move e i m s.0 nu))
      (arrivals_are (place + 1) es hs)
    where
      tagged : Reached → Arrival
      tagged t = (t.0, place, t.1)

      one : (b : Bool) →
          map tagged (cond b ((nu, exponent e i s.0 nu) ∷ []) []) ≡ cond b ((nu, place, exponent e i s.0 nu) ∷ []) []
      one true = refl
      one false = refl

  sum_at : (front es : Entries) →
      sum_over (arrivals_at e i m nu (length front) es) (share_of (front ++ es)) ≡ sum_over es
      (λ s. reach e i m nu s.0 s.1)
  unfolding arrivals_at sum_over
  sum_at front [] = refl
  sum_at front (s ∷ es) =
      sum_over-append (cond (is_move e i m s.0 nu) ((nu, length front, exponent e i s.0 nu) ∷ []) [])
      (arrivals_at e i m nu (length front + 1) es) (share_of (front ++ (s ∷ es)))
      ∙ ap₂ plus (one (is_move e i m s.0 nu))
      (ap₂ (λ k l. sum_over (arrivals_at e i m nu k es) (share_of l)) (sym (length-append front (s ∷ [])))
      (sym (append_assoc front (s ∷ []) es)) ∙ sum_at (front ++ (s ∷ [])) es)
    where
      one : (b : Bool) →
          sum_over (cond b ((nu, length front, exponent e i s.0 nu) ∷ []) []) (share_of (front ++ (s ∷ es))) ≡ cond b
          (times (power (exponent e i s.0 nu)) s.1) []
      one true =
          ap (λ p. plus (times (power (exponent e i s.0 nu)) p) [])
          (ap (λ x. x.1) (get_or-append_seam front s es ([], [])))
          ∙ plus_nought (times (power (exponent e i s.0 nu)) s.1) (IsLaurent-times (power (exponent e i s.0 nu)) s.1)
      one false = refl

  size_at : (front es : Entries) →
      sum_by (size_of (front ++ es)) (arrivals_at e i m nu (length front) es) ≡ sum_by
      (λ s. reach_size e i m nu s.0 s.1) es
  unfolding arrivals_at
  size_at front [] = refl
  size_at front (s ∷ es) =
      sum_by-append (size_of (front ++ (s ∷ es)))
      (cond (is_move e i m s.0 nu) ((nu, length front, exponent e i s.0 nu) ∷ []) [])
      (arrivals_at e i m nu (length front + 1) es)
      ∙ ap₂ (λ a b. a + b) (one (is_move e i m s.0 nu))
      (ap₂ (λ k l. sum_by (size_of l) (arrivals_at e i m nu k es)) (sym (length-append front (s ∷ [])))
      (sym (append_assoc front (s ∷ []) es)) ∙ size_at (front ++ (s ∷ [])) es)
      ∙ sym (sum_by-cons (λ s. reach_size e i m nu s.0 s.1) s es)
    where
      one : (b : Bool) →
          sum_by (size_of (front ++ (s ∷ es))) (cond b ((nu, length front, exponent e i s.0 nu) ∷ []) []) ≡ cond b
          (size s.1) 0
      one true =
          sum_by-cons (size_of (front ++ (s ∷ es))) (nu, length front, exponent e i s.0 nu) []
          ∙ ap (λ x. size x.1 + 0) (get_or-append_seam front s es ([], [])) ∙ add-zero (size s.1)
      one false = refl

  -- ---- the sum over the partitions of n

  module _ (n : ℕ) (total : degree nu ≡ n + m) where
    source_degree : degree nu - m ≡ n
    source_degree = omega (arith, total)

    power_is : (w : Vector) →
        divided_power e i m w nu ≡ sum_over (partitions n) (λ lambda. reach e i m nu lambda (w lambda))
    unfolding divided_power sources
    power_is w =
        sum_over-filter (λ lambda. is_move e i m lambda nu) (partitions (degree nu - m))
        (λ lambda. times (power (exponent e i lambda nu)) (w lambda))
        ∙ ap (λ k. sum_over (partitions k) (λ lambda. reach e i m nu lambda (w lambda))) source_degree

    size_is : (w : Vector) →
        reaching_size e i m w nu ≡ sum_by (λ lambda. reach_size e i m nu lambda (w lambda)) (partitions n)
    unfolding sources
    size_is w =
        sum-filter (λ lambda. is_move e i m lambda nu) (λ lambda. size (w lambda)) (partitions (degree nu - m))
        ∙ ap (λ k. sum_by (λ lambda. reach_size e i m nu lambda (w lambda)) (partitions k)) source_degree

    nonzero_reach : (lambda : List ℕ) (p : Laurent) →
        cond (nat_lt 0 (length p)) (reach e i m nu lambda p) [] ≡ reach e i m nu lambda p
    nonzero_reach lambda (t ∷ p) =
        ap (λ b. cond b (reach e i m nu lambda (t ∷ p)) []) (lt-ltb 0 (length (t ∷ p)) (omega arith))
    nonzero_reach lambda [] =
        elim (is_move e i m lambda nu) as (λ b. [] ≡ cond b (times (power (exponent e i lambda nu)) []) []) [
          | true ↦ sym (times_nought (power (exponent e i lambda nu)))
          | false ↦ refl
        ]

    nonzero_size : (lambda : List ℕ) (p : Laurent) →
        cond (nat_lt 0 (length p)) (reach_size e i m nu lambda p) 0 ≡ reach_size e i m nu lambda p
    nonzero_size lambda (t ∷ p) =
        ap (λ b. cond b (reach_size e i m nu lambda (t ∷ p)) 0) (lt-ltb 0 (length (t ∷ p)) (omega arith))
    nonzero_size lambda [] =
        elim (is_move e i m lambda nu) as (λ b. ◌≡◌ {A = ℕ} 0 (cond b 0 0)) [ true ↦ refl | false ↦ refl ]

    entries_sum : (w : Vector) →
        sum_over (entries n w) (λ s. reach e i m nu s.0 s.1) ≡ sum_over (partitions n)
        (λ lambda. reach e i m nu lambda (w lambda))
    entries_sum w =
        sum_over-filter (λ s. nat_lt 0 (length s.1)) (map (λ lambda. (lambda, w lambda)) (partitions n))
        (λ s. reach e i m nu s.0 s.1)
        ∙ sum_over-map (λ lambda. (lambda, w lambda)) (partitions n)
        (λ s. cond (nat_lt 0 (length s.1)) (reach e i m nu s.0 s.1) [])
        ∙ ap (sum_over (partitions n)) (λ j lambda. nonzero_reach lambda (w lambda) j)

    entries_size : (w : Vector) →
        sum_by (λ s. reach_size e i m nu s.0 s.1) (entries n w) ≡ sum_by
        (λ lambda. reach_size e i m nu lambda (w lambda)) (partitions n)
    entries_size w =
        sum-filter (λ s. nat_lt 0 (length s.1)) (λ s. reach_size e i m nu s.0 s.1)
        (map (λ lambda. (lambda, w lambda)) (partitions n))
        ∙ sum-map (λ s. cond (nat_lt 0 (length s.1)) (reach_size e i m nu s.0 s.1) 0) (λ lambda. (lambda, w lambda))
        (partitions n)
        ∙ ap (λ f. sum_by f (partitions n)) (λ j lambda. nonzero_size lambda (w lambda) j)

    -- ---- the two together; `same` is what holds of the entries of every vector

    module _ (es : Entries) (all : AllByRecursion (λ s. IsPartitionOf n s.0) es)
        (same : entries n (vector_of es) ≡ es) where
      all_partition : AllByRecursion (λ s. IsPartition s.0) es
      all_partition = all_weaken (λ s. IsPartitionOf n s.0) (λ s. IsPartition s.0) es (λ s h. h.partition) all

      -- The arrivals at nu, summed, are the divided power there.
      pub sum_of_arrivals : sum_over (filter (is_at nu) (arrivals e i m 0 es)) (share_of es) ≡ divided_power e i m
          (vector_of es) nu
      sum_of_arrivals =
          ap (λ l. sum_over l (share_of es)) (arrivals_are 0 es all_partition) ∙ sum_at [] es
          ∙ ap (λ l. sum_over l (λ s. reach e i m nu s.0 s.1)) (sym same)
          ∙ entries_sum (vector_of es) ∙ sym (power_is (vector_of es))

      -- The sizes of the arrivals at nu sum up to the size that reaches nu.
      pub size_of_arrivals : sum_by (size_of es) (filter (is_at nu) (arrivals e i m 0 es)) ≡ reaching_size e i m
          (vector_of es) nu
      size_of_arrivals =
          ap (sum_by (size_of es)) (arrivals_are 0 es all_partition) ∙ size_at [] es
          ∙ ap (sum_by (λ s. reach_size e i m nu s.0 s.1)) (sym same)
          ∙ entries_size (vector_of es) ∙ sym (size_is (vector_of es))
