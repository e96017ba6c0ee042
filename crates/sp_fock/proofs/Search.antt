-- What a search by halves finds in a vector, where partitions are ordered by degree first.
use Rattle.std.proofs.Common.{
  ◌≡◌,
  ◌≢◌,
  ℕ,
  ◌<◌,
  ◌≤◌,
  List,
  [],
  length,
  get_or,
  Result,
  Ok,
  Err,
  Less,
  is_eq,
  false,
  sym,
  ◌∙◌,
  ap,
  subst,
  arith,
}
use Rattle.std.specs.List.{AllByRecursion}
use Rattle.std.specs.List.Sorted.{IsSearchInRange, IsBinarySearchResult}
use Rattle.std.specs.Result.{MatchResult}
use Rattle.sp_defs.specs.Partition.{order, compare, IsPartitionOf}
use Rattle.sp_defs.specs.Laurent.{Laurent}
use Rattle.sp_defs.specs.Power.{Entries, FockVector, IsVector, vector_of}
use Rattle.sp_lists.proofs.Places.{all_at}
use Rattle.sp_fock_law.specs.Tally.{Totals, TallyValue, IsTally, IsTotals, total_of}
use Rattle.sp_fock_law.proofs.Places.{places_ascend, searched, vector_of-at, vector_of-absent}
use Rattle.sp_fock_law.proofs.Totals.{total_of-at, total_of-absent}
use Rattle.sp_fock_law.proofs.Vectors.{IsAscending}
use Rattle.sp_fock.specs.Held.{IsHeld}
use Rattle.sp_partition.specs.OrderLaws.{order_total, order_equal, order_one_degree}

-- a search in a list of partitions of one degree
place_of : {X : Type 0} (n : ℕ) (es : List (List ℕ × X)) → AllByRecursion (λ t. IsPartitionOf n t.0) es
    → IsAscending es → (lambda : List ℕ) (r : Result ℕ ℕ) → IsBinarySearchResult (λ t. order t.0 lambda) es r
    → MatchResult r (λ i. (d : List ℕ × X) → (get_or es i d).0 ≡ lambda)
    (λ _. (d : List ℕ × X) (k : ℕ) → k < length es → is_eq (compare (get_or es k d).0 lambda) ≡ false)
place_of {X} n es partitions_of ascending lambda r found =
    searched order order_total es rises order_equal lambda r found
  where
    rises : (i j : ℕ) (d : List ℕ × X) → i < j → j < length es → order (get_or es i d).0 (get_or es j d).0 ≡ Less
    rises i j d lt within =
        order_one_degree (get_or es i d).0 (get_or es j d).0
        ((all_at _ es i d partitions_of (omega arith)).total ∙ sym (all_at _ es j d partitions_of within).total)
        ∙ places_ascend es ascending i j d lt within

found_in : (n : ℕ) (es : Entries) → IsVector n es → (lambda : List ℕ) (r : Result ℕ ℕ)
    → IsSearchInRange r (length es) → IsBinarySearchResult (λ t. order t.0 lambda) es r
    → MatchResult r (λ i. (d : List ℕ × Laurent) → vector_of es lambda ≡ (get_or es i d).1)
    (λ _. vector_of es lambda ≡ [])
found_in n es h lambda (Ok i) in_range found = λ d.
    ap (vector_of es) (sym (place_of n es h.partitions_of h.ascending lambda (Ok i) found d))
    ∙ vector_of-at es h.ascending i d in_range
found_in n es h lambda (Err i) in_range parted =
    vector_of-absent es lambda ([], []) (place_of n es h.partitions_of h.ascending lambda (Err i) parted ([], []))

-- an entry's polynomial isn't 0
nonzero_at : (n : ℕ) (es : Entries) → IsVector n es → (i : ℕ) (d : List ℕ × Laurent) → i < length es
    → (get_or es i d).1 ≢ []
nonzero_at n es h i d lt = (all_at _ es i d h.polynomials lt).1

-- ---- by what a search of a kept vector answers

module _ (v : FockVector) (hv : IsHeld v) (es : Entries) (same : es ≡ v.entries) (lambda : List ℕ) where
  vector : IsVector v.degree es
  vector = subst (IsVector v.degree) (sym same) hv.vector

  looked_up : vector_of es lambda ≡ vector_of v.entries lambda
  looked_up = ap (λ xs. vector_of xs lambda) same

  module _ (i : ℕ) (d : List ℕ × Laurent) (in_range : i < length es) where
    -- what is found has the vector's polynomial there
    pub found_value : IsBinarySearchResult (λ t. order t.0 lambda) es (Ok i)
        → (get_or es i d).1 ≡ vector_of v.entries lambda
    found_value found = sym (found_in v.degree es vector lambda (Ok i) in_range found d) ∙ looked_up

    -- where something is found, the vector isn't 0
    pub found_nonzero : IsBinarySearchResult (λ t. order t.0 lambda) es (Ok i) → vector_of v.entries lambda ≢ []
    found_nonzero found e = nonzero_at v.degree es vector i d in_range (found_value found ∙ e)

  -- where nothing is found, the vector is 0
  pub absent_value : (i : ℕ) → i ≤ length es → IsBinarySearchResult (λ t. order t.0 lambda) es (Err i)
      → vector_of v.entries lambda ≡ []
  absent_value i in_range parted = sym looked_up ∙ found_in v.degree es vector lambda (Err i) in_range parted

-- ---- by what a search of a kept tally's totals answers

module _ (t : TallyValue) (tally : IsTally t) (ts : Totals) (same : ts ≡ t.totals) (lambda : List ℕ) where
  totals : IsTotals t.vector.degree ts
  totals = subst (IsTotals t.vector.degree) (sym same) tally.totals

  -- what is found has the total there
  pub total_found : (i : ℕ) (d : List ℕ × ℕ) → i < length ts → IsBinarySearchResult (λ t. order t.0 lambda) ts (Ok i)
      → (get_or ts i d).1 ≡ total_of t.totals lambda
  total_found i d in_range found =
      sym (total_of-at t.vector.degree ts totals i d in_range)
      ∙ ap (total_of ts)
      (place_of t.vector.degree ts totals.partitions_of totals.ascending lambda (Ok i) found d)
      ∙ ap (λ us. total_of us lambda) same

  -- where nothing is found, the total is 0
  pub total_absent : (i : ℕ) → IsBinarySearchResult (λ t. order t.0 lambda) ts (Err i) → 0 ≡ total_of t.totals lambda
  total_absent i parted =
      sym (total_of-absent ts lambda ([], 0)
      (place_of t.vector.degree ts totals.partitions_of totals.ascending lambda (Err i) parted ([], 0)))
      ∙ ap (λ us. total_of us lambda) same
