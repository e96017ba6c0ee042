-- What a search by halves finds in a list of partitions that ascends strictly.
use Rattle.std.proofs.Common.{◌≡◌, ◌≢◌, ◌↔◌, ℕ, ◌+◌, ◌<◌, ◌≤◌, List, [], length, get_or, inl, inr, refl, sym, ◌∙◌, ap}
use Rattle.std.proofs.Common.{Result, Ok, Err, Option, Some, None, IsNone, Less, Equal, Greater, is_lt, subst, arith}
use Rattle.std.specs.List.{Contains}
use Rattle.std.specs.Result.{result_ok}
use Rattle.std.specs.Ordering.{ordering_reverse}
use Rattle.std.specs.List.Sorted.{IsSearchInRange, IsBinarySearchResult, IsPartitionPoint}
use Rattle.std.proofs.lemmas.Bool.{cases_lt}
use Rattle.std.proofs.lemmas.Cmp.{tied_itself}
use Rattle.std.proofs.lemmas.List.{get_or_default}
use Rattle.std.proofs.lemmas.List.Sorted.{searchable_from_sorted}
use Rattle.sp_defs.specs.Partition.{order}
use Rattle.sp_partition.specs.OrderLaws.{order_total, order_equal}

module _ (list : List (List ℕ))
    (rises : (i j : ℕ) → i < j → j < length list → order (get_or list i []) (get_or list j []) ≡ Less)
    (p : List ℕ) where
  -- no partition stands in two places
  one_place : (i j : ℕ) → i < j → j < length list → get_or list i [] ≢ get_or list j []
  one_place i j lt within same =
      let z : Less ≡ Equal = sym (rises i j lt within) ∙ ap (λ q. order q (get_or list j [])) same
      ∙ tied_itself order_total (get_or list j []) in cc

  place_is : (i k : ℕ) → i < length list → k < length list → get_or list i [] ≡ get_or list k [] → i ≡ k
  place_is i k hi hk same = elim (cases_lt i k) [
    | inl before ↦ absurd (one_place i k before hk same)
    | inr after ↦ elim (cases_lt k i) [
      | inl before ↦ absurd (one_place k i before hi (sym same))
      | inr up ↦ omega arith
    ]
  ]

  found : (i : ℕ) → IsBinarySearchResult (λ q. order q p) list (Ok i) → get_or list i [] ≡ p
  found i is = order_equal (get_or list i []) p (is [])

  absent : (i : ℕ) → i ≤ length list → IsBinarySearchResult (λ q. order q p) list (Err i) →
      (k : ℕ) → k < length list → get_or list k [] ≢ p
  absent i in_range parted k lt same = elim (cases_lt k i) [
    | inl before ↦ let z : Equal ≡ Less = sym tied ∙ split.0 k [] (omega arith) before in cc
    | inr after ↦ let z : Equal ≡ Greater = sym tied ∙ split.1 k [] after lt in cc
  ]
    where
      tied : order (get_or list k []) p ≡ Equal
      tied = ap (λ q. order q p) same ∙ tied_itself order_total p

      split : IsPartitionPoint (λ q. order q p ≡ Less) (λ q. order q p ≡ Greater) list i
      split = parted (searchable_from_sorted order_total (λ q. q) list p
          (λ k e low within. ap is_lt
          (order_total.antisymm (get_or list (k + 1) e) (get_or list k e) ∙ ap ordering_reverse
          (ap (λ q. order q (get_or list (k + 1) e)) (get_or_default list k e [] (omega arith))
          ∙ ap (λ q. order (get_or list k []) q) (get_or_default list (k + 1) e [] within)
          ∙ rises k (k + 1) (omega arith) within))))

  holds : (k : ℕ) → k < length list → get_or list k [] ≡ p → Contains list p
  holds k lt is = (k, lt, get_or_default list k p [] lt ∙ is)

  -- ---- by what the search answers

  -- Where the search finds a place, the list has the partition,
  pub found_none : (i : ℕ) → i < length list → IsBinarySearchResult (λ q. order q p) list (Ok i) → Contains list p
  found_none i in_range is = holds i in_range (found i is)

  -- and that place is its only one.
  pub found_some : (i : ℕ) → i < length list → IsBinarySearchResult (λ q. order q p) list (Ok i) →
      (k : ℕ) → (i ≡ k) ↔ ((k < length list) × (get_or list k [] ≡ p))
  found_some i in_range is k = (
    λ e. subst (λ k. (k < length list) × (get_or list k [] ≡ p)) e (in_range, found i is),
    λ at. place_is i k in_range at.0 (found i is ∙ sym at.1),
  )

  -- Where it finds none, the list doesn't have it,
  pub absent_none : (i : ℕ) → i ≤ length list → IsBinarySearchResult (λ q. order q p) list (Err i) →
      Contains list p → ⊥
  absent_none i in_range is (k, lt, at) = absent i in_range is k lt (get_or_default list k [] p lt ∙ at)

  -- and it stands at no place.
  pub absent_some : (i : ℕ) → i ≤ length list → IsBinarySearchResult (λ q. order q p) list (Err i) →
      (k : ℕ) → k < length list → get_or list k [] ≢ p
  absent_some = absent

  -- ---- the option

  -- There is no rank exactly where the list doesn't have the partition.
  pub rank_none : (r : Result ℕ ℕ) → IsSearchInRange r (length list) →
      IsBinarySearchResult (λ q. order q p) list r → (result : Option ℕ) →
      result ≡ result_ok r → IsNone result ↔ (Contains list p → ⊥)
  rank_none (Ok i) in_range is result e = (
    λ none. absurd (let n : IsNone (Some i) = subst IsNone e none in cc),
    λ no. absurd (no (found_none i in_range is)),
  )
  rank_none (Err i) in_range is result e = (
    λ none. absent_none i in_range is,
    λ no. subst IsNone (sym e) refl,
  )

  -- A rank is the place of the partition in the list, and the other way round.
  pub rank_some : (r : Result ℕ ℕ) → IsSearchInRange r (length list) →
      IsBinarySearchResult (λ q. order q p) list r → (result : Option ℕ) →
      result ≡ result_ok r →
      (k : ℕ) → (result ≡ Some k) ↔ ((k < length list) × (get_or list k [] ≡ p))
  rank_some (Ok i) in_range is result e k = (
    λ some. (found_some i in_range is k).0 (let s : Some i ≡ Some k = sym e ∙ some in cc),
    λ at. e ∙ ap Some ((found_some i in_range is k).1 at),
  )
  rank_some (Err i) in_range is result e k = (
    λ some. let s : None ≡ Some k = sym e ∙ some in cc,
    λ at. absurd (absent i in_range is k at.0 at.1),
  )
