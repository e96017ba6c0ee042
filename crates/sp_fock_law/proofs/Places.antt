-- The entries of a vector by their places, and what a search by halves finds.
use Rattle.std.proofs.Common.{
  ◌≡◌,
  ◌≢◌,
  ℕ,
  false,
  zero,
  suc,
  ◌+◌,
  ◌<◌,
  List,
  [],
  ◌∷◌,
  length,
  get_or,
  Result,
  Ok,
  Err,
  refl,
  sym,
  ◌∙◌,
  ap,
  inl,
  inr,
  arith,
  Ordering,
  Less,
  Equal,
  Greater,
  is_eq,
  is_lt,
}
use Rattle.std.specs.Cmp.{IsTotalOrder}
use Rattle.std.specs.Ordering.{ordering_reverse}
use Rattle.std.specs.Result.{MatchResult}
use Rattle.std.specs.List.Sorted.{IsBinarySearchResult, IsPartitionPoint}
use Rattle.std.proofs.lemmas.Bool.{cases_lt}
use Rattle.std.proofs.lemmas.Cmp.{tied_itself}
use Rattle.std.proofs.lemmas.List.Sorted.{searchable_from_sorted}
use Rattle.sp_defs.specs.Partition.{compare, IsEarlier}
use Rattle.sp_defs.specs.Laurent.{Laurent}
use Rattle.sp_defs.specs.Power.{Entries, vector_of}
use Rattle.sp_shapes.proofs.Order.{same_lists}
use Rattle.sp_fock_law.proofs.Vectors.{AllLater, IsAscending, later_tail, vector_of-head, vector_of-other}

later_at : {X : Type 0} (kappa : List ℕ) (es : List (List ℕ × X)) → AllLater kappa es → (i : ℕ) (d : List ℕ × X)
    → i < length es → IsEarlier kappa (get_or es i d).0
later_at kappa [] h i d lt = absurd (omega arith)
later_at kappa (e ∷ es) (h, hs) zero d lt = h
later_at kappa (e ∷ es) (h, hs) (suc i) d lt = later_at kappa es hs i d (omega arith)

-- the partition at an earlier place is earlier
pub places_ascend : {X : Type 0} (es : List (List ℕ × X)) → IsAscending es → (i j : ℕ) (d : List ℕ × X) → i < j
    → j < length es → IsEarlier (get_or es i d).0 (get_or es j d).0
places_ascend [] h i j d lt within = absurd (omega arith)
places_ascend ((kappa, p) ∷ es) h zero zero d lt within = absurd (omega arith)
places_ascend ((kappa, p) ∷ es) h (suc i) zero d lt within = absurd (omega arith)
places_ascend ((kappa, p) ∷ es) h zero (suc j) d lt within =
    later_at kappa es (later_tail kappa p es h) j d (omega arith)
places_ascend ((kappa, p) ∷ es) (h, hs) (suc i) (suc j) d lt within =
    places_ascend es hs i j d (omega arith) (omega arith)

-- at the partition of an entry the vector has its polynomial
pub vector_of-at : (es : Entries) → IsAscending es → (i : ℕ) (d : List ℕ × Laurent) → i < length es
    → vector_of es (get_or es i d).0 ≡ (get_or es i d).1
vector_of-at [] h i d lt = absurd (omega arith)
vector_of-at ((kappa, p) ∷ es) h zero d lt = vector_of-head kappa p es
vector_of-at ((kappa, p) ∷ es) h (suc i) d lt =
    vector_of-other kappa (get_or es i d).0 p es
    (ap is_eq (later_at kappa es (later_tail kappa p es h) i d (omega arith)))
    ∙ vector_of-at es h.1 i d (omega arith)

-- the vector is 0 at a partition that no entry has
pub vector_of-absent : (es : Entries) (lambda : List ℕ) (d : List ℕ × Laurent)
    → ((i : ℕ) → i < length es → is_eq (compare (get_or es i d).0 lambda) ≡ false) → vector_of es lambda ≡ []
unfolding vector_of
vector_of-absent [] lambda d none = refl
vector_of-absent ((kappa, p) ∷ es) lambda d none =
    vector_of-other kappa lambda p es (none zero (omega arith)) ∙ vector_of-absent es lambda d
    (λ i lt. none (suc i) (omega arith))

apart : (R : List ℕ → List ℕ → Ordering) → IsTotalOrder R → (x y : List ℕ) → R x y ≢ Equal → is_eq (compare x y) ≡ false
apart R total x y ne = elim (compare x y) as (λ o. compare x y ≡ o → is_eq o ≡ false) [
  | Less ↦ λ _. refl
  | Equal ↦ λ e. absurd (ne (ap (R x) (sym (same_lists x y e)) ∙ tied_itself total x))
  | Greater ↦ λ _. refl
] refl

-- A search by halves, in any order by which the partitions ascend, finds the place of a partition, or that it has none.
pub searched : {X : Type 0} (R : List ℕ → List ℕ → Ordering) → IsTotalOrder R → (es : List (List ℕ × X))
    → ((i j : ℕ) (d : List ℕ × X) → i < j → j < length es → R (get_or es i d).0 (get_or es j d).0 ≡ Less)
    → ((x y : List ℕ) → R x y ≡ Equal → x ≡ y)
    → (lambda : List ℕ) (r : Result ℕ ℕ) → IsBinarySearchResult (λ t. R t.0 lambda) es r
    → MatchResult r (λ i. (d : List ℕ × X) → (get_or es i d).0 ≡ lambda)
    (λ _. (d : List ℕ × X) (k : ℕ) → k < length es → is_eq (compare (get_or es k d).0 lambda) ≡ false)
searched R total es rises same lambda (Ok i) found = λ d. same (get_or es i d).0 lambda (found d)
searched R total es rises same lambda (Err i) parted = λ d k lt.
    elim (cases_lt k i) [
      | inl before ↦ apart R total (get_or es k d).0 lambda
          (λ e. let z : Equal ≡ Less = sym e ∙ split.0 k d (omega arith) before in cc)
      | inr after ↦ apart R total (get_or es k d).0 lambda
          (λ e. let z : Equal ≡ Greater = sym e ∙ split.1 k d after lt in cc)
    ]
  where
    split : IsPartitionPoint (λ t. R t.0 lambda ≡ Less) (λ t. R t.0 lambda ≡ Greater) es i
    split = parted (searchable_from_sorted total (λ t. t.0) es lambda
        (λ k e low within. ap is_lt
        (total.antisymm (get_or es (k + 1) e).0 (get_or es k e).0 ∙ ap ordering_reverse
        (rises k (k + 1) e (omega arith) within))))
