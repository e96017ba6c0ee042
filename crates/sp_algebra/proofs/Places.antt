-- The terms of a polynomial by their places: powers ascend, a power that stands nowhere has coefficient 0, and what a
-- search by halves finds.
use Rattle.std.proofs.Common.{◌≡◌, ◌≢◌, ℕ, zero, suc, ◌<◌, ◌≤◌, [], ◌∷◌, length, get_or, Result, Ok, Err, refl, sym}
use Rattle.std.proofs.Common.{◌∙◌, ap, ap₂, subst, inl, inr, arith, ℤ, pos, ◌+ℤ◌, ◌<ℤ◌, ◌≤ℤ◌, Less, Equal, Greater}
use Rattle.std.proofs.Common.{int_cmp}
use Rattle.std.proofs.lemmas.Int.{ints}
use Rattle.std.specs.Ordering.{MatchOrdering, ordering_index}
use Rattle.std.specs.declared.cmp.Ordering.{Ordering}
use Rattle.std.specs.Result.{MatchResult}
use Rattle.std.specs.Cmp.{int_ranks}
use Rattle.std.specs.List.Sorted.{IsSearchInRange, IsBinarySearchResult, IsNonDecreasingBy}
use Rattle.std.proofs.lemmas.Bool.{cases_lt}
use Rattle.sp_defs.specs.Laurent.{Laurent, Term, coefficient}
use Rattle.sp_algebra.proofs.Coefficients.{Above, Canonical, at-same, at-other, nothing_below}

-- powers above m are above it at each place
pub above_at : (m : ℤ) (p : Laurent) → Above m p → (i : ℕ) (d : Term) → i < length p → m <ℤ (get_or p i d).0
above_at m [] a i d lt = absurd (omega arith)
above_at m ((k, c) ∷ p) (h, a) zero d lt = h
above_at m ((k, c) ∷ p) (h, a) (suc i) d lt = above_at m p a i d (omega arith)

-- the power at an earlier place of a canonical list is less
pub powers_ascend : (p : Laurent) → Canonical p → (i j : ℕ) (d : Term) → i < j → j < length p
    → (get_or p i d).0 <ℤ (get_or p j d).0
powers_ascend [] h i j d lt in_range = absurd (omega arith)
powers_ascend ((k, c) ∷ p) (ne, (a, h)) zero zero d lt in_range = absurd (omega arith)
powers_ascend ((k, c) ∷ p) (ne, (a, h)) (suc i) zero d lt in_range = absurd (omega arith)
powers_ascend ((k, c) ∷ p) (ne, (a, h)) zero (suc j) d lt in_range = above_at k p a j d (omega arith)
powers_ascend ((k, c) ∷ p) (ne, (a, h)) (suc i) (suc j) d lt in_range =
    powers_ascend p h i j d (omega arith) (omega arith)

-- the coefficient at the power of a term is that of the term
pub coefficient_at : (p : Laurent) → Canonical p → (i : ℕ) (d : Term) → i < length p
    → coefficient p (get_or p i d).0 ≡ (get_or p i d).1
unfolding coefficient
coefficient_at [] h i d lt = absurd (omega arith)
coefficient_at ((k, c) ∷ p) (ne, (a, h)) zero d lt =
    ap₂ (λ x y. x +ℤ y) (at-same k c) (nothing_below k p k a (omega (arith, ints))) ∙ omega (arith, ints)
coefficient_at ((k, c) ∷ p) (ne, (a, h)) (suc i) d lt =
    ap₂ (λ x y. x +ℤ y) (at-other k c (get_or p i d).0 (λ e. omega (arith, ints, above_at k p a i d (omega arith))))
    (coefficient_at p h i d (omega arith)) ∙ omega (arith, ints)

-- the coefficient at a power that no term has is 0
pub coefficient_absent : (p : Laurent) (j : ℤ) (d : Term) → ((i : ℕ) → i < length p → (get_or p i d).0 ≢ j)
    → coefficient p j ≡ pos 0
unfolding coefficient
coefficient_absent [] j d none = refl
coefficient_absent ((k, c) ∷ p) j d none =
    ap₂ (λ x y. x +ℤ y) (at-other k c j (none zero (omega arith)))
    (coefficient_absent p j d (λ i lt. none (suc i) (omega arith)))

-- comparisons with a number rise as their left side does
comparison_rises : (a b j : ℤ) → a ≤ℤ b → ordering_index (int_cmp a j) ≤ ordering_index (int_cmp b j)
comparison_rises a b j le = grind (arith, ints)

comparisons_rise : (p : Laurent) → Canonical p → (j : ℤ) → IsNonDecreasingBy (λ t. ordering_index (int_cmp t.0 j)) p
comparisons_rise p h j i k d le in_range = elim (cases_lt i k) [
  | inl lt ↦ comparison_rises (get_or p i d).0 (get_or p k d).0 j
      (omega (arith, ints, powers_ascend p h i k d lt in_range))
  | inr ge ↦ subst (λ n. ordering_index (int_cmp (get_or p i d).0 j) ≤ ordering_index
      (int_cmp (get_or p n d).0 j)) {x = i} (omega arith) (omega arith)
]

ranked : (a b : ℤ) (o : Ordering) → int_cmp a b ≡ o → MatchOrdering o (a <ℤ b) (a ≡ b) (b <ℤ a)
ranked a b o e = subst (λ x. MatchOrdering x (a <ℤ b) (a ≡ b) (b <ℤ a)) e (int_ranks a b)

-- a search by power finds the coefficient, or that it is 0
pub searched : (p : Laurent) → Canonical p → (j : ℤ) (r : Result ℕ ℕ) → IsSearchInRange r (length p)
    → IsBinarySearchResult (λ t. int_cmp t.0 j) p r
    → MatchResult r (λ i. (d : Term) → coefficient p j ≡ (get_or p i d).1) (λ _. coefficient p j ≡ pos 0)
searched p h j (Ok i) in_range equal = λ d.
    sym (ap (coefficient p) (ranked (get_or p i d).0 j Equal (equal d))) ∙ coefficient_at p h i d in_range
searched p h j (Err i) in_range parted = coefficient_absent p j (pos 0, pos 0) (λ k lt e.
    elim (cases_lt k i) [
      | inl before ↦ omega (
        arith,
        ints,
        ranked (get_or p k (pos 0, pos 0)).0 j Less
            ((parted (comparisons_rise p h j)).0 k (pos 0, pos 0) (omega arith) before),
      )
      | inr after ↦ omega (
        arith,
        ints,
        ranked (get_or p k (pos 0, pos 0)).0 j Greater
            ((parted (comparisons_rise p h j)).1 k (pos 0, pos 0) after lt),
      )
    ])
