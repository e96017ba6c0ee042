-- The value of a polynomial at v = 1, and where only positive powers occur.
use Rattle.std.proofs.Common.{◌≡◌, ℕ, ◌+◌, ◌<◌, ◌≤◌, [], ◌∷◌, ◌++◌, take, get_or, length, refl, sym, ◌∙◌}
use Rattle.std.proofs.Common.{ap}
use Rattle.std.proofs.Common.{ap₂, arith, ℤ, pos, ◌+ℤ◌, ◌<ℤ◌, ◌≤ℤ◌, int_cmp, int_lt, true, Less, Equal, Greater}
use Rattle.std.specs.Ordering.{MatchOrdering}
use Rattle.std.specs.Cmp.{int_ranks}
use Rattle.std.proofs.lemmas.Int.{ints}
use Rattle.std.proofs.lemmas.List.{take_more}
use Rattle.std.proofs.lemmas.List.Sums.{sum_by-take-le}
use Rattle.std.specs.Int.RustNames.{unsigned_abs}
use Rattle.sp_defs.specs.Laurent.{Laurent, Term, IsPositive, coefficient, size, int_sum, value_at_one}
use Rattle.sp_algebra.proofs.Coefficients.{Above, Above-lower, Canonical, at-same, nothing_below}
use Rattle.sp_algebra.proofs.Sizes.{size-cons}

-- the values at 1 of joined lists add up
pub value-append : (p q : Laurent) → value_at_one (p ++ q) ≡ value_at_one p +ℤ value_at_one q
unfolding int_sum
value-append [] q = omega (arith, ints)
value-append ((k, c) ∷ p) q = omega (arith, ints, value-append p q)

-- the value at 1 is no further from 0 than the size
pub value_le_size : (p : Laurent) → unsigned_abs (value_at_one p) ≤ size p
unfolding int_sum
value_le_size [] = omega (arith, ints)
value_le_size ((k, c) ∷ p) = omega (arith, ints, value_le_size p, size-cons k c p)

-- the value of 0 at 1 is 0
pub value-nought : value_at_one [] ≡ pos 0
unfolding int_sum
value-nought = refl

-- one more term
pub value-more : (p : Laurent) (i : ℕ) (d : Term) → i < length p
    → value_at_one (take (i + 1) p) ≡ value_at_one (take i p) +ℤ (get_or p i d).1
unfolding int_sum
value-more p i d lt =
    ap value_at_one (take_more p i d lt) ∙ value-append (take i p) (get_or p i d ∷ []) ∙ omega (arith, ints)

-- the first power decides
pub positive_above : (p : Laurent) → Above (pos 0) p → IsPositive p
positive_above p a j le = nothing_below (pos 0) p j a le

-- where only positive powers occur, the first power is positive
pub first_positive : (k c : ℤ) (p : Laurent) → Canonical ((k, c) ∷ p) → IsPositive ((k, c) ∷ p) → pos 0 <ℤ k
unfolding coefficient
first_positive k c p (ne, (a, h)) positive = by_order k (λ le. ne (sym (shown le) ∙ positive k le))
  where
    shown : k ≤ℤ pos 0 → coefficient ((k, c) ∷ p) k ≡ c
    shown le = ap₂ (λ x y. x +ℤ y) (at-same k c) (nothing_below k p k a (omega (arith, ints))) ∙ omega (arith, ints)

    by_order : (k : ℤ) → (k ≤ℤ pos 0 → ⊥) → pos 0 <ℤ k
    by_order k never = elim (int_cmp k (pos 0)) as (λ o. MatchOrdering o (k <ℤ pos 0) (k ≡ pos 0)
        (pos 0 <ℤ k) → pos 0 <ℤ k) [
          | Less ↦ λ h. absurd (never (omega (arith, ints)))
          | Equal ↦ λ h. absurd (never (omega (arith, ints)))
          | Greater ↦ λ h. h
        ] (int_ranks k (pos 0))

-- so a test of the first power decides
pub first_decides : (p : Laurent) (d : Term) → Canonical p → 0 < length p
    → (int_lt (pos 0) (get_or p 0 d).0 ≡ true → IsPositive p) × (IsPositive p → int_lt (pos 0)
    (get_or p 0 d).0 ≡ true)
first_decides [] d h some = absurd (omega arith)
first_decides ((k, c) ∷ p) d (ne, (a, h)) some = (
  (λ test. let lt = above k test in positive_above ((k, c) ∷ p) (lt, Above-lower (pos 0) k p lt a)),
  (λ positive. tested k (first_positive k c p (ne, (a, h)) positive)),
)
  where
    above : (k : ℤ) → int_lt (pos 0) k ≡ true → pos 0 <ℤ k
    above k e = grind (arith, ints)

    tested : (k : ℤ) → pos 0 <ℤ k → int_lt (pos 0) k ≡ true
    tested k lt = grind (arith, ints)

-- a list with no terms has only positive powers
pub positive_nought : (p : Laurent) → length p ≤ 0 → IsPositive p
unfolding coefficient
positive_nought [] none j le = refl
positive_nought (t ∷ p) none j le = absurd (omega arith)

-- the value of a first part and one more term is at most the size
pub value_small : (p : Laurent) (i : ℕ) (d : Term) → i < length p
    → unsigned_abs (value_at_one (take i p) +ℤ (get_or p i d).1) ≤ size p
value_small p i d lt =
    omega (
      arith,
      ap unsigned_abs (value-more p i d lt),
      value_le_size (take (i + 1) p),
      sum_by-take-le (λ (t : Term). unsigned_abs t.1) p (i + 1),
    )
