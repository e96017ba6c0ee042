-- Sums of the first n values of a function.
use Rattle.std.proofs.Common.{◌≡◌, ℕ, zero, suc, ◌+◌, ◌-◌, ◌≤◌, List, [], ◌∷◌, length, slice_index, sum, refl, sym}
use Rattle.std.proofs.Common.{◌∙◌, ap, ap₂, arith}
use Rattle.std.proofs.lemmas.List.Sums.{sum_by-cons}
use Rattle.sp_lr_defs.specs.Strip.{first}

-- zeros add up to 0
pub first-zeros : (n : ℕ) (f : ℕ → ℕ) → ((i : ℕ) → f i ≡ 0) → first n f ≡ 0
first-zeros zero f h = refl
first-zeros (suc n) f h = omega (arith, h 0, first-zeros n (λ i. f (suc i)) (λ i. h (suc i)))

-- functions that agree
pub first-alike : (n : ℕ) (f g : ℕ → ℕ) → ((i : ℕ) → f i ≡ g i) → first n f ≡ first n g
first-alike zero f g h = refl
first-alike (suc n) f g h = ap₂ (λ a b. a + b) (h 0) (first-alike n (λ i. f (suc i)) (λ i. g (suc i)) (λ i. h (suc i)))

-- a smaller function has the smaller sum
pub first-le : (n : ℕ) (f g : ℕ → ℕ) → ((i : ℕ) → f i ≤ g i) → first n f ≤ first n g
first-le zero f g h = omega arith
first-le (suc n) f g h = omega (arith, h 0, first-le n (λ i. f (suc i)) (λ i. g (suc i)) (λ i. h (suc i)))

-- the sum of a difference
pub first-minus : (n : ℕ) (f g : ℕ → ℕ) → ((i : ℕ) → g i ≤ f i) → first n (λ i. f i - g i) + first n g ≡ first n f
first-minus zero f g h = refl
first-minus (suc n) f g h =
    omega (arith, h 0, first-minus n (λ i. f (suc i)) (λ i. g (suc i)) (λ i. h (suc i)))

-- one value more
pub first-snoc : (n : ℕ) (f : ℕ → ℕ) → first (suc n) f ≡ first n f + f n
first-snoc zero f = omega arith
first-snoc (suc n) f = omega (arith, first-snoc n (λ i. f (suc i)))

-- the sum of a list is that of its values, and of zeros behind it
pub first-list : (n : ℕ) (xs : List ℕ) → length xs ≤ n → first n (λ i. slice_index xs i) ≡ sum xs
first-list n [] h = first-zeros n (λ i. slice_index [] i) (λ i. refl)
first-list zero (x ∷ xs) h = absurd (omega arith)
first-list (suc n) (x ∷ xs) h =
    ap (λ m. x + m) (first-list n xs (omega arith)) ∙ sym (sum_by-cons (λ y. y) x xs)

-- the first values of a list add up to at most its sum
pub first-list_le : (n : ℕ) (xs : List ℕ) → first n (λ i. slice_index xs i) ≤ sum xs
first-list_le zero xs = omega arith
first-list_le (suc n) [] = omega (arith, first-zeros (suc n) (λ i. slice_index [] i) (λ i. refl))
first-list_le (suc n) (x ∷ xs) = omega (arith, first-list_le n xs, sum_by-cons (λ y. y) x xs)
