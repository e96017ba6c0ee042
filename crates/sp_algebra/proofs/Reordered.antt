-- Sums of polynomials over a list in another order, and over the elements that pass a test.
use Rattle.std.proofs.Common.{◌≡◌, Bool, true, false, cond, List, [], ◌∷◌, map, filter, refl, sym, ◌∙◌, ap, ap₂}
use Rattle.std.proofs.Common.{ℤ, pos, ◌+ℤ◌, ◌-ℤ◌, arith, sum_by}
use Rattle.std.proofs.lemmas.Int.{ints}
use Rattle.std.proofs.lemmas.List.Sums.{sum_by-cons}
use Rattle.std.proofs.lemmas.List.Sorted.{sum_by-IsPermutation}
use Rattle.std.specs.List.Sorted.{IsPermutation}
use borrow.Author.Differences.{up, down}
use Rattle.sp_defs.specs.Laurent.{Laurent, coefficient, plus, sum_over, int_sum}
use Rattle.sp_algebra.proofs.Coefficients.{same_laurent}
use Rattle.sp_algebra.proofs.Laws.{coefficient-plus, nought_plus}
use Rattle.sp_algebra.proofs.Sums.{IsLaurent-sum_over}

coefficient-sum_over : {X : Type 0} (xs : List X) (f : X → Laurent) (j : ℤ) →
    coefficient (sum_over xs f) j ≡ int_sum (map (λ x. coefficient (f x) j) xs)
unfolding sum_over coefficient int_sum
coefficient-sum_over [] f j = refl
coefficient-sum_over (x ∷ xs) f j =
    coefficient-plus (f x) (sum_over xs f) j ∙ ap (λ n. coefficient (f x) j +ℤ n) (coefficient-sum_over xs f j)

-- A sum of whole numbers is the difference of two sums of natural numbers.
int_sum-parts : {X : Type 0} (g : X → ℤ) (xs : List X) →
    int_sum (map g xs) ≡ pos (sum_by (λ x. up (g x)) xs) -ℤ pos (sum_by (λ x. down (g x)) xs)
unfolding int_sum
int_sum-parts g [] = omega (arith, ints)
int_sum-parts g (x ∷ xs) =
    omega (arith, ints, int_sum-parts g xs, sum_by-cons (λ x. up (g x)) x xs, sum_by-cons (λ x. down (g x)) x xs)

int_sum-permutation : {X : Type 0} (g : X → ℤ) (xs ys : List X) → IsPermutation xs ys →
    int_sum (map g ys) ≡ int_sum (map g xs)
int_sum-permutation g xs ys same =
    int_sum-parts g ys
    ∙ ap₂ (λ m n. pos m -ℤ pos n) (sum_by-IsPermutation (λ x. up (g x)) xs ys same)
    (sum_by-IsPermutation (λ x. down (g x)) xs ys same)
    ∙ sym (int_sum-parts g xs)

-- a sum over a list does not depend on the order of the list
pub sum_over-permutation : {X : Type 0} (xs ys : List X) (f : X → Laurent) → IsPermutation xs ys →
    sum_over ys f ≡ sum_over xs f
sum_over-permutation xs ys f same =
    same_laurent (sum_over ys f) (sum_over xs f) (IsLaurent-sum_over ys f) (IsLaurent-sum_over xs f)
    (λ j. coefficient-sum_over ys f j ∙ int_sum-permutation (λ x. coefficient (f x) j) xs ys same
    ∙ sym (coefficient-sum_over xs f j))

-- What fails the test counts as 0.
pub sum_over-filter : {X : Type 0} (t : X → Bool) (xs : List X) (f : X → Laurent) →
    sum_over (filter t xs) f ≡ sum_over xs (λ x. cond (t x) (f x) [])
unfolding sum_over
sum_over-filter t [] f = refl
sum_over-filter t (x ∷ xs) f =
    elim (t x) as (λ b. sum_over (cond b (x ∷ filter t xs) (filter t xs)) f ≡ plus (cond b (f x) [])
    (sum_over xs (λ x. cond (t x) (f x) []))) [
      | true ↦ ap (plus (f x)) (sum_over-filter t xs f)
      | false ↦ sum_over-filter t xs f
          ∙ sym (nought_plus (sum_over xs (λ x. cond (t x) (f x) []))
          (IsLaurent-sum_over xs (λ x. cond (t x) (f x) [])))
    ]

-- nor does a sum over the elements that pass a test
pub sum_over-filter-permutation : {X : Type 0} (t : X → Bool) (xs ys : List X) (f : X → Laurent) → IsPermutation xs ys →
    sum_over (filter t ys) f ≡ sum_over (filter t xs) f
sum_over-filter-permutation t xs ys f same =
    sum_over-filter t ys f ∙ sum_over-permutation xs ys (λ x. cond (t x) (f x) []) same ∙ sym (sum_over-filter t xs f)
