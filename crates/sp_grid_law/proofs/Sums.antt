-- Sums of polynomials: of sums, with a factor behind, in another order, and over ranges of places.
use Rattle.std.proofs.Common.{◌≡◌, ◌≢◌, ℕ, zero, suc, ◌+◌, ◌<◌, ◌≤◌, List}
use Rattle.std.proofs.Common.{[], ◌∷◌, ◌++◌, refl, sym, ◌∙◌, ap, ap₂, arith}
use Rattle.std.proofs.Common.{◌⊎◌, inl, inr, eq-or-lt_of_le}
use Rattle.std.specs.List.{AllByRecursion, range_with_len}
use Rattle.sp_defs.specs.Laurent.{Laurent, IsLaurent, coefficient, collect, nought, one, plus, times, sum_over}
use Rattle.sp_algebra.proofs.Coefficients.{IsLaurent-collect, coefficient-collect, same_laurent}
use Rattle.sp_algebra.proofs.Laws.{IsLaurent-times, act-alike, act-collect, coefficient-times, plus_assoc, plus_comm}
use Rattle.sp_algebra.proofs.Laws.{plus_nought, nought_plus, plus_times, nought_times, times_one}
use Rattle.sp_algebra.proofs.Sums.{sum_over-alike}

-- ---- factors that are not collected

-- A product doesn't see whether the second factor was collected.
pub times-collect : (p q : Laurent) → times p (collect q) ≡ times p q
times-collect p q =
    same_laurent (times p (collect q)) (times p q) (IsLaurent-times p (collect q)) (IsLaurent-times p q)
    (λ j. coefficient-times p (collect q) j
    ∙ act-alike p (coefficient (collect q)) (coefficient q) j (coefficient-collect q)
    ∙ sym (coefficient-times p q j))

-- Nor does it see whether the first one was.
pub collect-times : (p q : Laurent) → times (collect p) q ≡ times p q
collect-times p q =
    same_laurent (times (collect p) q) (times p q) (IsLaurent-times (collect p) q) (IsLaurent-times p q)
    (λ j. coefficient-times (collect p) q j
    ∙ act-collect p (coefficient q) j
    ∙ sym (coefficient-times p q j))

-- Times 1, like powers are collected.
pub times_one-collect : (p : Laurent) → times p one ≡ collect p
times_one-collect p = sym (collect-times p one) ∙ times_one (collect p) (IsLaurent-collect p)

-- ---- over any list

four : (a b c d : Laurent) → plus (plus a b) (plus c d) ≡ plus (plus a c) (plus b d)
four a b c d =
    plus_assoc a b (plus c d)
    ∙ ap (plus a)
    (sym (plus_assoc b c d) ∙ ap (λ x. plus x d) (plus_comm b c) ∙ plus_assoc c b d)
    ∙ sym (plus_assoc a c (plus b d))

-- Where all are 0, so is the sum.
pub sum_over-noughts : {X : Type 0} (xs : List X) (f : X → Laurent) → AllByRecursion (λ x. f x ≡ []) xs →
    sum_over xs f ≡ []
unfolding sum_over collect
sum_over-noughts [] f h = refl
sum_over-noughts (x ∷ xs) f (h, hs) = ap₂ plus h (sum_over-noughts xs f hs) ∙ nought_plus [] refl

-- The sum of sums is the sum of the two sums.
pub sum_over-plus : {X : Type 0} (xs : List X) (f g : X → Laurent) →
    sum_over xs (λ x. plus (f x) (g x)) ≡ plus (sum_over xs f) (sum_over xs g)
unfolding sum_over collect
sum_over-plus [] f g = sym (nought_plus [] refl)
sum_over-plus (x ∷ xs) f g =
    ap (plus (plus (f x) (g x))) (sum_over-plus xs f g) ∙ four (f x) (g x) (sum_over xs f) (sum_over xs g)

-- A factor behind goes into the sum.
pub sum_over-times : {X : Type 0} (xs : List X) (f : X → Laurent) (p : Laurent) →
    times (sum_over xs f) p ≡ sum_over xs (λ x. times (f x) p)
unfolding sum_over
sum_over-times [] f p = nought_times p
sum_over-times (x ∷ xs) f p =
    plus_times (f x) (sum_over xs f) p ∙ ap (plus (times (f x) p)) (sum_over-times xs f p)

-- Two sums, one within the other, may be exchanged.
pub sum_over-exchange : {X Y : Type 0} (xs : List X) (ys : List Y) (f : X → Y → Laurent) →
    sum_over xs (λ x. sum_over ys (f x)) ≡ sum_over ys (λ y. sum_over xs (λ x. f x y))
unfolding sum_over
sum_over-exchange [] ys f = sym (sum_over-noughts ys (λ y. []) (none ys))
  where
    none : {Y : Type 0} (ys : List Y) → AllByRecursion (λ y. nought ≡ nought) ys
    none [] = tt
    none (y ∷ ys) = (refl, none ys)
sum_over-exchange (x ∷ xs) ys f =
    ap (plus (sum_over ys (f x))) (sum_over-exchange xs ys f)
    ∙ sym (sum_over-plus ys (f x) (λ y. sum_over xs (λ x. f x y)))

-- ---- over ranges

-- What holds of each number of a range, as a fact on the list.
pub all_range : (P : ℕ → Type 0) (a n : ℕ) → ((k : ℕ) → a ≤ k → k < a + n → P k) →
    AllByRecursion P (range_with_len a n)
all_range P a zero h = tt
all_range P a (suc n) h =
    (h a (omega arith) (omega arith), all_range P (a + 1) n (λ k from lt. h k (omega arith) (omega arith)))

-- Sums of polynomials that are the same on a range.
pub sum_over-range : (a n : ℕ) (f g : ℕ → Laurent) → ((k : ℕ) → a ≤ k → k < a + n → f k ≡ g k) →
    sum_over (range_with_len a n) f ≡ sum_over (range_with_len a n) g
sum_over-range a n f g h = sum_over-alike (range_with_len a n) f g (all_range (λ k. f k ≡ g k) a n h)

-- A sum over a range on which all are 0.
pub sum_over-none : (a n : ℕ) (f : ℕ → Laurent) → ((k : ℕ) → a ≤ k → k < a + n → f k ≡ []) →
    sum_over (range_with_len a n) f ≡ []
sum_over-none a n f h = sum_over-noughts (range_with_len a n) f (all_range (λ k. f k ≡ []) a n h)

-- A sum over a range on which one alone isn't 0.
pub sum_over-single : (f : ℕ → Laurent) (i a n : ℕ) → a ≤ i → i < a + n →
    ((k : ℕ) → a ≤ k → k < a + n → k ≢ i → f k ≡ []) → IsLaurent (f i) → sum_over (range_with_len a n) f ≡ f i
unfolding sum_over
sum_over-single f i a zero lo hi none l = absurd (omega arith)
sum_over-single f i a (suc n) lo hi none l = settle (eq-or-lt_of_le lo) (λ from. sum_over-single f i (a + 1) n from)
  where
    settle : (a ≡ i) ⊎ (a < i) →
        (a + 1 ≤ i → i < a + 1 + n → ((k : ℕ) → a + 1 ≤ k → k < a + 1 + n → k ≢ i → f k ≡ []) → IsLaurent (f i) →
        sum_over (range_with_len (a + 1) n) f ≡ f i) →
        plus (f a) (sum_over (range_with_len (a + 1) n) f) ≡ f i
    settle (inl e) more =
        ap₂ plus (ap f e)
        (sum_over-none (a + 1) n f (λ k from lt. none k (omega arith) (omega arith) (λ same. omega (arith, same, e))))
        ∙ plus_nought (f i) l
    settle (inr lt) more =
        ap₂ plus (none a (omega arith) (omega arith) (λ same. omega (arith, same, lt)))
        (more (omega arith) (omega arith) (λ k from lt ne. none k (omega arith) (omega arith) ne) l)
        ∙ nought_plus (f i) l
