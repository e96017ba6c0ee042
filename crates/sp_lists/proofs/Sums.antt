-- Sums over a list: of functions that agree, of sums and products, of one term, and class by class.
use Rattle.std.proofs.Common.{◌≡◌, ℕ, zero, suc, ◌+◌, ◌*◌, ◌<◌, ◌≤◌, Bool, true, false, cond, nat_eq, List, []}
use Rattle.std.proofs.Common.{◌∷◌, filter, length, refl, sym, ◌∙◌, ap, ap₂, arith, sum_by, eq-eqb, ne_eqb, ◌⊎◌, inl}
use Rattle.std.proofs.Common.{inr, sum, slice_index}
use Rattle.std.proofs.Common.{eq-or-lt_of_le, add-zero, zero-add}
use Rattle.std.specs.List.{AllByRecursion, range_with_len}
use Rattle.std.proofs.lemmas.List.Sums.{sum_by-cons}
use Rattle.sp_lists.proofs.Elements.{le_or_lt}
use Rattle.sp_lists.proofs.Places.{all_weaken}

-- functions that agree on each element
pub sum-alike : {X : Type 0} (f g : X → ℕ) (xs : List X) → AllByRecursion (λ x. f x ≡ g x) xs →
    sum_by f xs ≡ sum_by g xs
sum-alike f g [] h = refl
sum-alike f g (x ∷ xs) (h, hs) =
    sum_by-cons f x xs ∙ ap₂ (λ m n. m + n) h (sum-alike f g xs hs) ∙ sym (sum_by-cons g x xs)

-- the sum of a sum, and of a multiple
pub sum-plus : {X : Type 0} (f g : X → ℕ) (xs : List X) → sum_by (λ x. f x + g x) xs ≡ sum_by f xs + sum_by g xs
sum-plus f g [] = refl
sum-plus f g (x ∷ xs) =
    omega (
      arith,
      sum_by-cons (λ x. f x + g x) x xs,
      sum_by-cons f x xs,
      sum_by-cons g x xs,
      sum-plus f g xs,
    )

-- the sum of a multiple
pub sum-times : {X : Type 0} (e : ℕ) (f : X → ℕ) (xs : List X) → sum_by (λ x. e * f x) xs ≡ e * sum_by f xs
sum-times e f [] = omega arith
sum-times e f (x ∷ xs) =
    sum_by-cons (λ x. e * f x) x xs
    ∙ ap (λ n. e * f x + n) (sum-times e f xs)
    ∙ spread e (f x) (sum_by f xs)
    ∙ sym (ap (λ n. e * n) (sum_by-cons f x xs))
  where
    spread : (e m n : ℕ) → e * m + e * n ≡ e * (m + n)
    spread e m n = omega arith

-- the sum of zeros, and of ones
pub sum-zeros : {X : Type 0} (xs : List X) → sum_by (λ _. 0) xs ≡ 0
sum-zeros [] = refl
sum-zeros (x ∷ xs) = omega (arith, sum_by-cons (λ _. 0) x xs, sum-zeros xs)

-- the sum of ones
pub sum-ones : {X : Type 0} (xs : List X) → sum_by (λ _. 1) xs ≡ length xs
sum-ones [] = refl
sum-ones (x ∷ xs) = omega (arith, sum-ones xs, sum_by-cons (λ _. 1) x xs)

-- ---- numbers and their sum

-- the first is at most the sum
pub first-le-sum : (xs : List ℕ) → slice_index xs 0 ≤ sum xs
first-le-sum [] = omega arith
first-le-sum (x ∷ xs) = omega (arith, sum_by-cons (λ y. y) x xs)

-- each is at most the sum
pub all_below_sum : (xs : List ℕ) → AllByRecursion (λ x. x < sum xs + 1) xs
all_below_sum [] = tt
all_below_sum (x ∷ xs) =
    let e = sum_by-cons (λ y. y) x xs in (
      omega arith,
      all_weaken (λ y. y < sum xs + 1) (λ y. y < sum (x ∷ xs) + 1) xs (λ y lt. omega arith) (all_below_sum xs),
    )

-- ---- over a range

-- one term is at most the sum
pub term-le-sum : (f : ℕ → ℕ) (a n i : ℕ) → a ≤ i → i < a + n → f i ≤ sum_by f (range_with_len a n)
term-le-sum f a zero i lo hi = absurd (omega arith)
term-le-sum f a (suc n) i lo hi = settle (le_or_lt i a) (term-le-sum f (a + 1) n i)
  where
    settle : (i ≤ a) ⊎ (a < i) → (a + 1 ≤ i → i < a + 1 + n → f i ≤ sum_by f (range_with_len (a + 1) n)) →
        f i ≤ sum_by f (range_with_len a (suc n))
    settle (inl h) more =
        let same : i ≡ a = omega arith in
        omega (arith, sum_by-cons f a (range_with_len (a + 1) n), ap f same)
    settle (inr h) more =
        omega (arith, sum_by-cons f a (range_with_len (a + 1) n), more (omega arith) (omega arith))

sum-before : (x v a n : ℕ) → x < a → sum_by (λ i. cond (nat_eq x i) v 0) (range_with_len a n) ≡ 0
sum-before x v a zero h = refl
sum-before x v a (suc n) h =
    sum_by-cons (λ i. cond (nat_eq x i) v 0) a (range_with_len (a + 1) n)
    ∙ ap₂ (λ b m. cond b v 0 + m) (ne_eqb x a (λ e. omega arith)) (sum-before x v (a + 1) n (omega arith))

-- a sum with one term that is not 0
pub sum-one : (x v a n : ℕ) → a ≤ x → x < a + n → sum_by (λ i. cond (nat_eq x i) v 0) (range_with_len a n) ≡ v
sum-one x v a zero lo hi = absurd (omega arith)
sum-one x v a (suc n) lo hi =
    sum_by-cons (λ i. cond (nat_eq x i) v 0) a (range_with_len (a + 1) n)
    ∙ settle (eq-or-lt_of_le lo) (λ h. sum-one x v (a + 1) n h)
  where
    settle : (a ≡ x) ⊎ (a < x) →
        (a + 1 ≤ x → x < a + 1 + n → sum_by (λ i. cond (nat_eq x i) v 0) (range_with_len (a + 1) n) ≡ v) →
        cond (nat_eq x a) v 0 + sum_by (λ i. cond (nat_eq x i) v 0) (range_with_len (a + 1) n) ≡ v
    settle (inl e) more =
        ap₂ (λ b m. cond b v 0 + m) (eq-eqb x a (sym e)) (sum-before x v (a + 1) n (omega arith)) ∙ add-zero v
    settle (inr lt) more =
        ap₂ (λ b m. cond b v 0 + m) (ne_eqb x a (λ e. omega arith)) (more (omega arith) (omega arith)) ∙ zero-add v

-- ---- a sum by classes

class-cons : (r f : ℕ → ℕ) (i b : ℕ) (bs : List ℕ) →
    sum_by f (filter (λ b. nat_eq (r b) i) (b ∷ bs))
    ≡ cond (nat_eq (r b) i) (f b) 0 + sum_by f (filter (λ b. nat_eq (r b) i) bs)
class-cons r f i b bs = tested (nat_eq (r b) i) (filter (λ b. nat_eq (r b) i) bs)
  where
    tested : (v : Bool) (rest : List ℕ) → sum_by f (cond v (b ∷ rest) rest) ≡ cond v (f b) 0 + sum_by f rest
    tested true rest = sum_by-cons f b rest
    tested false rest = sym (zero-add (sum_by f rest))

-- Where the class of each number is below e, a sum is that of its sums over the classes.
pub sum-classes : (e : ℕ) (r f : ℕ → ℕ) (bs : List ℕ) → ((b : ℕ) → r b < e) →
    sum_by f bs ≡ sum_by (λ i. sum_by f (filter (λ b. nat_eq (r b) i) bs)) (range_with_len 0 e)
sum-classes e r f [] h = sym (sum-zeros (range_with_len 0 e))
sum-classes e r f (b ∷ bs) h =
    sum_by-cons f b bs
    ∙ ap₂ (λ m n. m + n) (sym (sum-one (r b) (f b) 0 e (omega arith) (omega (arith, h b)))) (sum-classes e r f bs h)
    ∙ sym (sum-plus (λ i. cond (nat_eq (r b) i) (f b) 0) (λ i. sum_by f (filter (λ b. nat_eq (r b) i) bs))
    (range_with_len 0 e))
    ∙ sym (sum-alike (λ i. sum_by f (filter (λ b. nat_eq (r b) i) (b ∷ bs)))
    (λ i. cond (nat_eq (r b) i) (f b) 0 + sum_by f (filter (λ b. nat_eq (r b) i) bs)) (range_with_len 0 e)
    (each (range_with_len 0 e)))
  where
    each : (is : List ℕ) → AllByRecursion (λ i. sum_by f (filter (λ b. nat_eq (r b) i) (b ∷ bs))
        ≡ cond (nat_eq (r b) i) (f b) 0 + sum_by f (filter (λ b. nat_eq (r b) i) bs)) is
    each [] = tt
    each (i ∷ is) = (class-cons r f i b bs, each is)
