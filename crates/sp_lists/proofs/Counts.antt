-- Counts and sums over lists that were filtered, mapped or put in another order.
use Rattle.std.proofs.Common.{◌≡◌, ℕ, ◌+◌, ◌≤◌, Bool, true, false, cond, ◌&&◌, List, [], ◌∷◌, map, filter, length, refl}
use Rattle.std.proofs.Common.{sym, ◌∙◌, ap, ap₂, arith, count_by, sum_by, zero-add}
use Rattle.std.specs.List.{AllByRecursion}
use Rattle.std.proofs.lemmas.List.Sums.{sum_by-cons, length-filter}
use Rattle.std.proofs.lemmas.List.Sorted.{sum_by-IsPermutation}
use Rattle.std.specs.List.Sorted.{IsPermutation}
use Rattle.sp_lists.proofs.Elements.{filter_twice}

-- a test counts for one at most
pub at_most_one : (b : Bool) → cond b 1 0 ≤ 1
at_most_one b = elim b as (λ b. cond b 1 0 ≤ 1) [ true ↦ omega arith | false ↦ omega arith ]

-- a first element
pub count-cons : {X : Type 0} (p : X → Bool) (x : X) (xs : List X) →
    count_by p (x ∷ xs) ≡ cond (p x) 1 0 + count_by p xs
count-cons p x xs = sum_by-cons (λ x. cond (p x) 1 0) x xs

-- of what passes one test, those that pass another
pub count-filter : {X : Type 0} (p t : X → Bool) (xs : List X) →
    count_by p (filter t xs) ≡ count_by (λ x. t x && p x) xs
count-filter p t xs = sym (length-filter p (filter t xs)) ∙ ap length (filter_twice p t xs)
    ∙ length-filter (λ x. t x && p x) xs

-- tests that agree on each element
pub count-alike : {X : Type 0} (p q : X → Bool) (xs : List X) → AllByRecursion (λ x. p x ≡ q x) xs →
    count_by p xs ≡ count_by q xs
count-alike p q [] h = refl
count-alike p q (x ∷ xs) (h, hs) = count-cons p x xs ∙ ap₂ (λ b n. cond b 1 0 + n) h (count-alike p q xs hs)
    ∙ sym (count-cons q x xs)

-- of the images
pub count-map : {X Y : Type 0} (p : Y → Bool) (f : X → Y) (xs : List X) →
    count_by p (map f xs) ≡ count_by (λ x. p (f x)) xs
count-map p f [] = refl
count-map p f (x ∷ xs) = count-cons p (f x) (map f xs) ∙ ap (λ n. cond (p (f x)) 1 0 + n) (count-map p f xs)
    ∙ sym (count-cons (λ x. p (f x)) x xs)

-- ---- sums over what passes a test

-- what passes a test, with 0 for the rest
pub sum-filter : {X : Type 0} (t : X → Bool) (f : X → ℕ) (xs : List X) →
    sum_by f (filter t xs) ≡ sum_by (λ x. cond (t x) (f x) 0) xs
sum-filter t f [] = refl
sum-filter t f (x ∷ xs) =
    elim (t x) as (λ b. sum_by f (cond b (x ∷ filter t xs) (filter t xs)) ≡ cond b (f x) 0 + sum_by
    (λ x. cond (t x) (f x) 0) xs) [
      | true ↦ sum_by-cons f x (filter t xs) ∙ ap (λ n. f x + n) (sum-filter t f xs)
      | false ↦ sum-filter t f xs ∙ sym (zero-add (sum_by (λ x. cond (t x) (f x) 0) xs))
    ]
    ∙ sym (sum_by-cons (λ x. cond (t x) (f x) 0) x xs)

-- the order does not matter
pub sum-filter-permutation : {X : Type 0} (t : X → Bool) (f : X → ℕ) (xs ys : List X) → IsPermutation xs ys →
    sum_by f (filter t ys) ≡ sum_by f (filter t xs)
sum-filter-permutation t f xs ys same =
    sum-filter t f ys ∙ sum_by-IsPermutation (λ x. cond (t x) (f x) 0) xs ys same ∙ sym (sum-filter t f xs)

-- of the images
pub sum-map : {X Y : Type 0} (f : Y → ℕ) (g : X → Y) (xs : List X) → sum_by f (map g xs) ≡ sum_by (λ x. f (g x)) xs
sum-map f g [] = refl
sum-map f g (x ∷ xs) = sum_by-cons f (g x) (map g xs) ∙ ap (λ n. f (g x) + n) (sum-map f g xs)
    ∙ sym (sum_by-cons (λ x. f (g x)) x xs)
