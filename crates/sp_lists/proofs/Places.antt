-- What holds of each element, by the places of the elements.
use Rattle.std.proofs.Common.{◌≡◌, ℕ, zero, suc, ◌-◌, ◌<◌, ◌≤◌, List, [], ◌∷◌, take, drop, length, get_or, refl, ap}
use Rattle.std.proofs.Common.{arith, slice_set}
use Rattle.std.specs.List.{AllByRecursion}

-- what is implied by what holds of each
pub all_weaken : {X : Type 0} (P Q : X → Type 0) (xs : List X) → ((x : X) → P x → Q x) → AllByRecursion P xs
    → AllByRecursion Q xs
all_weaken P Q [] f h = tt
all_weaken P Q (x ∷ xs) f (h, hs) = (f x h, all_weaken P Q xs f hs)

-- the element at a place
pub all_at : {X : Type 0} (P : X → Type 0) (xs : List X) (i : ℕ) (d : X) → AllByRecursion P xs → i < length xs
    → P (get_or xs i d)
all_at P [] i d h lt = absurd (omega arith)
all_at P (x ∷ xs) zero d (h, hs) lt = h
all_at P (x ∷ xs) (suc i) d (h, hs) lt = all_at P xs i d hs (omega arith)

-- what holds at each place
pub all_places : {X : Type 0} (P : X → Type 0) (xs : List X) (d : X)
    → ((i : ℕ) → i < length xs → P (get_or xs i d)) → AllByRecursion P xs
all_places P [] d f = tt
all_places P (x ∷ xs) d f = (f 0 (omega arith), all_places P xs d (λ i lt. f (suc i) (omega arith)))

-- at each place before n
pub all_take : {X : Type 0} (P : X → Type 0) (xs : List X) (n : ℕ)
    → ((i : ℕ) (d : X) → i < n → i < length xs → P (get_or xs i d)) → AllByRecursion P (take n xs)
all_take P [] zero f = tt
all_take P [] (suc n) f = tt
all_take P (x ∷ xs) zero f = tt
all_take P (x ∷ xs) (suc n) f = (
  f zero x (omega arith) (omega arith),
  all_take P xs n
      (λ i d lt in_range. f (suc i) d (omega arith) (omega arith)),
)

-- at each place from n on
pub all_drop : {X : Type 0} (P : X → Type 0) (xs : List X) (n : ℕ)
    → ((i : ℕ) (d : X) → n ≤ i → i < length xs → P (get_or xs i d)) → AllByRecursion P (drop n xs)
all_drop P [] zero f = tt
all_drop P [] (suc n) f = tt
all_drop P (x ∷ xs) zero f = (
  f zero x (omega arith) (omega arith),
  all_drop P xs zero
      (λ i d le in_range. f (suc i) d (omega arith) (omega arith)),
)
all_drop P (x ∷ xs) (suc n) f = all_drop P xs n (λ i d le in_range. f (suc i) d (omega arith) (omega arith))

-- what holds of all holds from a place on
pub all_from : {X : Type 0} (P : X → Type 0) (n : ℕ) (xs : List X) → AllByRecursion P xs → AllByRecursion P (drop n xs)
all_from P zero [] h = h
all_from P zero (x ∷ xs) h = h
all_from P (suc n) [] h = h
all_from P (suc n) (x ∷ xs) (h, hs) = all_from P n xs hs

-- with one element put in place of another
pub all_set : {X : Type 0} (P : X → Type 0) (xs : List X) (i : ℕ) (y : X) → P y → AllByRecursion P xs
    → AllByRecursion P (slice_set xs i y)
all_set P [] i y k h = tt
all_set P (x ∷ xs) zero y k (h, hs) = (k, hs)
all_set P (x ∷ xs) (suc i) y k (h, hs) = (h, all_set P xs i y k hs)

-- a list without its first element, as a pattern takes it
pub rest-cons : {X : Type 0} (x : X) (xs : List X) → take (length (x ∷ xs) - 1) (drop 1 (x ∷ xs)) ≡ xs
rest-cons x xs = whole xs (length (x ∷ xs) - 1) (omega arith)
  where
    whole : {X : Type 0} (xs : List X) (n : ℕ) → length xs ≤ n → take n xs ≡ xs
    whole [] zero h = refl
    whole [] (suc n) h = refl
    whole (x ∷ xs) zero h = absurd (omega arith)
    whole (x ∷ xs) (suc n) h = ap (λ r. x ∷ r) (whole xs n (omega arith))
