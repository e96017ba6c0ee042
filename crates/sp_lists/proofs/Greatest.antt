-- The greatest of a list of numbers.
use Rattle.std.proofs.Common.{ℕ, ◌≤◌, max, fold, List, [], ◌∷◌, map, arith, ◌↔◌}
use Rattle.std.specs.List.{AllByRecursion}

-- the greatest of a start and a list
fold_within : (b start : ℕ) (xs : List ℕ) → start ≤ b → AllByRecursion (λ x. x ≤ b) xs → fold max start xs ≤ b
fold_within b start [] h hs = h
fold_within b start (x ∷ xs) h (hx, hs) = fold_within b (max start x) xs (omega arith) hs

fold_from : (start : ℕ) (xs : List ℕ) → start ≤ fold max start xs
fold_from start [] = omega arith
fold_from start (x ∷ xs) = omega (arith, fold_from (max start x) xs)

within_fold : (b start : ℕ) (xs : List ℕ) → fold max start xs ≤ b → AllByRecursion (λ x. x ≤ b) xs
within_fold b start [] h = tt
within_fold b start (x ∷ xs) h = (omega (arith, h, fold_from (max start x) xs), within_fold b (max start x) xs h)

-- all are within a bound exactly where the greatest is
pub greatest_within : (b : ℕ) (xs : List ℕ) → AllByRecursion (λ x. x ≤ b) xs → fold max 0 xs ≤ b
greatest_within b xs h = fold_within b 0 xs (omega arith) h

-- each is within a bound that the greatest keeps
pub within_greatest : (b : ℕ) (xs : List ℕ) → fold max 0 xs ≤ b → AllByRecursion (λ x. x ≤ b) xs
within_greatest b xs h = within_fold b 0 xs h

-- the images are within a bound where the values are, and back
pub map_within : {X : Type 0} (f : X → ℕ) (b : ℕ) (xs : List X) → AllByRecursion (λ x. f x ≤ b) xs →
    AllByRecursion (λ n. n ≤ b) (map f xs)
map_within f b [] h = tt
map_within f b (x ∷ xs) (h, hs) = (h, map_within f b xs hs)

-- the values are within a bound that the images keep
pub within_map : {X : Type 0} (f : X → ℕ) (b : ℕ) (xs : List X) → AllByRecursion (λ n. n ≤ b) (map f xs) →
    AllByRecursion (λ x. f x ≤ b) xs
within_map f b [] h = tt
within_map f b (x ∷ xs) (h, hs) = (h, within_map f b xs hs)

-- in one statement
pub greatest_exactly : (b : ℕ) (xs : List ℕ) → (fold max 0 xs ≤ b) ↔ AllByRecursion (λ x. x ≤ b) xs
greatest_exactly b xs = (within_greatest b xs, greatest_within b xs)
