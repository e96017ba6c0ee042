-- The greatest of some numbers is past a bound exactly where one of them is.
use Rattle.std.proofs.Common.{◌≡◌, ℕ, ◌<◌, ◌≤◌, true, false, ◌||◌, nat_lt, max, fold, List, [], ◌∷◌, sym, ◌∙◌, ap}
use Rattle.std.proofs.Common.{arith, ltb-true, lt-ltb, ◌⊎◌, inl, inr}
use Rattle.std.proofs.Math.Bool.{or_assoc, or-false}
use Rattle.std.specs.List.{list_any}
use Rattle.sp_lists.proofs.Elements.{le_or_lt, same_tests}
use Rattle.std.proofs.lemmas.Bool.{or_cases, or_left, or_right}

-- the greater of two
pub past_max : (b m n : ℕ) → nat_lt b (max m n) ≡ (nat_lt b m || nat_lt b n)
past_max b m n = same_tests (nat_lt b (max m n)) (nat_lt b m || nat_lt b n)
    (λ h. settle (ltb-true b (max m n) h) (le_or_lt m b))
    (λ h. back (or_cases (nat_lt b m) (nat_lt b n) h))
  where
    settle : b < max m n → (m ≤ b) ⊎ (b < m) → (nat_lt b m || nat_lt b n) ≡ true
    settle h (inl le) = or_right (nat_lt b m) (nat_lt b n) (lt-ltb b n (omega (arith, h, le)))
    settle h (inr lt) = or_left (nat_lt b m) (nat_lt b n) (lt-ltb b m lt)

    back : (nat_lt b m ≡ true) ⊎ (nat_lt b n ≡ true) → nat_lt b (max m n) ≡ true
    back (inl h) = lt-ltb b (max m n) (omega (arith, ltb-true b m h))
    back (inr h) = lt-ltb b (max m n) (omega (arith, ltb-true b n h))

fold_past : (b start : ℕ) (xs : List ℕ) → nat_lt b (fold max start xs) ≡ (nat_lt b start || list_any (nat_lt b) xs)
fold_past b start [] = sym (or-false (nat_lt b start))
fold_past b start (x ∷ xs) =
    fold_past b (max start x) xs
    ∙ ap (λ t. t || list_any (nat_lt b) xs) (past_max b start x)
    ∙ or_assoc (nat_lt b start) (nat_lt b x) (list_any (nat_lt b) xs)

-- the greatest of a list
pub greatest_past : (b : ℕ) (xs : List ℕ) → nat_lt b (fold max 0 xs) ≡ list_any (nat_lt b) xs
greatest_past b xs = fold_past b 0 xs ∙ ap (λ t. t || list_any (nat_lt b) xs) (nothing b)
  where
    nothing : (b : ℕ) → nat_lt b 0 ≡ false
    nothing b = grind arith
