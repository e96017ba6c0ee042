-- Bytes as the digits of a number to the base 256: such numbers stand in the order of their bytes.
use Rattle.std.proofs.Common.{◌≡◌, ℕ, ◌+◌, ◌*◌, ◌^◌, ◌<◌, ◌≤◌, List, [], ◌∷◌, length, refl, sym, ◌∙◌, ap, subst, arith}
use Rattle.std.proofs.Common.{nat_cmp, Less, Equal, Greater, ◌⊎◌, inl, inr}
use native.Mathlib.Nat.{pow-succ'}
use Rattle.std.specs.Int.{w64, from_be_bytes}
use Rattle.std.specs.List.{AllByRecursion}
use Rattle.std.specs.Ordering.{ordering_then}
use Rattle.std.specs.Cmp.{nat_cmp_is}
use Rattle.sp_defs.specs.Partition.{compare}
use Rattle.sp_lists.proofs.Elements.{le_or_lt}
use Rattle.sp_partition.proofs.Numbers.{heavier}

-- The number with these digits.
abbrev pub weight : List ℕ → ℕ
weight [] = 0
weight (x ∷ xs) = x * 256 ^ length xs + weight xs

-- Each number is below 256.
abbrev pub AreBytes : List ℕ → Type 0
AreBytes xs = AllByRecursion (λ x. x < 256) xs

-- The digits weigh less than one at the next place.
weight-less : (xs : List ℕ) → AreBytes xs → weight xs < 256 ^ length xs
weight-less [] h = omega arith
weight-less (x ∷ xs) (h, hs) =
    subst (λ n. x * 256 ^ length xs + weight xs < n) (sym (pow-succ' 256 (length xs)))
    (plain (256 ^ length xs) (heavier x 256 (256 ^ length xs) (weight xs) 0 h (weight-less xs hs)))
  where
    plain : {a : ℕ} (p : ℕ) → a < 256 * p + 0 → a < 256 * p
    plain p lt = omega (arith, lt)

-- Numbers of one length stand in the order of their bytes.
pub weight_order : (xs ys : List ℕ) → length xs ≡ length ys → AreBytes xs → AreBytes ys →
    nat_cmp (weight xs) (weight ys) ≡ compare xs ys
weight_order [] [] e hx hy = refl
weight_order [] (y ∷ ys) e hx hy = absurd (omega arith)
weight_order (x ∷ xs) [] e hx hy = absurd (omega arith)
weight_order (x ∷ xs) (y ∷ ys) e (hx, hxs) (hy, hys) =
    settle (le_or_lt y x) (le_or_lt x y) (weight_order xs ys rest hxs hys)
  where
    rest : length xs ≡ length ys
    rest = omega arith

    settle : (y ≤ x) ⊎ (x < y) → (x ≤ y) ⊎ (y < x) → nat_cmp (weight xs) (weight ys) ≡ compare xs ys →
        nat_cmp (x * 256 ^ length xs + weight xs) (y * 256 ^ length ys + weight ys)
        ≡ ordering_then (nat_cmp x y) (compare xs ys)
    settle (inr less) _ ih =
        sym (nat_cmp_is _ _ Less (subst (λ n. x * 256 ^ length xs + weight xs < y * 256 ^ n + weight ys) rest
        (heavier x y (256 ^ length xs) (weight xs) (weight ys) less (weight-less xs hxs))))
        ∙ ap (λ o. ordering_then o (compare xs ys)) (nat_cmp_is x y Less less)
    settle (inl le) (inr greater) ih =
        sym (nat_cmp_is _ _ Greater (subst (λ n. y * 256 ^ length ys + weight ys < x * 256 ^ n + weight xs) (sym rest)
        (heavier y x (256 ^ length ys) (weight ys) (weight xs) greater (weight-less ys hys))))
        ∙ ap (λ o. ordering_then o (compare xs ys)) (nat_cmp_is x y Greater greater)
    settle (inl le) (inl ge) ih =
        let same : x ≡ y = omega arith in
        ap (λ n. nat_cmp n (y * 256 ^ length ys + weight ys)) (ap (λ z. z * 256 ^ length xs + weight xs) same
        ∙ ap (λ n. y * 256 ^ n + weight xs) rest)
        ∙ shifted (y * 256 ^ length ys) (weight xs) (weight ys) ∙ ih
        ∙ ap (λ o. ordering_then o (compare xs ys)) (nat_cmp_is x y Equal same)
      where
        shifted : (a v w : ℕ) → nat_cmp (a + v) (a + w) ≡ nat_cmp v w
        shifted a v w = order (le_or_lt w v) (le_or_lt v w)
          where
            order : (w ≤ v) ⊎ (v < w) → (v ≤ w) ⊎ (w < v) → nat_cmp (a + v) (a + w) ≡ nat_cmp v w
            order (inr lt) _ = sym (nat_cmp_is (a + v) (a + w) Less (omega arith)) ∙ nat_cmp_is v w Less lt
            order (inl le) (inr gt) = sym (nat_cmp_is (a + v) (a + w) Greater (omega arith)) ∙ nat_cmp_is v w Greater gt
            order (inl le) (inl ge) =
                sym (nat_cmp_is (a + v) (a + w) Equal (omega arith)) ∙ nat_cmp_is v w Equal (omega arith)

-- Eight bytes, read as a number whose first byte is the greatest, are its digits.
pub eight_weight : (xs : List ℕ) → length xs ≡ 8 → from_be_bytes w64 xs ≡ weight xs
eight_weight (a ∷ b ∷ c ∷ d ∷ e ∷ f ∷ g ∷ h ∷ []) _ = omega arith
eight_weight _ size = absurd (omega arith)
