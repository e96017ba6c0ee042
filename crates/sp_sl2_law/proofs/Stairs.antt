-- Sums of a function over the whole numbers between 0 and u, and balanced integers as such sums.
use Rattle.std.proofs.Common.{◌≡◌, ℕ, zero, suc, ◌+◌, ◌*◌, refl, sym, ◌∙◌, ap, ap₂, arith, ℤ}
use Rattle.std.proofs.Common.{pos, negsuc, ◌+ℤ◌, ◌-ℤ◌, neg_ℤ}
use Rattle.std.proofs.lemmas.Int.{ints}
use Rattle.std.specs.List.{range_with_len}
use Rattle.sp_defs.specs.Laurent.{Laurent, coefficient, power, negate, times, sum_over}
use Rattle.sp_lists.proofs.Elements.{all_every}
use Rattle.sp_algebra.proofs.Laws.{coefficient-plus, plus_negate, plus_times, nought_times}
use Rattle.sp_algebra.proofs.Steps.{times_comm}
use Rattle.sp_algebra.proofs.Sums.{times-sum_over}
use Rattle.sp_sl2_law.specs.Balanced.{balanced_natural, balanced}
use Rattle.sp_sl2_law.proofs.Totals.{total, total-alike, coefficient-total}
use Rattle.sp_sl2_law.proofs.ByRows.{coefficient-shift}

-- The sum of f from 0 up to u - 1, or what is left out of it from u up to -1.
unfoldable pub climb : (ℤ → ℤ) → ℤ → ℤ
climb f (pos n) = total (range_with_len 0 n) (λ m. f (pos m))
climb f (negsuc n) = neg_ℤ (total (range_with_len 0 (suc n)) (λ m. f (pos m -ℤ pos (suc n))))

-- The last number of a range.
pub total-range_last : (f : ℕ → ℤ) (a n : ℕ) →
    total (range_with_len a (suc n)) f ≡ total (range_with_len a n) f +ℤ f (a + n)
unfolding total
total-range_last f a zero = ap₂ (λ x y. x +ℤ y) (ap f (plain a)) refl ∙ turned (f (a + 0))
  where
    plain : (a : ℕ) → a ≡ a + 0
    plain a = omega arith

    turned : (x : ℤ) → x +ℤ pos 0 ≡ pos 0 +ℤ x
    turned x = omega (arith, ints)
total-range_last f a (suc n) =
    ap (λ x. f a +ℤ x) (total-range_last f (a + 1) n)
    ∙ turned (f a) (total (range_with_len (a + 1) n) f) (f (a + 1 + n)) (f (a + suc n)) (ap f (moved a n))
  where
    moved : (a n : ℕ) → a + 1 + n ≡ a + suc n
    moved a n = omega arith

    turned : (x y u v : ℤ) → u ≡ v → x +ℤ (y +ℤ u) ≡ (x +ℤ y) +ℤ v
    turned x y u v h = omega (arith, ints)

-- A range that begins one later.
pub total-range_later : (f : ℕ → ℤ) (a n : ℕ) →
    total (range_with_len (a + 1) n) f ≡ total (range_with_len a n) (λ m. f (m + 1))
unfolding total
total-range_later f a zero = refl
total-range_later f a (suc n) = ap (λ x. f (a + 1) +ℤ x) (total-range_later f (a + 1) n)

-- One step more adds what f has there.
pub climb-next : (f : ℤ → ℤ) (u v : ℤ) → v ≡ u +ℤ pos 1 → climb f v ≡ climb f u +ℤ f u
unfolding climb total
climb-next f (pos n) (pos m) h =
    let more : m ≡ suc n = omega (arith, ints) in
    ap (λ k. total (range_with_len 0 k) (λ m. f (pos m))) more
    ∙ total-range_last (λ m. f (pos m)) 0 n
    ∙ ap (λ k. total (range_with_len 0 n) (λ m. f (pos m)) +ℤ f (pos k)) (plain n)
  where
    plain : (n : ℕ) → 0 + n ≡ n
    plain n = omega arith
climb-next f (pos n) (negsuc m) h = absurd (omega (arith, ints))
climb-next f (negsuc zero) (pos m) h =
    let none : m ≡ 0 = omega (arith, ints) in
    ap (λ k. total (range_with_len 0 k) (λ m. f (pos m))) none ∙ back (f (negsuc 0))
  where
    back : (x : ℤ) → pos 0 ≡ neg_ℤ (x +ℤ pos 0) +ℤ x
    back x = omega (arith, ints)
climb-next f (negsuc (suc n)) (pos m) h = absurd (omega (arith, ints))
climb-next f (negsuc zero) (negsuc m) h = absurd (omega (arith, ints))
climb-next f (negsuc (suc n)) (negsuc m) h =
    let less : m ≡ n = omega (arith, ints) in
    ap (λ k. neg_ℤ (total (range_with_len 0 (suc k)) (λ m. f (pos m -ℤ pos (suc k))))) less
    ∙ one_off (total (range_with_len 0 (suc n)) (λ m. f (pos m -ℤ pos (suc n))))
    (total (range_with_len 1 (suc n)) (λ m. f (pos m -ℤ pos (suc (suc n))))) (f (pos 0 -ℤ pos (suc (suc n))))
    (f (negsuc (suc n)))
    (total-range_later (λ m. f (pos m -ℤ pos (suc (suc n)))) 0 (suc n)
    ∙ total-alike (range_with_len 0 (suc n)) (λ m. f (pos (m + 1) -ℤ pos (suc (suc n)))) (λ m. f (pos m -ℤ pos (suc n)))
    (all_every _ (range_with_len 0 (suc n)) (λ m. ap f (level m n))))
    (ap f (first n))
  where
    level : (m n : ℕ) → pos (m + 1) -ℤ pos (suc (suc n)) ≡ pos m -ℤ pos (suc n)
    level m n = omega (arith, ints)

    first : (n : ℕ) → pos 0 -ℤ pos (suc (suc n)) ≡ negsuc (suc n)
    first n = omega (arith, ints)

    one_off : (s t x y : ℤ) → t ≡ s → x ≡ y → neg_ℤ s ≡ neg_ℤ (x +ℤ t) +ℤ y
    one_off s t x y h k = omega (arith, ints)

-- ---- balanced integers

-- The exponent of a step at u, on the way to d.
abbrev pub step : ℤ → ℤ → ℤ
step d u = ((u +ℤ u) +ℤ pos 1) -ℤ d

-- A product with a balanced integer adds up the shifted coefficients.
pub coefficient-natural : (k : ℕ) (p : Laurent) (z : ℤ) →
    coefficient (times (balanced_natural k) p) z ≡ total (range_with_len 0 k)
    (λ m. coefficient p (z -ℤ (pos (2 * m + 1) -ℤ pos k)))
unfolding balanced_natural
coefficient-natural k p z =
    ap (λ q. coefficient q z)
    (times_comm (sum_over (range_with_len 0 k) (λ m. power (pos (2 * m + 1) -ℤ pos k))) p
    ∙ times-sum_over p (range_with_len 0 k) (λ m. power (pos (2 * m + 1) -ℤ pos k)))
    ∙ coefficient-total (range_with_len 0 k) (λ m. times p (power (pos (2 * m + 1) -ℤ pos k))) z
    ∙ total-alike (range_with_len 0 k) _ (λ m. coefficient p (z -ℤ (pos (2 * m + 1) -ℤ pos k)))
    (all_every _ (range_with_len 0 k) (λ m. ap (λ q. coefficient q z) (times_comm p (power (pos (2 * m + 1) -ℤ pos k)))
    ∙ coefficient-shift (pos (2 * m + 1) -ℤ pos k) p z))

-- A negated factor negates the coefficients.
pub coefficient-negated : (q p : Laurent) (z : ℤ) →
    coefficient (times (negate q) p) z ≡ neg_ℤ (coefficient (times q p) z)
unfolding coefficient
coefficient-negated q p z =
    opposite (coefficient (times q p) z) (coefficient (times (negate q) p) z)
    (sym (coefficient-plus (times q p) (times (negate q) p) z)
    ∙ ap (λ r. coefficient r z) (sym (plus_times q (negate q) p) ∙ ap (λ r. times r p) (plus_negate q)
    ∙ nought_times p))
  where
    opposite : (x y : ℤ) → x +ℤ y ≡ pos 0 → y ≡ neg_ℤ x
    opposite x y h = omega (arith, ints)

-- All steps from 0 to d make the product with the balanced integer of d.
pub climb-balanced : (d : ℤ) (p : Laurent) (z : ℤ) →
    climb (λ u. coefficient p (z -ℤ step d u)) d ≡ coefficient (times (balanced d) p) z
unfolding climb balanced
climb-balanced (pos k) p z =
    total-alike (range_with_len 0 k) _ _
    (all_every _ (range_with_len 0 k) (λ m. ap (λ x. coefficient p (z -ℤ x)) (same m k)))
    ∙ sym (coefficient-natural k p z)
  where
    same : (m k : ℕ) → step (pos k) (pos m) ≡ pos (2 * m + 1) -ℤ pos k
    same m k = omega (arith, ints)
climb-balanced (negsuc k) p z =
    ap neg_ℤ
    (total-alike (range_with_len 0 (suc k)) _ _
    (all_every _ (range_with_len 0 (suc k)) (λ m. ap (λ x. coefficient p (z -ℤ x)) (same m k)))
    ∙ sym (coefficient-natural (suc k) p z))
    ∙ sym (coefficient-negated (balanced_natural (suc k)) p z)
  where
    same : (m k : ℕ) → step (negsuc k) (pos m -ℤ pos (suc k)) ≡ pos (2 * m + 1) -ℤ pos (suc k)
    same m k = omega (arith, ints)
