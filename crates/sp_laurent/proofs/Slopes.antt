-- The slope of a polynomial at v = 1, term by term, and how large it is.
use Rattle.std.proofs.Common.{◌≡◌, ℕ, ◌+◌, ◌-◌, ◌*◌, ◌^◌, ◌<◌, ◌≤◌, [], ◌∷◌, ◌++◌, take, get_or, length, refl, sym}
use Rattle.std.proofs.Common.{◌∙◌, ap, ap₂, subst, arith, ℤ, pos, ◌+ℤ◌, ◌*ℤ◌, sum_by, SFits, to_z, of_z, w32}
use Rattle.std.proofs.Common.{to_z-of_z}
use Rattle.std.specs.Int.{w128}
use Rattle.std.proofs.lemmas.Int.{ints, unsigned_abs-mul}
use Rattle.std.proofs.lemmas.List.{take_more}
use Rattle.std.proofs.lemmas.List.Sums.{sum_by-cons, sum_by_more, sum_by_more_le}
use Rattle.std.specs.Int.RustNames.{unsigned_abs}
use Rattle.sp_defs.specs.Laurent.{Laurent, Term, int_sum, slope_at_one}
use Rattle.sp_algebra.proofs.Sizes.{sum_near}
use Rattle.sp_laurent.proofs.Machine.{mul_back, small_fits}

-- the absolute values of the powers, each times that of its coefficient
abbrev pub slope_weight : Laurent → ℕ
slope_weight p = sum_by (λ t. unsigned_abs t.0 * unsigned_abs t.1) p

-- the slope of 0 is 0
pub slope-nought : slope_at_one [] ≡ pos 0
unfolding int_sum
slope-nought = refl

slope-append : (p q : Laurent) → slope_at_one (p ++ q) ≡ slope_at_one p +ℤ slope_at_one q
unfolding int_sum
slope-append [] q = omega (arith, ints)
slope-append ((k, c) ∷ p) q =
    joined (k *ℤ c) (slope_at_one p) (slope_at_one q) (slope_at_one (p ++ q)) (slope-append p q)
  where
    joined : (t a b ab : ℤ) → ab ≡ a +ℤ b → t +ℤ ab ≡ (t +ℤ a) +ℤ b
    joined t a b ab e = omega (arith, ints)

-- one more term
pub slope-more : (p : Laurent) (i : ℕ) (d : Term) → i < length p
    → slope_at_one (take (i + 1) p) ≡ slope_at_one (take i p) +ℤ (get_or p i d).0 *ℤ (get_or p i d).1
unfolding int_sum
slope-more p i d lt =
    ap slope_at_one (take_more p i d lt) ∙ slope-append (take i p) (get_or p i d ∷ [])
    ∙ alone (slope_at_one (take i p)) ((get_or p i d).0 *ℤ (get_or p i d).1)
  where
    alone : (a t : ℤ) → a +ℤ (t +ℤ pos 0) ≡ a +ℤ t
    alone a t = omega (arith, ints)

-- the slope is no further from 0 than the weight
pub slope_le : (p : Laurent) → unsigned_abs (slope_at_one p) ≤ slope_weight p
unfolding int_sum
slope_le [] = omega (arith, ints)
slope_le ((k, c) ∷ p) =
    omega (
      arith,
      sum_near (k *ℤ c) (slope_at_one p),
      unsigned_abs-mul k c,
      slope_le p,
      sum_by-cons (λ (t : Term). unsigned_abs t.0 * unsigned_abs t.1) (k, c) p,
    )

-- the weight of a first part and one more term
pub weight-more : (p : Laurent) (i : ℕ) (d : Term) → i < length p
    → slope_weight (take (i + 1) p)
    ≡ slope_weight (take i p) + unsigned_abs (get_or p i d).0 * unsigned_abs (get_or p i d).1
weight-more p i d lt = sum_by_more (λ t. unsigned_abs t.0 * unsigned_abs t.1) p i d lt

-- the weight of a first part and one more term is at most the whole
pub weight_more_le : (p : Laurent) (i : ℕ) (d : Term) → i < length p
    → slope_weight (take i p) + unsigned_abs (get_or p i d).0 * unsigned_abs (get_or p i d).1 ≤ slope_weight p
weight_more_le p i d lt = sum_by_more_le (λ t. unsigned_abs t.0 * unsigned_abs t.1) p i d lt

-- the weight of a term whose parts are read in their machine form
pub weight_is : (t : Term) {power coefficient weight : ℕ} → SFits w32 t.0 → SFits w128 t.1
    → power ≡ unsigned_abs (to_z w32 (of_z w32 t.0)) → coefficient ≡ unsigned_abs (to_z w128 (of_z w128 t.1))
    → weight ≡ power * coefficient → weight ≡ unsigned_abs t.0 * unsigned_abs t.1
weight_is t power_fits fits power coefficient weight =
    weight ∙ ap₂ (λ x y. x * y) (power ∙ ap unsigned_abs (to_z-of_z power_fits))
    (coefficient ∙ ap unsigned_abs (to_z-of_z fits))

-- a term that is too heavy for the room that is left
pub weight_passes : (p : Laurent) (i : ℕ) (d : Term) (room limit : ℕ) → i < length p
    → slope_weight (take i p) + room ≡ limit → room < unsigned_abs (get_or p i d).0 * unsigned_abs (get_or p i d).1
    → limit < slope_weight p
weight_passes p i d room limit lt whole heavy = omega (arith, weight_more_le p i d lt, whole, heavy)

-- one more term, for which there is room, with the power as it is read
module _
    (p : Laurent) (i : ℕ) (d : Term) (lt : i < length p) (slope power : ℤ) (room limit : ℕ)
    (is : slope ≡ slope_at_one (take i p)) (whole : slope_weight (take i p) + room ≡ limit) (most : limit < 2 ^ 127)
    (light : unsigned_abs (get_or p i d).0 * unsigned_abs (get_or p i d).1 ≤ room)
    (read : power ≡ (get_or p i d).0) (power_fits : SFits w128 power) (fits : SFits w128 (get_or p i d).1) where
  product_fits : SFits w128 (power *ℤ (get_or p i d).1)
  product_fits = small_fits (power *ℤ (get_or p i d).1)
      (omega (
        arith,
        unsigned_abs-mul power (get_or p i d).1,
        light,
        whole,
        most,
        ap (λ k. unsigned_abs k * unsigned_abs (get_or p i d).1) read,
      ))

  product : to_z w128 (of_z w128 (to_z w128 (of_z w128 power) *ℤ to_z w128 (of_z w128 (get_or p i d).1)))
      ≡ power *ℤ (get_or p i d).1
  product = mul_back w128 power (get_or p i d).1 power_fits fits product_fits

  sum : slope +ℤ to_z w128 (of_z w128 (to_z w128 (of_z w128 power) *ℤ to_z w128 (of_z w128 (get_or p i d).1)))
      ≡ slope_at_one (take (i + 1) p)
  sum = ap₂ (λ x y. x +ℤ y) is (product ∙ ap (λ k. k *ℤ (get_or p i d).1) read) ∙ sym (slope-more p i d lt)

  -- the slope with one more term fits
  pub slope_fits :
      SFits w128 (slope +ℤ to_z w128
      (of_z w128 (to_z w128 (of_z w128 power) *ℤ to_z w128 (of_z w128 (get_or p i d).1))))
  slope_fits = subst (λ x. SFits w128 x) (sym sum) (small_fits (slope_at_one (take (i + 1) p))
      (omega (arith, slope_le (take (i + 1) p), weight-more p i d lt, light, whole, most)))

  -- the slope and the room that is left, after one more term
  pub slope_next :
      (to_z w128 (of_z w128 (slope +ℤ to_z w128
      (of_z w128 (to_z w128 (of_z w128 power) *ℤ to_z w128 (of_z w128 (get_or p i d).1)))))
      ≡ slope_at_one (take (i + 1) p))
      × (slope_weight (take (i + 1) p) + (room - unsigned_abs (get_or p i d).0 * unsigned_abs (get_or p i d).1) ≡ limit)
  slope_next = (to_z-of_z slope_fits ∙ sum, omega (arith, weight-more p i d lt, light, whole))
