-- Sums and products of signed numbers in their machine form.
use Rattle.std.proofs.Common.{◌≡◌, ◌<◌, ◌^◌, sym, ◌∙◌, ap, ap₂, subst, arith, ℤ, pos, neg_ℤ, ◌+ℤ◌, ◌-ℤ◌, ◌*ℤ◌, to_z}
use Rattle.std.proofs.Common.{of_z, SFits, to_z-of_z}
use Rattle.std.proofs.lemmas.Int.{ints, fits_signed_from_abs}
use Rattle.std.specs.Int.RustNames.{unsigned_abs}
use mir.Syntax.{Width, w128}

-- a number of an absolute value below 2^127 fits an i128
pub small_fits : (z : ℤ) → unsigned_abs z < 2 ^ 127 → SFits w128 z
small_fits z small = fits_signed_from_abs w128 z small

module _ (w : Width) (a b : ℤ) (a_fits : SFits w a) (b_fits : SFits w b) where
  -- where a sum fits, so does the sum of the machine forms
  pub add_fits : SFits w (a +ℤ b) → SFits w (to_z w (of_z w a) +ℤ to_z w (of_z w b))
  add_fits fits = subst (λ x. SFits w x) (sym (ap₂ (λ x y. x +ℤ y) (to_z-of_z a_fits) (to_z-of_z b_fits))) fits

  -- where a sum fits, the sum of the machine forms is read back as the sum
  pub add_back : SFits w (a +ℤ b) → to_z w (of_z w (to_z w (of_z w a) +ℤ to_z w (of_z w b))) ≡ a +ℤ b
  add_back fits = to_z-of_z (add_fits fits) ∙ ap₂ (λ x y. x +ℤ y) (to_z-of_z a_fits) (to_z-of_z b_fits)

  -- where a product fits, so does the product of the machine forms
  pub mul_fits : SFits w (a *ℤ b) → SFits w (to_z w (of_z w a) *ℤ to_z w (of_z w b))
  mul_fits fits = subst (λ x. SFits w x) (sym (ap₂ (λ x y. x *ℤ y) (to_z-of_z a_fits) (to_z-of_z b_fits))) fits

  -- where a product fits, the product of the machine forms is read back as the product
  pub mul_back : SFits w (a *ℤ b) → to_z w (of_z w (to_z w (of_z w a) *ℤ to_z w (of_z w b))) ≡ a *ℤ b
  mul_back fits = to_z-of_z (mul_fits fits) ∙ ap₂ (λ x y. x *ℤ y) (to_z-of_z a_fits) (to_z-of_z b_fits)

-- the negative of a number, where it has the number's type
negative : (w : Width) (a : ℤ) → SFits w a → pos 0 -ℤ to_z w (of_z w a) ≡ neg_ℤ a
negative w a fits = ap (λ x. pos 0 -ℤ x) (to_z-of_z fits) ∙ zero_less a
  where
    zero_less : (a : ℤ) → pos 0 -ℤ a ≡ neg_ℤ a
    zero_less a = omega (arith, ints)

-- where a negative fits, so does that of the machine form
pub neg_fits : (w : Width) (a : ℤ) → SFits w a → SFits w (neg_ℤ a) → SFits w (pos 0 -ℤ to_z w (of_z w a))
neg_fits w a fits negative_fits = subst (λ x. SFits w x) (sym (negative w a fits)) negative_fits

-- where a negative fits, that of the machine form is read back as the negative
pub neg_back : (w : Width) (a : ℤ) → SFits w a → SFits w (neg_ℤ a)
    → to_z w (of_z w (pos 0 -ℤ to_z w (of_z w a))) ≡ neg_ℤ a
neg_back w a fits negative_fits = to_z-of_z (neg_fits w a fits negative_fits) ∙ negative w a fits

-- a number is 0 where its machine form is
pub back_nought : (z : ℤ) → SFits w128 z → of_z w128 z ≡ 0 → z ≡ pos 0
back_nought z fits e = sym (to_z-of_z fits) ∙ ap (to_z w128) e

module _ (a b : ℤ) (a_fits : SFits w128 a) (b_fits : SFits w128 b) (fits : SFits w128 (a +ℤ b)) where
  -- a sum is 0 where its machine form is, and only there
  pub sum_nought : of_z w128 (to_z w128 (of_z w128 a) +ℤ to_z w128 (of_z w128 b)) ≡ 0 → a +ℤ b ≡ pos 0
  sum_nought e = sym (add_back w128 a b a_fits b_fits fits) ∙ ap (to_z w128) e

  -- the machine form of a sum is 0 where the sum is
  pub nought_sum : a +ℤ b ≡ pos 0 → of_z w128 (to_z w128 (of_z w128 a) +ℤ to_z w128 (of_z w128 b)) ≡ 0
  nought_sum e =
      ap (of_z w128) (ap₂ (λ x y. x +ℤ y) (to_z-of_z a_fits) (to_z-of_z b_fits) ∙ e)
