-- Which lists of terms the code may hold.
use Rattle.std.proofs.Common.{◌≡◌, ◌+◌, ◌*◌, ◌⊎◌, inl, inr, ◌∙◌, ap, ◌^◌, ◌<◌, ◌≤◌, [], ◌∷◌, refl, sym}
use Rattle.std.proofs.Common.{arith, ℤ, pos}
use Rattle.std.specs.Int.RustNames.{unsigned_abs}
use Rattle.sp_defs.specs.Laurent.{Laurent, IsLaurent, add_term, collect, monomial, power, plus, times, negate, bar}
use Rattle.sp_defs.specs.Laurent.{size}
use Rattle.sp_algebra.proofs.Coefficients.{IsLaurent-collect}
use Rattle.sp_defs.specs.Within.{ProductWithin}
use Rattle.sp_algebra.proofs.Laws.{IsLaurent-plus, IsLaurent-times, IsLaurent-negate, IsLaurent-bar, plus_nought}
use Rattle.sp_algebra.proofs.Laws.{nought_times}
use Rattle.sp_algebra.proofs.Laws.{times_nought}
use Rattle.sp_algebra.proofs.Sizes.{size_negate, size_bar, within_negate, within_bar}
use Rattle.sp_algebra.proofs.Sizes.{size-cons, size-monomial, within_monomial, size_plus, size_times, within_plus}
use Rattle.sp_algebra.proofs.Sizes.{within_times}
use Rattle.sp_laurent.specs.Held.{IsHeld, power_limit}

-- 0 may be held
pub held_nought : IsHeld []
unfolding collect
held_nought = record { laurent = refl; small = omega arith; powers = tt }

IsLaurent-monomial : (k c : ℤ) → IsLaurent (monomial k c)
unfolding collect add_term
IsLaurent-monomial k c = IsLaurent-collect ((k, c) ∷ [])

-- c * v^k may be held where its size and power are within the limits
pub held_monomial : (k c : ℤ) → unsigned_abs c < 2 ^ 127 → unsigned_abs k ≤ power_limit → IsHeld (monomial k c)
held_monomial k c small within = record {
  laurent = IsLaurent-monomial k c;
  small = omega (arith, size-monomial k c);
  powers = within_monomial power_limit k c within;
}

-- a sum with a product may be held where its sizes and powers are within the limits
pub held_sum : (p a b : Laurent) → IsHeld p → size p + size a * size b < 2 ^ 127 → ProductWithin power_limit a b
    → IsHeld (plus p (times a b))
held_sum p a b held small within = record {
  laurent = IsLaurent-plus p (times a b);
  small = omega (arith, size_plus p (times a b), size_times a b);
  powers = within_plus power_limit p (times a b) held.powers (within_times power_limit a b within);
}

-- a product with 0 adds nothing
pub add_none : (p a b : Laurent) → IsLaurent p → (a ≡ []) ⊎ (b ≡ []) → p ≡ plus p (times a b)
add_none p a b h (inl e) = sym (ap (plus p) (ap (λ q. times q b) e ∙ nought_times b) ∙ plus_nought p h)
add_none p a b h (inr e) = sym (ap (plus p) (ap (times a) e ∙ times_nought a) ∙ plus_nought p h)

-- a negation may be held
pub held_negate : (p : Laurent) → IsHeld p → IsHeld (negate p)
held_negate p held = record {
  laurent = IsLaurent-negate p;
  small = omega (arith, size_negate p, held.small);
  powers = within_negate power_limit p held.powers;
}

-- a bar may be held
pub held_bar : (p : Laurent) → IsHeld p → IsHeld (bar p)
held_bar p held = record {
  laurent = IsLaurent-bar p;
  small = omega (arith, size_bar p, held.small);
  powers = within_bar power_limit p held.powers;
}

-- a power of v times a polynomial may be held where its powers are within the limit
pub held_shifted : (k : ℤ) (p : Laurent) → IsHeld p → ProductWithin power_limit (power k) p → IsHeld (times (power k) p)
held_shifted k p held within = record {
  laurent = IsLaurent-times (power k) p;
  small = omega (arith, size_times (power k) p, size-cons k (pos 1) [], held.small);
  powers = within_times power_limit (power k) p within;
}
