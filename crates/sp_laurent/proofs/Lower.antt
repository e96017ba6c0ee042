-- A polynomial's lower half decides its lift.
use Rattle.std.proofs.Common.{◌≡◌, ◌+◌, ◌*◌, ◌<◌, ◌≤◌, ◌^◌, ◌++◌, map, reverse, sym, ◌∙◌, ap, subst, arith, ℤ, pos}
use Rattle.std.proofs.Common.{neg_ℤ}
use Rattle.std.specs.Int.RustNames.{unsigned_abs}
use Rattle.sp_defs.specs.Laurent.{Laurent, monomial, lift, size}
use Rattle.sp_defs.specs.Within.{PowersWithin}
use Rattle.sp_lists.proofs.Elements.{all_left}
use Rattle.sp_algebra.proofs.Canonical.{canonical-from}
use Rattle.sp_algebra.proofs.Laws.{IsLaurent-lift}
use Rattle.sp_algebra.proofs.Sizes.{size-append, size-monomial}
use Rattle.sp_algebra.proofs.Lifted.{IsSplitAtZero, lift_is, size-lifted, within-lifted}
use Rattle.sp_laurent.specs.Held.{IsHeld, power_limit}

module _ (p below : Laurent) (c : ℤ) (above : Laurent) (held : IsHeld p) (h : IsSplitAtZero p below c above) where
  -- the lift is the lower half, the middle, and the lower half mirrored
  pub lower_lift : lift p ≡ (below ++ monomial (pos 0) c) ++ reverse (map (λ t. (neg_ℤ t.0, t.1)) below)
  lower_lift = lift_is p below c above h (canonical-from p held.laurent)

  -- the size of the lift: the lower half twice, and the middle
  pub lower_sizes : size (lift p) ≡ 2 * size below + unsigned_abs c
  lower_sizes = ap size lower_lift ∙ size-lifted below c ∙ omega arith

  -- the lower half and the middle are within the limit of sizes
  pub lower_small : size below + unsigned_abs c < 2 ^ 127
  lower_small =
      omega (
        arith,
        held.small,
        ap size h.parts,
        size-append below (monomial (pos 0) c ++ above),
        size-append (monomial (pos 0) c) above,
        size-monomial (pos 0) c,
      )

  -- the lower half is within the limit of powers
  pub lower_within : PowersWithin power_limit below
  lower_within =
      all_left (λ t. unsigned_abs t.0 ≤ power_limit) below (monomial (pos 0) c ++ above)
      (subst (PowersWithin power_limit) (sym h.parts) held.powers)

  -- the lift may be held where its size is within the limit
  pub lower_held : size (lift p) < 2 ^ 127 → IsHeld (lift p)
  lower_held small = record {
    laurent = IsLaurent-lift p;
    small = small;
    powers = subst (PowersWithin power_limit) (sym lower_lift) (within-lifted power_limit below c lower_within);
  }
