-- A loop that appends terms from last to first with their powers negated.
use Rattle.std.proofs.Common.{◌≡◌, ◌≤◌, [], ◌∷◌, ◌++◌, reverse, length, sym, ◌∙◌, ap, subst, append_assoc}
use Rattle.std.proofs.Common.{arith, neg_ℤ}
use Rattle.std.proofs.lemmas.List.{append-nil, map-append, reverse-append}
use Rattle.std.specs.Int.RustNames.{unsigned_abs}
use Rattle.sp_defs.specs.Laurent.{Laurent, Term}
use Rattle.sp_defs.specs.Within.{PowersWithin}
use Rattle.sp_lists.proofs.Elements.{all_left, all_right}
use Rattle.sp_algebra.proofs.Mirrored.{mirrored}
use Rattle.sp_laurent.specs.Held.{power_limit}

-- `out` has the mirrored terms behind `before`, but for those of `rest`
pub record IsTurning (terms before out rest : Laurent) : Type 0 where
  pub turned : out ++ reverse (mirrored rest) ≡ before ++ reverse (mirrored terms)
  pub within : PowersWithin power_limit rest

module _ (terms before out rest rest' : Laurent) (t : Term) (h : IsTurning terms before out rest)
    (last : rest ≡ rest' ++ (t ∷ [])) where
  -- the last term that is left has a power within the limit
  pub last_within : unsigned_abs t.0 ≤ power_limit
  last_within = (all_right (λ u. unsigned_abs u.0 ≤ power_limit) rest' (t ∷ [])
      (subst (PowersWithin power_limit) last h.within)).0

  -- one more term, taken from the end
  pub turning_more : (out' : Laurent) → out' ≡ out ++ ((neg_ℤ t.0, t.1) ∷ []) → IsTurning terms before out' rest'
  turning_more out' e = record {
    turned =
        ap (λ q. q ++ reverse (mirrored rest')) e ∙ append_assoc out ((neg_ℤ t.0, t.1) ∷ [])
        (reverse (mirrored rest'))
        ∙ ap (λ q. out ++ q) (sym (ap (λ q. reverse (mirrored q)) last
        ∙ ap reverse (map-append (λ u. (neg_ℤ u.0, u.1)) rest' (t ∷ []))
        ∙ reverse-append (mirrored rest') (mirrored (t ∷ []))))
        ∙ h.turned;
    within = all_left (λ u. unsigned_abs u.0 ≤ power_limit) rest' (t ∷ [])
        (subst (PowersWithin power_limit) last h.within);
  }

-- after the last one
pub turning_all : (terms before out rest : Laurent) → length rest ≡ 0 → IsTurning terms before out rest
    → out ≡ before ++ reverse (mirrored terms)
turning_all terms before out [] none h = sym (append-nil out) ∙ h.turned
turning_all terms before out (t ∷ rest) none h = absurd (omega arith)
