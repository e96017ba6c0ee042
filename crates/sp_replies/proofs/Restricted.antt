-- The restriction and the commutator of one partition: those of the vector that the code makes of it.
use Rattle.std.proofs.Common.{◌≡◌, ℕ, ◌-◌, ◌≤◌, cond, List, [], ◌∷◌, refl, ◌∙◌, ap, ap₂, arith, le-ltb}
use Rattle.sp_defs.specs.Laurent.{one}
use Rattle.sp_defs.specs.Partition.{degree, IsPartition}
use Rattle.sp_defs.specs.Power.{vector_of, unit, entries, FockVector, fock_vector}
use Rattle.sp_defs.specs.Text.{vector_text}
use Rattle.sp_fock_law.proofs.Single.{entries-unit}
use Rattle.sp_sl2_law.specs.Restriction.{restriction, restriction_weight}
use Rattle.sp_sl2_law.proofs.Enlarged.{unit_weight}
use Rattle.sp_replies.specs.Refusals.{refusal_line}
use Rattle.sp_replies.specs.Restrictions.{restricted_text, restriction_or_refusal, commutator_or_refusal}
use Rattle.sp_replies.specs.Restrictions.{commutator_text}
use Rattle.sp_replies.specs.Words.{line_of}
use Rattle.sp_replies.specs.declared.refusals.Refusal.TheVariants.{TooLarge}

-- The vector with this one entry is 1 at the partition and 0 elsewhere.
single : (p : List ℕ) → vector_of ((p, one) ∷ []) ≡ unit p
unfolding vector_of
single p = refl

module _ (p : List ℕ) (v : FockVector) (pp : IsPartition p) (is : v ≡ fock_vector (degree p) (unit p)) where
  degree_is : v.degree ≡ degree p
  degree_is = ap (λ (w : FockVector). w.degree) is

  values : vector_of v.entries ≡ unit p
  values = ap vector_of (ap (λ (w : FockVector). w.entries) is ∙ entries-unit p pp) ∙ single p

  -- Its restriction is never past the limit.
  pub restricted : (e i limit : ℕ) → 1 ≤ limit →
      restriction_or_refusal limit e i v.degree (vector_of v.entries) ≡ restricted_text e i p
  restricted e i limit least =
      ap₂ (restriction_or_refusal limit e i) degree_is values
      ∙ ap (λ b. cond b (refusal_line TooLarge)
      (line_of (vector_text (entries (degree p - 1) (restriction e i (unit p))))))
      (le-ltb limit (restriction_weight e i (degree p) (unit p)) (omega (arith, unit_weight e i p, least)))

  -- Its commutator is that of the partition.
  pub commuted : (limit e i j : ℕ) →
      commutator_or_refusal limit e i j v.degree (vector_of v.entries) ≡ commutator_text limit e i j p
  commuted limit e i j = ap₂ (commutator_or_refusal limit e i j) degree_is values
