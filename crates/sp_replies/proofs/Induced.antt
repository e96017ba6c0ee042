-- What an induction of one partition gives, and that it is never too large.
use Rattle.std.proofs.Common.{◌≡◌, ℕ, ◌+◌, ◌<◌, ◌≤◌, List, sym, ◌∙◌, ap, subst, arith}
use Rattle.std.specs.List.{AllByRecursion}
use Rattle.sp_defs.specs.Partition.{degree, IsPartition, IsPartitionOf}
use Rattle.sp_defs.specs.Within.{PowersWithin}
use Rattle.sp_defs.specs.Power.{entries, vector_of, unit, divided_power, induction_weight, FockVector, fock_vector}
use Rattle.sp_fock_law.proofs.Vectors.{vector_of-entries, entries-alike}
use Rattle.sp_fock_law.proofs.Single.{entries-unit}
use Rattle.sp_power_law.proofs.Sources.{divided_power-alike, induction_weight-alike, unit_weight}

module _ (p : List ℕ) (one : FockVector) (pp : IsPartition p) (is : one ≡ fock_vector (degree p) (unit p)) where
  -- The code's vector has the values of the definition's.
  values : (lambda : List ℕ) → IsPartitionOf (degree p) lambda → vector_of one.entries lambda ≡ unit p lambda
  values lambda h = ap (λ (v : FockVector). vector_of v.entries lambda) is
      ∙ vector_of-entries (degree p) (unit p) lambda h

  -- the entries of the divided power of the one partition
  pub induced : (e i m : ℕ) (v : FockVector) →
      v ≡ fock_vector (one.degree + m) (divided_power e i m (vector_of one.entries)) →
      v.entries ≡ entries (degree p + m) (divided_power e i m (unit p))
  induced e i m v got =
      ap (λ (u : FockVector). u.entries) got
      ∙ ap (λ (u : FockVector). entries (u.degree + m) (divided_power e i m (vector_of one.entries))) is
      ∙ entries-alike (degree p + m) (divided_power e i m (vector_of one.entries)) (divided_power e i m (unit p))
      (λ lambda h. divided_power-alike e i m (degree p) (vector_of one.entries) (unit p) values lambda h.total)

  -- its weight is within any limit
  pub never_too_large : (e i m limit : ℕ) → 1 ≤ limit →
      limit < induction_weight e i m one.degree (vector_of one.entries) → ⊥
  never_too_large e i m limit least past =
      let same : induction_weight e i m one.degree (vector_of one.entries)
      ≡ induction_weight e i m (degree p) (unit p) =
      ap (λ (u : FockVector). induction_weight e i m u.degree (vector_of one.entries)) is
      ∙ induction_weight-alike e i m (degree p) (vector_of one.entries) (unit p) values in
      absurd (omega (arith, same, unit_weight e i m p, past, least))

  -- the vector of one partition has no power but 0
  pub powers_small : AllByRecursion (λ s. PowersWithin 500000000 s.1) one.entries
  powers_small =
      subst (λ es. AllByRecursion (λ s. PowersWithin 500000000 s.1) es)
      (sym (ap (λ (u : FockVector). u.entries) is ∙ entries-unit p pp))
      ((omega arith, tt), tt)
