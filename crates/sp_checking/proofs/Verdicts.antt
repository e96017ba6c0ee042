-- What a whole certificate is answered, by the test of its columns.
use Rattle.std.proofs.Common.{◌≡◌, ℕ, List, length, sym, ◌∙◌, ap}
use Rattle.std.specs.List.{AllByRecursion}
use Rattle.sp_cert.specs.declared.certificate.Column.{Column}
use Rattle.sp_cert.specs.Rules.{Listing}
use Rattle.sp_cert.specs.Verdict.{IsAccepted, IsCause}
use Rattle.sp_cert.specs.declared.fault.CertFault.{CertFault}
use Rattle.sp_cert.specs.declared.fault.CertFault.TheVariants.{Malformed, TooLarge, Wrong, Memory}
use Rattle.sp_cert.proofs.Failing.{large_fails, none_fails, wrong_fails}
use Rattle.sp_llt.specs.Place.{key_of}
use Rattle.sp_checking.specs.Verdict.{IsOfColumns, NamesColumn, accepted_or_refusal, accepted_text, failing_text}
use Rattle.sp_checking.specs.Verdict.{verdict_text}

module _ (limit : ℕ) (c : Listing) where
  -- All columns are accepted.
  pub accepted : (columns : List Column) → columns ≡ c.columns →
      AllByRecursion (IsAccepted (key_of c.e c.degree limit) c.columns) c.columns →
      accepted_text (length columns) ≡ verdict_text limit c
  unfolding verdict_text
  accepted columns same all =
      ap (λ cs. accepted_text (length cs)) same
      ∙ ap (accepted_or_refusal (length c.columns)) (sym (none_fails (key_of c.e c.degree limit) c.columns all))

  -- The first column that fails is found.
  pub failing : (fault : CertFault) → IsCause (key_of c.e c.degree limit) c.columns fault → NamesColumn fault →
      failing_text fault ≡ verdict_text limit c
  unfolding verdict_text
  failing (Malformed line) cause names = absurd names
  failing (TooLarge at) cause names =
      ap (accepted_or_refusal (length c.columns)) (sym (large_fails (key_of c.e c.degree limit) c.columns at cause))
  failing (Wrong at) cause names =
      ap (accepted_or_refusal (length c.columns)) (sym (wrong_fails (key_of c.e c.degree limit) c.columns at cause))
  failing Memory cause names = absurd names

  -- No line of it is malformed.
  pub of_columns : (fault : CertFault) → IsCause (key_of c.e c.degree limit) c.columns fault → IsOfColumns fault
  of_columns (Malformed line) cause = absurd cause
  of_columns (TooLarge at) cause = tt
  of_columns (Wrong at) cause = tt
  of_columns Memory cause = tt
