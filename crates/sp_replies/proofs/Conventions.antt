-- Vectors, partitions and rows in the labels of a convention.
use Rattle.std.proofs.Common.{◌≡◌, ℕ, ◌≤◌, false, nat_lt, List, ◌++◌, Err, refl, ◌∙◌, ap, arith}
use Rattle.std.proofs.lemmas.Bool.Decides.{nat_tests}
use Rattle.sp_core.specs.declared.piece.Key.{Key}
use Rattle.sp_defs.specs.Partition.{IsPartition, conjugate, degree}
use Rattle.sp_defs.specs.Power.{FockVector, Vector, entries, fock_vector, vector_of}
use Rattle.sp_defs.specs.Row.{Row, outcome, regular_row}
use Rattle.sp_defs.specs.Text.{vector_text}
use Rattle.sp_fock_law.proofs.Vectors.{entries-alike, vector_of-entries}
use Rattle.sp_lang.specs.Convention.{label_in}
use Rattle.sp_lang.specs.declared.convention.Convention.{Convention}
use Rattle.sp_lang.specs.declared.convention.Convention.TheVariants.{Regular, Restricted}
use Rattle.sp_llt.specs.Found.{outcome_told}
use Rattle.sp_llt.specs.Place.{Place, key_of, label, place}
use Rattle.sp_llt.specs.Refusals.{outcome_at}
use Rattle.sp_llt.specs.declared.refused.Refused.{Refused}
use Rattle.sp_llt.specs.declared.refused.Refused.TheVariants as refused
use Rattle.sp_matrix.proofs.Conjugating.{conjugate_of_degree}
use Rattle.sp_matrix.specs.Conjugates.{conjugate_vector}
use Rattle.sp_shapes.proofs.Conjugates.{conjugate_partition, degree-conjugate}
use Rattle.sp_replies.specs.Labels.{fock_vector_in, refusal_in, vector_in, vector_line}
use Rattle.sp_replies.specs.Refusals.{by_row, refusal_line}
use Rattle.sp_replies.specs.Rows.{row_or_refusal, row_text}
use Rattle.sp_replies.specs.Words.{line_of}
use Rattle.sp_replies.specs.declared.refusals.Refusal.{Refusal}

-- The entries of a vector of degree n, told in a convention.
pub told_entries : (convention : Convention) (n : ℕ) (w : Vector) →
    (fock_vector_in convention (fock_vector n w)).entries ≡ entries n (vector_in convention w)
told_entries Regular n w = refl
told_entries Restricted n w =
    entries-alike n (conjugate_vector (vector_of (entries n w))) (conjugate_vector w)
    (λ lambda h. vector_of-entries n w (conjugate lambda) (conjugate_of_degree n lambda h))

-- What a label stands for is a partition,
pub label_partition : (convention : Convention) (p : List ℕ) → IsPartition p → IsPartition (label_in convention p)
label_partition Regular p h = h
label_partition Restricted p h = conjugate_partition p h

-- of the same degree.
pub label_degree : (convention : Convention) (p : List ℕ) → IsPartition p → degree (label_in convention p) ≡ degree p
label_degree Regular p h = refl
label_degree Restricted p h = degree-conjugate p h

-- ---- lines

-- The line of a vector, told in a convention.
pub told_line : (convention : Convention) (n : ℕ) (w : Vector) (v : FockVector) → v ≡ fock_vector n w →
    (out : List ℕ) →
    out ++ line_of (vector_text (fock_vector_in convention v).entries) ≡ out ++ vector_line convention n w
told_line convention n w v is out =
    ap (λ (u : FockVector). out ++ line_of (vector_text (fock_vector_in convention u).entries)) is
    ∙ ap (λ es. out ++ line_of (vector_text es)) (told_entries convention n w)

-- What is within a limit isn't past it.
pub not_past : (limit n : ℕ) → n ≤ limit → nat_lt limit n ≡ false
not_past limit n le = grind (arith, nat_tests)

told_refusal : (convention : Convention) (e : ℕ) (mu : List ℕ) (why : Refused) →
    refusal_line (refusal_in convention (by_row why)) ≡ row_or_refusal convention e mu (outcome_told (Err why))
told_refusal convention e mu refused.TooLarge = refl
told_refusal convention e mu (refused.Stray at) = refl

module _ (limit e n : ℕ) (convention : Convention) (given mu : List ℕ) (ctx : Key) (k : ℕ) (entry : Place)
    (ctx_is : ctx ≡ key_of e n limit) (label_is : label ctx k ≡ mu) (entry_is : entry ≡ place ctx k)
    (mu_is : mu ≡ label_in convention given) (degree_is : n ≡ degree mu) (out : List ℕ) where
  outcome_is : outcome_at entry ≡ outcome e limit mu
  outcome_is =
      ap outcome_at entry_is
      ∙ ap (outcome ctx.e ctx.limit) label_is
      ∙ ap (λ (q : Key). outcome q.e q.limit mu) ctx_is

  row_is : (row : FockVector) →
      row ≡ fock_vector entry.key.degree (regular_row entry.key.e (label entry.key entry.rank)) →
      row ≡ fock_vector (degree mu) (regular_row e mu)
  row_is row is =
      is
      ∙ ap (λ (p : Place). fock_vector p.key.degree (regular_row p.key.e (label p.key p.rank))) entry_is
      ∙ ap (λ x. fock_vector ctx.degree (regular_row ctx.e x)) label_is
      ∙ ap (λ (q : Key). fock_vector q.degree (regular_row q.e mu)) ctx_is
      ∙ ap (λ m. fock_vector m (regular_row e mu)) degree_is

  -- The row of a label is told,
  pub told_row : (row : FockVector) →
      row ≡ fock_vector entry.key.degree (regular_row entry.key.e (label entry.key entry.rank)) →
      Row ≡ outcome_at entry →
      out ++ line_of (vector_text (fock_vector_in convention row).entries) ≡ out ++ row_text limit convention e given
  told_row row is whole =
      told_line convention (degree mu) (regular_row e mu) row (row_is row is) out
      ∙ ap (λ o. out ++ row_or_refusal convention e mu o) (whole ∙ outcome_is)
      ∙ ap (λ x. out ++ row_or_refusal convention e x (outcome e limit x)) mu_is

  -- or why there is none.
  pub told_no_row : (why : Refused) (first told : Refusal) → first ≡ by_row why →
      told ≡ refusal_in convention first → outcome_told (Err why) ≡ outcome_at entry →
      out ++ refusal_line told ≡ out ++ row_text limit convention e given
  told_no_row why first told first_is told_is whole =
      ap (λ r. out ++ refusal_line r) (told_is ∙ ap (refusal_in convention) first_is)
      ∙ ap (λ text. out ++ text) (told_refusal convention e mu why)
      ∙ ap (λ o. out ++ row_or_refusal convention e mu o) (whole ∙ outcome_is)
      ∙ ap (λ x. out ++ row_or_refusal convention e x (outcome e limit x)) mu_is
