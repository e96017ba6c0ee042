-- What is said of the certificate of all rows: it is in the grammar, it says the rows, and the test accepts it.
use Rattle.std.specs.Prelude.{◌≡◌, ◌≢◌, ℕ, List, [], ◌∷◌, map, flat_map}
use Rattle.std.specs.List.{AllByRecursion}
use Rattle.sp_defs.specs.Power.{fock_vector}
use Rattle.sp_defs.specs.Row.{regular_row, outcome, Row}
use Rattle.sp_core.specs.declared.piece.Key.{Key}
use Rattle.sp_llt.specs.Place.{IsKey, labels}
use Rattle.sp_llt.specs.Shares.{given_shares}
use Rattle.sp_cert.specs.declared.certificate.Column.{Column}
use Rattle.sp_cert.specs.declared.fault.CertFault.{CertFault}
use Rattle.sp_cert.specs.declared.fault.CertFault.TheVariants.{Memory}
use Rattle.sp_cert.specs.Order.{columns_of}
use Rattle.sp_cert.specs.Rules.{Listing, listing, IsCertificate}
use Rattle.sp_cert.specs.Texts.{ended, certificate_text}
use Rattle.sp_cert.specs.Verdict.{IsAccepted, IsCause}
use Rattle.sp_cert.specs.Grammar.{Answer, Allowed, Ends, NotAllowed, Nothing, answer_to}

-- The column of the row of mu: the shares that aren't 0, and the row (this project's own).
abbrev pub row_column : ℕ → ℕ → List ℕ → Column
row_column e n mu = record { mu = mu; shares = given_shares e mu 0; entries = fock_vector n (regular_row e mu) }

-- The columns of all rows of degree n, in the order of version 2 (this project's own).
abbrev pub row_columns : ℕ → ℕ → List Column
row_columns e n = map (row_column e n) (columns_of 2 e n)

-- What the certificate of all rows says (this project's own).
abbrev pub row_listing : ℕ → ℕ → Listing
row_listing e n = listing 2 e n (row_columns e n)

-- Each e-regular partition has a row within the limit.
abbrev pub HasAllRows : Key → Type 0
HasAllRows key = AllByRecursion (λ mu. outcome key.e key.limit mu ≡ Row) (labels key)

-- No newline stands in a line.
abbrev pub IsLine : List ℕ → Type 0
IsLine text = AllByRecursion (λ c. c ≢ 10) text

-- What comes of lines, one after the other. Nothing may follow the end (this project's own).
abbrev pub answer_after : Answer → List (List ℕ) → Answer
answer_after answer [] = answer
answer_after (Allowed before) (line ∷ lines) = answer_after (answer_to before line) lines
answer_after (Ends c) (line ∷ lines) = NotAllowed
answer_after NotAllowed (line ∷ lines) = NotAllowed

-- The columns of all rows are a certificate whose columns are all accepted: no column is a cause to refuse it.
pub record IsAcceptedWhole (key : Key) : Type 0 where
  pub rules : IsCertificate (row_listing key.e key.degree)
  pub accepted : AllByRecursion (IsAccepted key (row_columns key.e key.degree)) (row_columns key.e key.degree)
  pub no_cause : (fault : CertFault) → IsCause key (row_columns key.e key.degree) fault → fault ≡ Memory

-- The text has lines that the grammar allows one after the other, and the last of them, and no other, is the end. They
-- say the certificate of all rows.
pub record IsWritten (key : Key) : Type 0 where
  pub lines : List (List ℕ)
  pub text : certificate_text key.e key.degree ≡ flat_map ended lines
  pub each : AllByRecursion IsLine lines
  pub grammar : answer_after (Allowed Nothing) lines ≡ Ends (row_listing key.e key.degree)

-- The certificate of all rows is read as itself, and accepted under the limit within which all rows are.
pub record WrittenFacts (key : Key) : Type 0 where
  pub written : IsWritten key
  pub accepted : IsAcceptedWhole key

-- WrittenFacts wherever all rows are within the limit.
abbrev pub WrittenLaw : Type 0
WrittenLaw = (key : Key) → IsKey key → HasAllRows key → WrittenFacts key
