-- What a whole certificate is answered. This project's own.
use Rattle.std.specs.Prelude.{ℕ, List, [], ◌++◌, length, Option, Some, None, codes}
use Rattle.std.specs.Fmt.{decimal}
use Rattle.sp_cert.specs.Rules.{Listing}
use Rattle.sp_cert.specs.declared.fault.CertFault.{CertFault}
use Rattle.sp_cert.specs.declared.fault.CertFault.TheVariants.{Malformed, TooLarge, Wrong, Memory}
use Rattle.sp_cert.specs.Failing.{Failing, LargeAt, WrongAt, first_failing}
use Rattle.sp_llt.specs.Place.{key_of}
use Rattle.sp_replies.specs.Refusals.{refusal_line}
use Rattle.sp_replies.specs.Words.{line_of}
use Rattle.sp_replies.specs.declared.refusals.Refusal.TheVariants.{LargeColumn, WrongColumn}

abbrev pub accepted_text : ℕ → List ℕ
accepted_text count = line_of (codes "accepted " ++ decimal count ++ codes " columns")

-- How many columns there are, unless one fails.
abbrev pub accepted_or_refusal : ℕ → Option Failing → List ℕ
accepted_or_refusal count None = accepted_text count
accepted_or_refusal count (Some (LargeAt mu)) = refusal_line (LargeColumn mu)
accepted_or_refusal count (Some (WrongAt mu)) = refusal_line (WrongColumn mu)

-- What the test of a certificate that was read finds: no malformed line.
abbrev pub IsOfColumns : CertFault → Type 0
IsOfColumns (Malformed line) = ⊥
IsOfColumns (TooLarge mu) = Unit {0}
IsOfColumns (Wrong mu) = Unit {0}
IsOfColumns Memory = Unit {0}

-- A column that fails was found.
abbrev pub NamesColumn : CertFault → Type 0
NamesColumn (Malformed line) = ⊥
NamesColumn (TooLarge mu) = Unit {0}
NamesColumn (Wrong mu) = Unit {0}
NamesColumn Memory = ⊥

-- The first column that fails, where one does.
abbrev pub failing_text : CertFault → List ℕ
failing_text (TooLarge mu) = refusal_line (LargeColumn mu)
failing_text (Wrong mu) = refusal_line (WrongColumn mu)
failing_text other = []

-- All columns are rows under the limit, or this is the first that fails.
unfoldable pub verdict_text : ℕ → Listing → List ℕ
verdict_text limit c =
    accepted_or_refusal (length c.columns) (first_failing (key_of c.e c.degree limit) c.columns)
