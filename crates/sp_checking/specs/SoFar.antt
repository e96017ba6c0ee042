-- How far the certificate behind a `check` has come, and what its lines are answered. This project's own.
use Rattle.std.specs.Prelude.{ℕ, ◌+◌, nat_eq, cond, Bool, true, false, List, [], codes}
use Rattle.std.specs.Cmp.Lexicographic.{pointwise}
use Rattle.sp_cert.specs.Grammar.{Answer, Allowed, Ends, NotAllowed, Nothing, answer_to, reading}
use Rattle.sp_checking.specs.Verdict.{verdict_text}
use Rattle.sp_checking.specs.declared.so_far.Checking.{Checking}
use Rattle.sp_checking.specs.declared.so_far.Checking.TheVariants.{Outside, Inside, Malformed}
use Rattle.sp_replies.specs.Refusals.{refusal_line}
use Rattle.sp_replies.specs.declared.refusals.Refusal.TheVariants as refusal

-- A certificate before its first line.
abbrev pub begun : Checking
begun = Inside (reading 1 Nothing)

-- The next line belongs to a certificate.
abbrev pub is_open : Checking → Bool
is_open Outside = false
is_open (Inside r) = true
is_open (Malformed number) = true

-- The line that ends a certificate, whether it is malformed or not.
abbrev pub is_end : List ℕ → Bool
is_end line = pointwise nat_eq line (codes "end")

-- ---- a malformed certificate, whose first line outside the grammar has this number

-- It goes on up to its end.
abbrev pub behind_malformed : ℕ → List ℕ → Checking
behind_malformed number line = cond (is_end line) Outside (Malformed number)

-- It is answered there.
abbrev pub malformed_text : ℕ → List ℕ → List ℕ
malformed_text number line = cond (is_end line) (refusal_line (refusal.Malformed number)) []

-- ---- the line with this number, by what it is in its place

abbrev pub behind_answer : ℕ → List ℕ → Answer → Checking
behind_answer number line (Allowed before) = Inside (reading (number + 1) before)
behind_answer number line (Ends c) = Outside
behind_answer number line NotAllowed = behind_malformed number line

abbrev pub text_by : ℕ → ℕ → List ℕ → Answer → List ℕ
text_by limit number line (Allowed before) = []
text_by limit number line (Ends c) = verdict_text limit c
text_by limit number line NotAllowed = malformed_text number line

-- ---- a line

-- How far the certificate has come behind a line.
unfoldable pub after : Checking → List ℕ → Checking
after Outside line = Outside
after (Inside r) line = behind_answer r.next line (answer_to r.before line)
after (Malformed number) line = behind_malformed number line

-- What a line of it is answered under a limit.
unfoldable pub line_text : ℕ → Checking → List ℕ → List ℕ
line_text limit Outside line = []
line_text limit (Inside r) line = text_by limit r.next line (answer_to r.before line)
line_text limit (Malformed number) line = malformed_text number line

-- What it is answered where the input ends in it: the first line outside the grammar, or the one that is awaited.
unfoldable pub unfinished_text : Checking → List ℕ
unfinished_text Outside = []
unfinished_text (Inside r) = refusal_line (refusal.Malformed r.next)
unfinished_text (Malformed number) = refusal_line (refusal.Malformed number)
