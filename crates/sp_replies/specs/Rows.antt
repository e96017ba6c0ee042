-- Answers on rows. This project's own.
use Rattle.std.specs.Prelude.{ℕ, List}
use Rattle.sp_defs.specs.Partition.{degree}
use Rattle.sp_defs.specs.Row.{regular_row, Outcome, TooLarge, Stray, Row, outcome}
use Rattle.sp_lang.specs.Convention.{label_in}
use Rattle.sp_lang.specs.declared.convention.Convention.{Convention}
use Rattle.sp_replies.specs.Labels.{refusal_in, vector_line}
use Rattle.sp_replies.specs.Refusals.{refusal_line}
use Rattle.sp_replies.specs.declared.refusals.Refusal.TheVariants as refusal

-- The row of mu as a convention tells it, or why there is none.
abbrev pub row_or_refusal : Convention → ℕ → List ℕ → Outcome → List ℕ
row_or_refusal convention e mu TooLarge = refusal_line refusal.TooLarge
row_or_refusal convention e mu (Stray at) = refusal_line (refusal_in convention (refusal.Stray at))
row_or_refusal convention e mu Row = vector_line convention (degree mu) (regular_row e mu)

-- The row of the partition that a label stands for.
abbrev pub row_text : ℕ → Convention → ℕ → List ℕ → List ℕ
row_text limit convention e label =
    row_or_refusal convention e (label_in convention label) (outcome e limit (label_in convention label))
