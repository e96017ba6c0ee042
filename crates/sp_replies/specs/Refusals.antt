-- Why a command that was read is refused, and the line that says so. This project's own.
use Rattle.std.specs.Prelude.{ℕ, List, ◌++◌, codes}
use Rattle.std.specs.Fmt.{decimal}
use Rattle.sp_defs.specs.Text.{partition_text}
use Rattle.sp_abacus.specs.declared.combining.CombineFault.{CombineFault}
use Rattle.sp_abacus.specs.declared.combining.CombineFault.TheVariants as combine
use Rattle.sp_llt.specs.declared.refused.Refused.{Refused}
use Rattle.sp_llt.specs.declared.refused.Refused.TheVariants as refused
use Rattle.sp_replies.specs.Words.{line_of}
use Rattle.sp_replies.specs.declared.refusals.Refusal.{Refusal}
use Rattle.sp_replies.specs.declared.refusals.Refusal.TheVariants.{TooLarge, LargeColumn, Stray, StrayColumn, NoPath}
use Rattle.sp_replies.specs.declared.refusals.Refusal.TheVariants.{UnknownPainter, NotCore, WrongCount, PastDegree}
use Rattle.sp_replies.specs.declared.refusals.Refusal.TheVariants.{Malformed, WrongColumn, TooMany}

abbrev pub refusal_line : Refusal → List ℕ
refusal_line TooLarge = line_of (codes "error 9 too large")
refusal_line (LargeColumn column) = line_of (codes "error 9 too large at column " ++ partition_text column)
refusal_line (Stray at) = line_of (codes "error 10 stray coefficient at " ++ partition_text at)
refusal_line (StrayColumn column at) =
    line_of (codes "error 10 stray coefficient at " ++ partition_text at
    ++ codes " in column " ++ partition_text column)
refusal_line NoPath = line_of (codes "error 11 no path")
refusal_line UnknownPainter = line_of (codes "error 14 unknown painter")
refusal_line NotCore = line_of (codes "error 18 not a core")
refusal_line WrongCount = line_of (codes "error 18 not e quotients")
refusal_line PastDegree = line_of (codes "error 18 degree past 30")
refusal_line (Malformed line) = line_of (codes "error 15 certificate malformed at line " ++ decimal line)
refusal_line (WrongColumn column) = line_of (codes "error 16 certificate wrong at column " ++ partition_text column)
refusal_line TooMany = line_of (codes "error 20 too many fillings")

-- As a row is refused that a command asks for alone.
abbrev pub by_row : Refused → Refusal
by_row refused.TooLarge = TooLarge
by_row (refused.Stray at) = Stray at

-- As the row of a column is refused.
abbrev pub by_column : List ℕ → Refused → Refusal
by_column mu refused.TooLarge = LargeColumn mu
by_column mu (refused.Stray at) = StrayColumn mu at

-- As a core and a quotient are refused.
abbrev pub by_combining : CombineFault → Refusal
by_combining combine.NotCore = NotCore
by_combining combine.WrongCount = WrongCount
by_combining combine.PastDegree = PastDegree
