use Rattle.std.proofs.Common.{◌≡◌, ℕ, [], length}
use Rattle.sp_inverse.specs.Lines.{line_at}
use Rattle.sp_inverse.proofs.transposes.empty_lines.Given as goal

abbrev pub invariant-loop-line : goal.invariant-loop-line
invariant-loop-line l = (length l.rows.items ≡ l._line) × ((k : ℕ) → line_at l.rows.items k ≡ [])
