use Rattle.std.proofs.Common.{ℕ, ◌<◌}
use Rattle.sp_grid_law.specs.Columns.{IsColumnWithin}
use Rattle.sp_inverse.proofs.powers.column_past.Given as goal

abbrev pub invariant-loop-column : goal.invariant-loop-column
invariant-loop-column l = (k : ℕ) → k < l.column → IsColumnWithin l.most l.g k
