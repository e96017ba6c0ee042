use Rattle.std.proofs.Common.{◌≡◌, vec_len}
use Rattle.sp_row_tests.proofs.matrices.row.Given as goal

abbrev pub invariant-loop-cell : goal.invariant-loop-cell
invariant-loop-cell l = vec_len l.row ≡ l.cell-index
