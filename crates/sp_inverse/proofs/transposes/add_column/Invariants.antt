use Rattle.std.proofs.Common.{◌≡◌, ℕ, ◌++◌, length, take}
use Rattle.sp_fock_law.specs.Sparse.{cell_among}
use Rattle.sp_fock.specs.Rows.{cells_at}
use Rattle.sp_inverse.specs.Lines.{line_at}
use Rattle.sp_inverse.proofs.transposes.add_column.Given as goal

abbrev pub invariant-loop-cell : goal.invariant-loop-cell
invariant-loop-cell l =
    (length l.rows ≡ length l.fn.rows)
    × ((k : ℕ) → line_at l.rows k
    ≡ line_at l.fn.rows k ++ cells_at l.column (cell_among (take l.cell-index l.cells) k))
