use Rattle.std.proofs.Common.{ℕ, ◌<◌, length}
use Rattle.sp_fock_law.specs.Grid.{cell_of}
use Rattle.sp_grid_law.specs.Inverses.{IsInverseWithin}
use Rattle.sp_grid_law.specs.Solved.{inverse_of, solution}
use Rattle.sp_inverse.specs.Turned.{AreColumns}
use Rattle.sp_inverse.proofs.inverse.columns_of_inverse.Given as goal

abbrev pub invariant-loop-column : goal.invariant-loop-column
invariant-loop-column l =
    AreColumns l.column (length l.g.lines) (solution (cell_of l.g)) l.columns.items
    × ((k : ℕ) → k < l.column → IsInverseWithin l.limit l.g (inverse_of l.g) k)
