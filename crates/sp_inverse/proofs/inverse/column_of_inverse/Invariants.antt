use Rattle.std.proofs.Common.{◌≡◌, ◌<◌, ◌≤◌, ℕ}
use Rattle.sp_fock_law.specs.Grid.{cell_of}
use Rattle.sp_grid_law.specs.Inverses.{inverse_size}
use Rattle.sp_grid_law.specs.Solved.{inverse_of, solved}
use Rattle.sp_inverse.proofs.inverse.column_of_inverse.Given as goal

abbrev pub invariant-loop-line : goal.invariant-loop-line
invariant-loop-line l =
    (l.cells.items ≡ solved (cell_of l.g) l.column l.line)
    × ((i : ℕ) → l.column < i → i < l.line → inverse_size l.g (inverse_of l.g) i l.column ≤ l.limit)
