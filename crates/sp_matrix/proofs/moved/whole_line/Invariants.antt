use Rattle.std.proofs.Common.{◌≡◌, ◌++◌, map}
use Rattle.sp_fock.specs.Rows.{polynomial_of}
use Rattle.sp_fock_law.specs.Grid.{row_of}
use Rattle.sp_matrix.proofs.moved.whole_line.Given as goal

-- The cells so far, and those that are still to come.
abbrev pub invariant-loop-cell : goal.invariant-loop-cell
invariant-loop-cell l =
    (goal.iterator-loop-cell).can_next l.cell-iterator
    × (goal.iterator-loop-cell).is_finite l.cell-iterator
    × (map polynomial_of l.whole.items ++ l.cell-iterator ≡ row_of l.grid l.line)
