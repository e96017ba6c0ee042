use Rattle.std.proofs.Common.{◌≡◌, ◌++◌}
use Rattle.sp_fock_law.specs.Grid.{row_of}
use Rattle.sp_inverse.proofs.cells.whole_line.Given as goal

-- The cells so far, and those that are still to come.
abbrev pub invariant-loop-cell : goal.invariant-loop-cell
invariant-loop-cell l =
    (goal.iterator-loop-cell).can_next l.cell-iterator
    × (goal.iterator-loop-cell).is_finite l.cell-iterator
    × (l.cells.items ++ l.cell-iterator ≡ row_of l.g l.line)
