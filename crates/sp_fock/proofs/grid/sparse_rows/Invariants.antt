use Rattle.std.proofs.Common.{◌≡◌, ◌++◌, length}
use Rattle.std.specs.List.{AllByRecursion}
use Rattle.std.specs.Vec.Iter.{into_iter_items, into_iter_len}
use Rattle.sp_fock.specs.Cells.{AreSparse, rows_of, spread_rows}
use Rattle.sp_fock.proofs.grid.sparse_rows.Given as goal

-- The lines so far are those that were given, and the rest of these is still to come.
abbrev pub invariant-loop-row : goal.invariant-loop-row
invariant-loop-row l =
    (goal.iterator-loop-row).can_next l.row-iterator
    × (goal.iterator-loop-row).is_finite l.row-iterator
    × (into_iter_len l.row-iterator ≡ length (into_iter_items l.row-iterator))
    × (spread_rows l.width l.sparse.items ++ rows_of (into_iter_items l.row-iterator) ≡ rows_of l.fn.rows.items)
    × AllByRecursion (λ row. length row ≡ l.width) (rows_of (into_iter_items l.row-iterator))
    × AreSparse l.width l.sparse.items
