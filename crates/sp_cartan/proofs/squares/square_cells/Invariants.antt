use Rattle.std.proofs.Common.{◌≡◌, ◌<◌, ◌≤◌, [], get_or, length, map, take}
use Rattle.sp_fock.specs.Cells.{AreSparse, spread_rows}
use Rattle.sp_module_defs.specs.Cells.{cell_at, place}
use Rattle.sp_cartan.proofs.squares.square_cells.Given as goal

-- The lines so far are those of the columns so far, and the line of the next column isn't passed.
abbrev pub invariant-loop-column : goal.invariant-loop-column
invariant-loop-column l = record {
  columns : l.column-items ≡ l.g.columns;
  value : spread_rows (length l.g.columns) l.rows.items ≡
      map (λ lambda. map (cell_at l.g lambda) l.g.columns) (take l.column-index l.g.columns);
  sparse : AreSparse (length l.g.columns) l.rows.items;
  line : l.column-index < length l.g.columns → l.line ≤ place l.g.lines (get_or l.g.columns l.column-index []);
}
