use Rattle.std.proofs.Common.{◌≡◌, length, map, take}
use Rattle.sp_fock.specs.Cells.{AreSparse, spread_rows}
use Rattle.sp_fock_law.specs.Grid.{cell_of}
use Rattle.sp_matrix.proofs.moved.moved_cells.Given as goal

abbrev pub invariant-loop-line : goal.invariant-loop-line
invariant-loop-line l = record {
  value :
      spread_rows (length l.columns) l.cells.items
      ≡ map (λ line. map (λ column. cell_of l.grid line.1 column.1) l.columns) (take l.line-index l.lines);
  sparse : AreSparse (length l.columns) l.cells.items;
}
