use Rattle.std.proofs.Common.{◌≡◌, ◌<◌, ℕ, List, length, map, take, get_or}
use Rattle.sp_fock.specs.Cells.{AreSparse, spread_rows}
use Rattle.sp_matrix.specs.Cursors.{ArePassed}
use Rattle.sp_matrix.specs.Walk.{line_cells, vectors_of}
use Rattle.sp_matrix.proofs.cells.cells.Given as goal

abbrev pub invariant-loop-line : goal.invariant-loop-line
invariant-loop-line l = record {
  value :
      spread_rows (length l.rows) l.cells.items
      ≡ map (line_cells l.form (vectors_of l.rows)) (take l.line-index l.lines);
  sparse : AreSparse (length l.rows) l.cells.items;
  ends : (d : List ℕ) → l.line-index < length l.lines →
      ArePassed (get_or l.lines l.line-index d) (vectors_of l.rows) l.ends.items;
}
