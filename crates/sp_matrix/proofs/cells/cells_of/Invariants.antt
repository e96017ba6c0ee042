use Rattle.std.proofs.Common.{◌≡◌, take}
use Rattle.sp_fock_law.specs.Sparse.{IsSparse, spread}
use Rattle.sp_matrix.specs.Cursors.{ArePassed}
use Rattle.sp_matrix.specs.Walk.{line_cells, vectors_of}
use Rattle.sp_matrix.proofs.cells.cells_of.Given as goal

abbrev pub invariant-loop-place : goal.invariant-loop-place
invariant-loop-place l = record {
  sparse : IsSparse l.place l.cells.items;
  row : spread l.place l.cells.items ≡ line_cells l.form (vectors_of (take l.place l.rows)) l.line;
  ends : ArePassed l.line (vectors_of l.rows) l.ends;
}
