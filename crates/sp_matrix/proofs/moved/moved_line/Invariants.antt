use Rattle.std.proofs.Common.{◌≡◌, map, take}
use Rattle.sp_fock_law.specs.Grid.{cell_of}
use Rattle.sp_fock_law.specs.Sparse.{IsSparse, spread}
use Rattle.sp_matrix.proofs.moved.moved_line.Given as goal

abbrev pub invariant-loop-place : goal.invariant-loop-place
invariant-loop-place l = record {
  sparse : IsSparse l.place l.cells.items;
  row : spread l.place l.cells.items ≡ map (λ column. cell_of l.grid l.line column.1) (take l.place l.columns);
}
