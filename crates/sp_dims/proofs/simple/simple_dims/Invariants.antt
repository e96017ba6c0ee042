use Rattle.std.proofs.Common.{◌≡◌, ◌++◌, [], drop, length}
use Rattle.std.specs.List.{zip}
use Rattle.sp_module_defs.specs.Cells.{cell_at}
use Rattle.sp_dims.proofs.Solving.{solved, past}
use Rattle.sp_dims.proofs.simple.simple_dims.Given as goal

abbrev pub invariant-loop-column : goal.invariant-loop-column
invariant-loop-column l = record {
  columns : l.column-items ≡ l.grid.columns;
  count : length l.dims.items ≡ l.column-index;
  is : l.dims.items ++ solved (cell_at l.grid) (zip l.grid.columns l.dims.items) (drop l.column-index l.grid.columns) ≡
      solved (cell_at l.grid) [] l.grid.columns;
  first : past l.limit (cell_at l.grid) (zip l.grid.columns l.dims.items) (drop l.column-index l.grid.columns) ≡
      past l.limit (cell_at l.grid) [] l.grid.columns;
}
