use Rattle.std.proofs.Common.{◌≡◌, false, take}
use Rattle.std.specs.List.{list_all, list_any}
use Rattle.sp_module_defs.specs.Cells.{cell_at}
use Rattle.sp_matrix.proofs.Lined.{agrees_at, past_at}
use Rattle.sp_matrix.proofs.line.line_agrees.Given as goal

abbrev pub invariant-loop-column : goal.invariant-loop-column
invariant-loop-column l = record {
  agrees : l.agrees ≡ list_all (agrees_at l.e (cell_at l.grid) l.p) (take l.column l.grid.columns);
  within : list_any (past_at l.e l.limit (cell_at l.grid) l.p) (take l.column l.grid.columns) ≡ false;
}
