use Rattle.std.proofs.Common.{◌≡◌, false, not, take, find, count_by}
use Rattle.sp_module_defs.specs.Agreement.{agrees}
use Rattle.sp_module_defs.specs.Cells.{cell_at}
use Rattle.sp_matrix.specs.Agreements.{is_past}
use Rattle.sp_matrix.proofs.comparison.summary.Given as goal

abbrev pub invariant-loop-line : goal.invariant-loop-line
invariant-loop-line l = record {
  same : l.lines ≡ l.grid.lines;
  agreeing : l.agreeing ≡ count_by (agrees l.e (cell_at l.grid)) (take l.line l.lines);
  first : l.first ≡ find (λ p. not (agrees l.e (cell_at l.grid) p)) (take l.line l.lines);
  within : is_past l.e l.limit (cell_at l.grid) (take l.line l.lines) ≡ false;
}
