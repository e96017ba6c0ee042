use Rattle.std.proofs.Common.{◌≡◌, take}
use Rattle.std.specs.List.{AllZip}
use Rattle.sp_module_defs.specs.Cells.{cell_at}
use Rattle.sp_matrix.specs.Agreements.{LineIs}
use Rattle.sp_matrix.proofs.comparison.answers_alone.Given as goal

abbrev pub invariant-loop-p : goal.invariant-loop-p
invariant-loop-p l = record {
  same : l.p-items ≡ l.grid.lines;
  answers :
      AllZip (λ p answer. LineIs l.e l.limit (cell_at l.grid) p answer) (take l.p-index l.p-items) l.answers.items;
}
