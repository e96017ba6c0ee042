use Rattle.std.proofs.Common.{◌≡◌, ◌+◌, take, pos, ◌-ℤ◌}
use Rattle.sp_defs.specs.Laurent.{slope_at_one}
use Rattle.sp_fock_law.specs.Grid.{row_of}
use Rattle.sp_dims.specs.Equation.{products_of, products_weight}
use Rattle.sp_dims.proofs.equation.solve.Given as goal

abbrev pub invariant-loop-column : goal.invariant-loop-column
invariant-loop-column l = record {
  is : l.dim ≡ pos l.number -ℤ slope_at_one (products_of (row_of l.grid l.line) (take l.column l.known));
  whole : l.number + products_weight (row_of l.grid l.line) (take l.column l.known) + l.room ≡ l.limit;
}
