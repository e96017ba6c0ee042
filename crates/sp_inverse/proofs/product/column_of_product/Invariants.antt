use Rattle.std.proofs.Common.{ℕ, ◌<◌, ◌≤◌}
use Rattle.sp_grid_law.specs.Lines.{IsLine}
use Rattle.sp_grid_law.specs.Lines.{line_size, line_sum}
use Rattle.sp_inverse.proofs.product.column_of_product.Given as goal

abbrev pub invariant-loop-line : goal.invariant-loop-line
invariant-loop-line l =
    IsLine l.line (line_sum l.a l.factors) l.cells.items
    × ((i : ℕ) → i < l.line → line_size l.a l.factors i ≤ l.limit)
