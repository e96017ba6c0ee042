use Rattle.std.proofs.Common.{◌≡◌, ◌+◌, take}
use Rattle.sp_grid_law.specs.Lines.{cells_size}
use Rattle.sp_inverse.proofs.sums.products_fit.Given as goal

abbrev pub invariant-loop-cell : goal.invariant-loop-cell
invariant-loop-cell l = cells_size (take l.cell-index l.cells) l.factors + l.room ≡ l.limit
