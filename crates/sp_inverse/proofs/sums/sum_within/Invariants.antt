use Rattle.std.proofs.Common.{◌≡◌, ◌≤◌, take}
use Rattle.sp_defs.specs.Laurent.{size}
use Rattle.sp_grid_law.specs.Lines.{cells_size, cells_sum}
use Rattle.sp_inverse.proofs.sums.sum_within.Given as goal

abbrev pub invariant-loop-cell : goal.invariant-loop-cell
invariant-loop-cell l =
    (l.sum ≡ cells_sum (take l.cell-index l.cells) l.factors)
    × (size l.sum ≤ cells_size (take l.cell-index l.cells) l.factors)
