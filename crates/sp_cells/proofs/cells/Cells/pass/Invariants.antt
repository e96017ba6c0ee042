use Rattle.std.proofs.Common.{◌≡◌, map, take, replicate}
use Rattle.std.specs.declared.option.Option.TheVariants.{None}
use Rattle.once_cell.specs.Once.{cell_name}
use Rattle.sp_cells.specs.Known.{known}
use Rattle.sp_cells.specs.Noted.{view_of}
use Rattle.sp_cells.proofs.cells.Cells.pass.Given as goal

abbrev pub invariant-loop-cell : goal.invariant-loop-cell
invariant-loop-cell g l =
    view_of l.notes.items ≡
    known (map (λ b. cell_name b) (take l.cell-index l.cell-items)) (replicate l.cell-index None)
