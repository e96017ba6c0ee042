use Rattle.std.proofs.Common.{◌+◌, length, sym, subst}
use Rattle.sp_fock_law.specs.Grid.{cell_of}
use Rattle.sp_grid_law.specs.Inverses.{IsInverseWithin}
use Rattle.sp_grid_law.specs.Solved.{inverse_of, solution}
use Rattle.sp_grid_law.proofs.Columns.{one_further, solved_line}
use Rattle.sp_inverse.specs.Turned.{AreColumns}
use Rattle.sp_inverse.proofs.Rows.{columns_more, row_line}
use Rattle.sp_inverse.proofs.inverse.columns_of_inverse.Goals as goal

pub loop-column-preserved : goal.loop-column-preserved
loop-column-preserved c =
    let g = c.args.g.now in
    let column = c.loop-column.column in
    let n = length g.lines in (
      subst (AreColumns (column + 1) n (solution (cell_of g))) (sym c.in_ok-push_line-in-Ok.ensures)
          (columns_more c.loop-column.columns.items c.in_ok-sparse_row-in-Ok.field-0 column n (solution (cell_of g))
          c.loop-column.invariant.0
          (solved_line (cell_of g) column n c.in-Ok.cells.items c.in-Ok.ensures.cells
          c.in_ok-sparse_row-in-Ok.field-0.items
          (row_line c.in-Ok.cells.items c.in_ok-sparse_row-in-Ok.field-0.items c.in_ok-sparse_row-in-Ok.ensures.value
          c.in_ok-sparse_row-in-Ok.ensures.sparse))),
      one_further (λ k. IsInverseWithin c.args.limit g (inverse_of g) k) column c.loop-column.invariant.1
          c.in-Ok.ensures.within,
    )
