use Rattle.std.proofs.Common.{◌∙◌}
use Rattle.sp_fock_law.specs.Grid.{cell_of}
use Rattle.sp_inverse.proofs.Rows.{kept_grid, kept_is, kept_sparse}
use Rattle.sp_inverse.proofs.transposes.transpose.Goals as goal

pub from_cells-requires-clause-grid : goal.from_cells-requires-clause-grid
from_cells-requires-clause-grid c =
    let g = c.args.g.now in
    kept_grid g.degree c.degree.result g.lines g.columns c.in_ok-columns.columns.items c.in_ok-lines.lines.items
    (λ line column. cell_of g column line) c.in_ok-cells.cells.items c.degree.ensures.value
    (c.in_ok-columns.ensures.items ∙ c.lines.ensures.value) (c.in_ok-lines.ensures.items ∙ c.columns.ensures.value)
    c.in_ok-cells.ensures c.degree.ensures.grid.lines c.degree.ensures.grid.columns

pub from_cells-requires-clause-sparse : goal.from_cells-requires-clause-sparse
from_cells-requires-clause-sparse c =
    let g = c.args.g.now in
    kept_sparse g.degree c.degree.result g.lines g.columns c.in_ok-columns.columns.items c.in_ok-lines.lines.items
    (λ line column. cell_of g column line) c.in_ok-cells.cells.items c.degree.ensures.value
    (c.in_ok-columns.ensures.items ∙ c.lines.ensures.value) (c.in_ok-lines.ensures.items ∙ c.columns.ensures.value)
    c.in_ok-cells.ensures

pub returns : goal.returns
returns c =
    let g = c.args.g.now in
    c.from_cells.ensures
    ∙ kept_is g.degree c.degree.result g.lines g.columns c.in_ok-columns.columns.items c.in_ok-lines.lines.items
    (λ line column. cell_of g column line) c.in_ok-cells.cells.items c.degree.ensures.value
    (c.in_ok-columns.ensures.items ∙ c.lines.ensures.value) (c.in_ok-lines.ensures.items ∙ c.columns.ensures.value)
    c.in_ok-cells.ensures
