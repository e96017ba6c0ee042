use Rattle.std.proofs.Common.{sym, ◌∙◌, ap, subst}
use Rattle.sp_fock_law.specs.Grid.{IsHeading}
use Rattle.sp_grid_law.specs.Products.{product_cell}
use Rattle.sp_grid_law.specs.Tables.{transposed}
use Rattle.sp_grid_law.proofs.Lines.{transposed_back}
use Rattle.sp_inverse.proofs.Rows.{kept_grid, kept_is, kept_sparse}
use Rattle.sp_inverse.proofs.product.multiply.Goals as goal

pub from_cells-turned-requires-clause-grid : goal.from_cells-turned-requires-clause-grid
from_cells-turned-requires-clause-grid c =
    let a = c.args.a.now in
    let b = c.args.b.now in
    kept_grid a.degree c.degree.result a.lines b.columns c.in_ok-from_slice.field-0.items
    c.in_ok-from_slice-2.field-0.items (λ line column. product_cell a b column line) c.in_ok-columns.columns.items
    c.degree.ensures.value (c.in_ok-from_slice.ensures.items ∙ c.lines.ensures.value)
    (c.in_ok-from_slice-2.ensures.items ∙ c.columns.ensures.value) c.in_ok-columns.ensures.columns
    c.degree.ensures.grid.lines
    (subst (λ n. IsHeading n b.columns) (sym c.requires.one_degree) c.columns.ensures.grid.columns)

pub from_cells-turned-requires-clause-sparse : goal.from_cells-turned-requires-clause-sparse
from_cells-turned-requires-clause-sparse c =
    let a = c.args.a.now in
    let b = c.args.b.now in
    kept_sparse a.degree c.degree.result a.lines b.columns c.in_ok-from_slice.field-0.items
    c.in_ok-from_slice-2.field-0.items (λ line column. product_cell a b column line) c.in_ok-columns.columns.items
    c.degree.ensures.value (c.in_ok-from_slice.ensures.items ∙ c.lines.ensures.value)
    (c.in_ok-from_slice-2.ensures.items ∙ c.columns.ensures.value) c.in_ok-columns.ensures.columns

pub returns-clause-product : goal.returns-clause-product
returns-clause-product c =
    let a = c.args.a.now in
    let b = c.args.b.now in
    c.in_ok-transpose.ensures
    ∙ ap transposed
    (c.from_cells-turned.ensures
    ∙ kept_is a.degree c.degree.result a.lines b.columns c.in_ok-from_slice.field-0.items
    c.in_ok-from_slice-2.field-0.items (λ line column. product_cell a b column line) c.in_ok-columns.columns.items
    c.degree.ensures.value (c.in_ok-from_slice.ensures.items ∙ c.lines.ensures.value)
    (c.in_ok-from_slice-2.ensures.items ∙ c.columns.ensures.value) c.in_ok-columns.ensures.columns)
    ∙ transposed_back a.degree b.columns a.lines (product_cell a b)
