use Rattle.std.proofs.Common.{List, ℕ, length, sym, ◌∙◌, subst}
use Rattle.sp_fock.specs.Cells.{AreSparse}
use Rattle.sp_cartan.proofs.SquarePart.{made_is_grid, square_made}
use Rattle.sp_cartan.proofs.squares.square.Goals as goal

pub from_cells-requires-clause-grid : goal.from_cells-requires-clause-grid
from_cells-requires-clause-grid c =
    made_is_grid c.args.g.now c.degree.ensures.grid c.degree.result c.in_ok-columns.columns.items
    c.in_ok-lines.lines.items c.in_ok-cells.cells.items c.degree.ensures.value
    (c.in_ok-columns.ensures.items ∙ c.columns.ensures.value) (c.in_ok-lines.ensures.items ∙ c.columns-2.ensures.value)
    c.in_ok-cells.ensures.value

pub from_cells-requires-clause-sparse : goal.from_cells-requires-clause-sparse
from_cells-requires-clause-sparse c =
    subst (λ (cs : List (List ℕ)). AreSparse (length cs) c.in_ok-cells.cells.items)
    (sym (c.in_ok-columns.ensures.items ∙ c.columns.ensures.value)) c.in_ok-cells.ensures.sparse

pub returns : goal.returns
returns c =
    c.from_cells.ensures
    ∙ square_made c.args.g.now c.degree.ensures.grid c.degree.result c.in_ok-columns.columns.items
    c.in_ok-lines.lines.items c.in_ok-cells.cells.items c.degree.ensures.value
    (c.in_ok-columns.ensures.items ∙ c.columns.ensures.value) (c.in_ok-lines.ensures.items ∙ c.columns-2.ensures.value)
    c.in_ok-cells.ensures.value
