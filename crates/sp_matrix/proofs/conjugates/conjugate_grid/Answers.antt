-- The headings are the conjugates with their places, and the cells are those at the places.
use Rattle.std.proofs.Common.{map, sym, ◌∙◌, ap, subst}
use Rattle.sp_fock_law.specs.Grid.{IsGrid}
use Rattle.sp_matrix.proofs.TurnedGrids.{all_placed, conjugate_is_grid, made_grid, turned_heading}
use Rattle.sp_matrix.proofs.conjugates.conjugate_grid.Goals as goal

pub moved_cells-requires-clause-lines : goal.moved_cells-requires-clause-lines
moved_cells-requires-clause-lines c =
    let g = c.args.grid.now in
    all_placed g.degree g.lines c.deref.result.now
    (c.deref.ensures.value
    ∙ turned_heading g.degree c.lines.result.now g.lines c.in_ok-turned_lines.turned_lines.items c.lines.ensures.value
    c.lines.ensures.grid.lines c.in_ok-turned_lines.ensures)

pub moved_cells-requires-clause-columns : goal.moved_cells-requires-clause-columns
moved_cells-requires-clause-columns c =
    let g = c.args.grid.now in
    all_placed g.degree g.columns c.deref-2.result.now
    (c.deref-2.ensures.value
    ∙ turned_heading g.degree c.columns.result.now g.columns c.in_ok-turned_columns.turned_columns.items
    c.columns.ensures.value c.columns.ensures.grid.columns c.in_ok-turned_columns.ensures)

pub from_cells-requires-clause-grid : goal.from_cells-requires-clause-grid
from_cells-requires-clause-grid c =
    let g = c.args.grid.now in
    subst IsGrid (sym (made_grid g c.degree.result c.in_ok-columns.columns.items c.in_ok-lines.lines.items
    c.in_ok-turned_columns.turned_columns.items c.in_ok-turned_lines.turned_lines.items c.deref-2.result.now
    c.deref.result.now c.in_ok-cells.cells.items c.degree.ensures.value
    (c.in_ok-columns.ensures ∙ ap (map (λ t. t.0)) c.deref-3.ensures.value)
    (c.in_ok-lines.ensures ∙ ap (map (λ t. t.0)) c.deref-4.ensures.value)
    (turned_heading g.degree c.columns.result.now g.columns c.in_ok-turned_columns.turned_columns.items
    c.columns.ensures.value c.columns.ensures.grid.columns c.in_ok-turned_columns.ensures)
    (turned_heading g.degree c.lines.result.now g.lines c.in_ok-turned_lines.turned_lines.items c.lines.ensures.value
    c.lines.ensures.grid.lines c.in_ok-turned_lines.ensures)
    c.deref-2.ensures.value c.deref.ensures.value c.in_ok-cells.ensures.value))
    (conjugate_is_grid g)

pub returns : goal.returns
returns c =
    let g = c.args.grid.now in
    c.from_cells.ensures
    ∙ made_grid g c.degree.result c.in_ok-columns.columns.items c.in_ok-lines.lines.items
    c.in_ok-turned_columns.turned_columns.items c.in_ok-turned_lines.turned_lines.items c.deref-2.result.now
    c.deref.result.now c.in_ok-cells.cells.items c.degree.ensures.value
    (c.in_ok-columns.ensures ∙ ap (map (λ t. t.0)) c.deref-3.ensures.value)
    (c.in_ok-lines.ensures ∙ ap (map (λ t. t.0)) c.deref-4.ensures.value)
    (turned_heading g.degree c.columns.result.now g.columns c.in_ok-turned_columns.turned_columns.items
    c.columns.ensures.value c.columns.ensures.grid.columns c.in_ok-turned_columns.ensures)
    (turned_heading g.degree c.lines.result.now g.lines c.in_ok-turned_lines.turned_lines.items c.lines.ensures.value
    c.lines.ensures.grid.lines c.in_ok-turned_lines.ensures)
    c.deref-2.ensures.value c.deref.ensures.value c.in_ok-cells.ensures.value
