use Rattle.std.proofs.Common.{rules, length, sym, ◌∙◌, ap, Ok, Err, slice_index_or, []}
use Rattle.std.specs.List.Sorted.{IsBinarySearchResult}
use Rattle.std.specs.Ordering.{nat_cmp}
use Rattle.std.proofs.lemmas.List.Sorted.{answers_always}
use Rattle.sp_fock_law.proofs.Sparse.{searched, spread-at}
use Rattle.sp_fock.proofs.grid.Grid.cell.Goals as goal

pub returns-in-Ok : goal.returns-in-Ok
returns-in-Ok c =
    let cells = c.line_cells-cells.result.now in
    let width = length c.args.self.now.columns in
    let found : IsBinarySearchResult (λ cell. nat_cmp cell.0 c.args.column) cells (Ok c.in-Ok.place) =
    c.in-Ok.ensures.position (λ cell. cell.0) (answers_always _ _ _ (λ f a r g called. search rules)) in
    sym (searched width cells c.line_cells-cells.ensures.sparse c.args.column (Ok c.in-Ok.place) c.in-Ok.ensures.bound
    found c.index-cells-place.result)
    ∙ sym (spread-at width cells c.args.column c.requires.column)
    ∙ ap (λ row. slice_index_or row c.args.column []) c.line_cells-cells.ensures.value

pub returns-in-Err : goal.returns-in-Err
returns-in-Err c =
    let cells = c.line_cells-cells.result.now in
    let width = length c.args.self.now.columns in
    let found : IsBinarySearchResult (λ cell. nat_cmp cell.0 c.args.column) cells (Err c.in-Err.field-0) =
    c.in-Err.ensures.position (λ cell. cell.0) (answers_always _ _ _ (λ f a r g called. search rules)) in
    c.self.invariant.others
    ∙ sym (searched width cells c.line_cells-cells.ensures.sparse c.args.column (Err c.in-Err.field-0)
    c.in-Err.ensures.bound found)
    ∙ sym (spread-at width cells c.args.column c.requires.column)
    ∙ ap (λ row. slice_index_or row c.args.column []) c.line_cells-cells.ensures.value
