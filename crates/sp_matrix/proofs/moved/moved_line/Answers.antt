use Rattle.std.proofs.Common.{◌<◌, ◌++◌, ◌∷◌, [], get_or, length, sym, ◌∙◌, ap, ap₂, subst, arith, Bor}
use Rattle.std.proofs.lemmas.List.{get_or-map}
use Rattle.sp_defs.specs.Laurent.{Laurent}
use Rattle.sp_fock.specs.Rows.{polynomial_of}
use Rattle.sp_fock_law.specs.Grid.{cell_of}
use Rattle.sp_lists.proofs.Places.{all_at}
use Rattle.sp_matrix.proofs.Shown.{map_more}
use Rattle.sp_matrix.proofs.Sparse.{pushed}
use Rattle.sp_matrix.proofs.moved.moved_line.Goals as goal

pub loop-place-preserved : goal.loop-place-preserved
loop-place-preserved c =
    let grid = c.args.grid.now in
    let place = c.loop-place.place in
    let column = c.index-columns-place.result in
    let whole = c.in_ok-whole.whole.items in
    let below : column.1 < length grid.columns =
    subst (λ t. t.1 < length grid.columns) (sym c.index-columns-place.is)
    (all_at (λ t. t.1 < length grid.columns) c.args.columns.now place column c.requires.columns
    c.loop-place-test.true) in
    let within : column.1 < length whole = omega (arith, c.in_ok-whole.ensures.width, c.in_ok-whole.whole.ok.0) in
    let next = pushed place c.loop-place.cells.items c.loop-place.invariant.sparse c.index-cell.result.now.now
    c.push_copy.new.cells.items c.in_ok-push_copy.ensures in
    record {
      sparse = next.sparse;
      row =
          next.row
          ∙ ap₂ (λ ps q. ps ++ q ∷ []) c.loop-place.invariant.row
          (ap (λ (b : Bor Laurent). b.now) c.index-cell.ensures
          ∙ ap (λ t. (get_or whole t.1 c.index-cell.result.now).now) (sym c.index-columns-place.is)
          ∙ sym (get_or-map polynomial_of whole column.1 c.index-cell.result.now [] within)
          ∙ ap (λ row. get_or row column.1 []) c.in_ok-whole.ensures.value)
          ∙ sym (map_more (λ t. cell_of grid c.args.line t.1) c.args.columns.now place column c.loop-place-test.true
          c.index-columns-place.is);
    }
