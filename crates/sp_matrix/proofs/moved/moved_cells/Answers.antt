use Rattle.std.proofs.Common.{◌<◌, ◌++◌, ◌∷◌, [], ℕ, length, map, sym, ◌∙◌, ap, ap₂, subst}
use Rattle.std.proofs.lemmas.List.{map-append}
use Rattle.std.specs.Global.{Vec}
use Rattle.sp_defs.specs.Laurent.{Laurent}
use Rattle.sp_fock_law.specs.Grid.{cell_of}
use Rattle.sp_fock_law.specs.Sparse.{IsSparse, spread}
use Rattle.sp_fock.specs.Cells.{AreSparse, spread_rows}
use Rattle.sp_lists.proofs.Elements.{all_append}
use Rattle.sp_lists.proofs.Places.{all_at}
use Rattle.sp_matrix.proofs.Shown.{map_more}
use Rattle.sp_matrix.proofs.moved.moved_cells.Goals as goal

pub moved_line-requires-clause-line : goal.moved_line-requires-clause-line
moved_line-requires-clause-line c =
    subst (λ t. t.1 < length c.args.grid.now.lines) (sym c.line-item.is)
    (all_at (λ t. t.1 < length c.args.grid.now.lines) c.args.lines.now c.loop-line.line-index c.line-item.result
    c.requires.lines c.loop-line-test.true)

pub loop-line-preserved : goal.loop-line-preserved
loop-line-preserved c =
    let width = length c.args.columns.now in
    record {
      value =
          ap (spread_rows width) c.in_ok-push.ensures.items
          ∙ map-append (λ (row : Vec (ℕ × Laurent)). spread width row.items) c.loop-line.cells.items
          (c.in_ok-moved_line.field-0 ∷ [])
          ∙ ap₂ (λ xs x. xs ++ x ∷ []) c.loop-line.invariant.value c.in_ok-moved_line.ensures.value
          ∙ sym (map_more (λ line. map (λ column. cell_of c.args.grid.now line.1 column.1) c.args.columns.now)
          c.args.lines.now c.loop-line.line-index c.line-item.result c.loop-line-test.true c.line-item.is);
      sparse =
          subst (AreSparse width) (sym c.in_ok-push.ensures.items)
          (all_append (λ (row : Vec (ℕ × Laurent)). IsSparse width row.items) c.loop-line.cells.items
          (c.in_ok-moved_line.field-0 ∷ []) c.loop-line.invariant.sparse (c.in_ok-moved_line.ensures.sparse, tt));
    }
