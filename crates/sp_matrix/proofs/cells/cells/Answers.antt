use Rattle.std.proofs.Common.{◌≡◌, ◌+◌, ◌++◌, ◌∷◌, [], ℕ, length, get_or, Greater, sym, ◌∙◌, ap, ap₂}
use Rattle.std.proofs.Common.{subst, arith}
use Rattle.std.proofs.lemmas.List.{get_or_default, map-append, with_items_is}
use Rattle.std.specs.Global.{Vec}
use Rattle.sp_defs.specs.Laurent.{Laurent}
use Rattle.sp_defs.specs.Partition.{order}
use Rattle.sp_fock_law.specs.Sparse.{IsSparse, spread}
use Rattle.sp_fock.specs.Cells.{AreSparse, spread_rows}
use Rattle.sp_lists.proofs.Elements.{all_append}
use Rattle.sp_matrix.specs.Cursors.{ArePassed}
use Rattle.sp_matrix.specs.Walk.{line_cells, vectors_of}
use Rattle.sp_matrix.proofs.Passed.{all_passed_none, all_passed_next}
use Rattle.sp_matrix.proofs.Shown.{map_more}
use Rattle.sp_matrix.proofs.cells.cells.Goals as goal

pub loop-line-init : goal.loop-line-init
loop-line-init c = record {
  value = ap (spread_rows (length c.args.rows.now)) c.new-cells.ensures.items;
  sparse = subst (AreSparse (length c.args.rows.now)) (sym c.new-cells.ensures.items) tt;
  ends = λ d some.
      subst (ArePassed (get_or c.args.lines.now 0 d) (vectors_of c.args.rows.now)) (sym c.in_ok-ends.ensures)
      (all_passed_none (get_or c.args.lines.now 0 d) (vectors_of c.args.rows.now));
}

pub loop-line-preserved : goal.loop-line-preserved
loop-line-preserved c =
    let width = length c.args.rows.now in
    let rows = vectors_of c.args.rows.now in
    let lines = c.args.lines.now in
    let i = c.loop-line.line-index in
    let line = c.line-item.result in
    record {
      value =
          ap (spread_rows width) c.in_ok-push.ensures.items
          ∙ map-append (λ (row : Vec (ℕ × Laurent)). spread width row.items) c.loop-line.cells.items
          (c.in_ok-cells_of.field-0 ∷ [])
          ∙ ap₂ (λ xs x. xs ++ x ∷ []) c.loop-line.invariant.value c.in_ok-cells_of.ensures.value
          ∙ sym (map_more (line_cells c.args.form rows) lines i line c.loop-line-test.true c.line-item.is);
      sparse =
          subst (AreSparse width) (sym c.in_ok-push.ensures.items)
          (all_append (λ (row : Vec (ℕ × Laurent)). IsSparse width row.items) c.loop-line.cells.items
          (c.in_ok-cells_of.field-0 ∷ []) c.loop-line.invariant.sparse (c.in_ok-cells_of.ensures.sparse, tt));
      ends = λ d lt.
          let next = get_or lines (i + 1) d in
          let falls : order line next ≡ Greater =
          subst (λ x. order x next ≡ Greater)
          (sym (c.line-item.is ∙ get_or_default lines i line d c.loop-line-test.true)) (c.requires i d lt) in
          subst (ArePassed next rows) (sym (with_items_is c.loop-line.ends c.cells_of.new.ends (omega arith)))
          (all_passed_next line next falls rows c.cells_of.new.ends c.in_ok-cells_of.ensures.ends);
    }
