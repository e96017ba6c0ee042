use Rattle.std.proofs.Common.{◌≡◌, ◌+◌, ◌++◌, length, sym, ◌∙◌, ap, subst, arith}
use Rattle.std.proofs.lemmas.List.{with_items_is}
use Rattle.sp_fock_law.specs.Grid.{cell_of}
use Rattle.sp_fock_law.specs.Sparse.{cell_among}
use Rattle.sp_fock.specs.Rows.{cells_at}
use Rattle.sp_inverse.specs.Lines.{line_at}
use Rattle.sp_inverse.specs.Turned.{AreColumns}
use Rattle.sp_inverse.proofs.Rows.{column_added}
use Rattle.sp_inverse.proofs.transposes.turned_cells.Goals as goal

pub loop-line-preserved : goal.loop-line-preserved
loop-line-preserved c =
    let g = c.args.g.now in
    let line = c.loop-line.line in
    let many : length c.add_column.new.rows ≡ length c.loop-line.rows.items =
    c.in_ok-add_column.ensures.count ∙ ap length c.deref_mut.ensures.value in
    subst (AreColumns (length g.columns) (line + 1) (cell_of g))
    (sym (with_items_is c.loop-line.rows c.add_column.new.rows (omega (arith, many))))
    (column_added g line c.line_cells.result.now c.line_cells.ensures.sparse c.line_cells.ensures.value
    c.loop-line.rows.items c.loop-line.invariant c.add_column.new.rows many
    (λ k. c.in_ok-add_column.ensures.rows k
    ∙ ap (λ rs. line_at rs k ++ cells_at line (cell_among c.line_cells.result.now k)) c.deref_mut.ensures.value))
