use Rattle.std.proofs.Common.{rules, ◌<◌, ◌++◌, ◌∷◌, [], ℕ, length, length-set, sym, ◌∙◌, ap}
use Rattle.std.proofs.lemmas.List.{append-nil}
use Rattle.std.specs.Global.{Vec}
use Rattle.sp_defs.specs.Laurent.{Laurent}
use Rattle.sp_fock.specs.Rows.{cells_at}
use Rattle.sp_inverse.specs.Lines.{line_at}
use Rattle.sp_grid_law.proofs.Lines.{nothing_among}
use Rattle.sp_inverse.proofs.Rows.{added, next_place}
use Rattle.sp_inverse.proofs.transposes.add_column.Goals as goal

pub loop-cell-init : goal.loop-cell-init
loop-cell-init c = (
  search rules,
  λ k.
      sym (ap (λ q. line_at c.args.rows.now k ++ cells_at c.args.column q) (nothing_among k)
      ∙ append-nil (line_at c.args.rows.now k)),
)

pub offset_bounds-rows-cell : goal.offset_bounds-rows-cell
offset_bounds-rows-cell c =
    let within : c.cell-item.result.0 < length c.loop-cell.rows =
    next_place c.loop-cell.rows c.args.rows.now c.args.column c.args.cells.now c.requires c.loop-cell.cell-index
    c.cell-item.result c.loop-cell-test.true c.cell-item.is c.loop-cell.invariant.0 in
    search (rules, within)

pub bounds-rows-cell : goal.bounds-rows-cell
bounds-rows-cell c =
    next_place c.loop-cell.rows c.args.rows.now c.args.column c.args.cells.now c.requires c.loop-cell.cell-index
    c.cell-item.result c.loop-cell-test.true c.cell-item.is c.loop-cell.invariant.0

pub loop-cell-preserved : goal.loop-cell-preserved
loop-cell-preserved c = (
  length-set c.loop-cell.rows c.cell-item.result.0 c.push.new.self ∙ c.loop-cell.invariant.0,
  added c.loop-cell.rows c.args.rows.now c.args.column c.args.cells.now c.requires c.loop-cell.cell-index
      c.cell-item.result c.loop-cell-test.true c.cell-item.is c.loop-cell.invariant.0 c.loop-cell.invariant.1
      c.index-rows-cell.result c.push.new.self c.index-rows-cell.is c.in_ok-copy.field-0 c.in_ok-copy.ensures
      (c.in_ok-push.ensures.items
      ∙ ap (λ (r : Vec (ℕ × Laurent)). r.items ++ (c.args.column, c.in_ok-copy.field-0) ∷ [])
      (sym c.index-rows-cell.is)),
)
