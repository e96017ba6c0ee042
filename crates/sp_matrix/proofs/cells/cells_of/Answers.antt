use Rattle.std.proofs.Common.{◌<◌, ◌++◌, ◌∷◌, [], sym, ◌∙◌, ap₂, subst}
use Rattle.sp_matrix.proofs.Passed.{ends_long, passed_at, passed_set}
use Rattle.sp_matrix.proofs.Sparse.{line_more, pushed}
use Rattle.sp_matrix.proofs.cells.cells_of.Goals as goal

pub bounds-ends-place : goal.bounds-ends-place
bounds-ends-place c =
    subst (λ n. c.loop-place.place < n)
    (sym (ends_long c.args.line.now c.args.rows.now c.loop-place.ends c.loop-place.invariant.ends))
    c.loop-place-test.true

pub end_at-end-requires : goal.end_at-end-requires
end_at-end-requires c =
    passed_at c.args.line.now c.args.rows.now c.loop-place.ends c.loop-place.invariant.ends c.loop-place.place
    c.index-rows-place.result c.loop-place-test.true c.index-rows-place.is

pub bounds-ends-place-in-loop-place : goal.bounds-ends-place-in-loop-place
bounds-ends-place-in-loop-place c =
    subst (λ n. c.loop-place.place < n)
    (sym (ends_long c.args.line.now c.args.rows.now c.loop-place.ends c.loop-place.invariant.ends))
    c.loop-place-test.true

pub loop-place-preserved : goal.loop-place-preserved
loop-place-preserved c =
    let next = pushed c.loop-place.place c.loop-place.cells.items c.loop-place.invariant.sparse c.in_ok-cell.cell
    c.push_cell.new.cells.items c.in_ok-push_cell.ensures in
    record {
      sparse = next.sparse;
      row =
          next.row
          ∙ ap₂ (λ ps q. ps ++ q ∷ []) c.loop-place.invariant.row c.in_ok-cell.ensures
          ∙ sym (line_more c.args.rows.now c.loop-place.place c.index-rows-place.result c.loop-place-test.true
          c.index-rows-place.is c.args.form c.args.line.now);
      ends =
          passed_set c.args.line.now c.args.rows.now c.loop-place.ends c.loop-place.invariant.ends c.loop-place.place
          c.index-rows-place.result c.loop-place-test.true c.index-rows-place.is c.end_at-end.result
          c.end_at-end.ensures.passed;
    }
