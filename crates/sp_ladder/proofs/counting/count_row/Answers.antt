use Rattle.std.proofs.Common.{◌<◌, ◌+◌, ◌-◌, length, length-set, arith, subst, sym, ◌∙◌, ap}
use Rattle.sp_ladder.proofs.Counts.{counted, count_on-few, next_column, inside}
use Rattle.sp_ladder.specs.declared.counting.TheConstants.{LADDERS}
use Rattle.sp_ladder.proofs.counting.count_row.Goals as goal

pub overflow_add-counts : goal.overflow_add-counts
overflow_add-counts c =
    let l = c.loop-column.ladder in
    let within = inside c.args.e c.args.row c.loop-column.column c.args.part l LADDERS c.loop-column.invariant.at
    c.requires.at_most c.loop-column-test.true c.requires.small in
    omega (
      arith,
      c.loop-column.invariant.counted l within,
      count_on-few c.args.e l c.args.row c.loop-column.column,
      c.requires.room l within,
    )

pub loop-column-preserved : goal.loop-column-preserved
loop-column-preserved c =
    let l = c.loop-column.ladder in
    let within = inside c.args.e c.args.row c.loop-column.column c.args.part l LADDERS c.loop-column.invariant.at
    c.requires.at_most c.loop-column-test.true c.requires.small in
    let here : l < length c.loop-column.counts = subst (λ n. l < n) (sym c.loop-column.invariant.size) within in
    record {
      at = ap (λ n. l + (n - 1)) c.from.ensures
          ∙ next_column c.args.e c.args.row c.loop-column.column l c.loop-column.invariant.at;
      size = length-set c.loop-column.counts l _ ∙ c.loop-column.invariant.size;
      counted = λ n lt.
          counted c.args.e c.args.row c.loop-column.column n _ l c.loop-column.counts c.loop-column.invariant.at here
          (c.loop-column.invariant.counted n lt);
    }
