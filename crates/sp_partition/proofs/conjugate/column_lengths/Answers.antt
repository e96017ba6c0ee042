use Rattle.std.proofs.Common.{rules, arith}
use Rattle.sp_partition.proofs.ColumnLengths.{columns_next}
use Rattle.sp_partition.proofs.conjugate.column_lengths.Goals as goal

pub loop-column-preserved : goal.loop-column-preserved
loop-column-preserved c = (
  search rules,
  columns_next c.args.parts.now c.loop-column.columns c.loop-column.column c.rows_reaching.result
      (omega (arith, c.loop-column.invariant.0, c.loop-column-test.true, c.requires.narrow)) c.loop-column.invariant.1
      c.rows_reaching.ensures,
)
