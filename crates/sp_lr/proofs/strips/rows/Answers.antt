use Rattle.std.proofs.Common.{arith}
use Rattle.sp_lr.proofs.Rounds.{rows_more}
use Rattle.sp_lr.proofs.strips.rows.Goals as goal

pub loop-row-preserved : goal.loop-row-preserved
loop-row-preserved c = record {
  is = rows_more c.args.before.now c.args.last.now c.loop-row.rows.items c.push.new.self.items c.loop-row.row
      c.part.result c.part-in-loop-row.result c.part-in-loop-row-2.result (omega arith) c.part.ensures.value
      c.part-in-loop-row.ensures.value c.part-in-loop-row-2.ensures.value c.loop-row.invariant.is c.push.ensures.items;
  len = omega arith;
}
