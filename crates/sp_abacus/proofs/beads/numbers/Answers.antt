use Rattle.std.proofs.Common.{arith}
use Rattle.sp_abacus.proofs.Walks.{numbers_more, numbers_done}
use Rattle.sp_abacus.proofs.beads.numbers.Goals as goal

pub loop-row-preserved : goal.loop-row-preserved
loop-row-preserved c =
    record {
      is = numbers_more c.args.p.now c.args.count c.loop-row.row c.part.result
          c.loop-row.numbers.items c.push.new.self.items (omega arith) c.part.ensures.value
          c.loop-row.invariant.is c.push.ensures.items;
      len = omega arith;
    }

pub returns : goal.returns
returns c =
    numbers_done c.args.count c.loop-row.row c.args.p.now c.loop-row.numbers.items (omega arith) c.loop-row.invariant.is
