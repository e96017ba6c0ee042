-- All before the count lead to the partition, and the next one doesn't.
use Rattle.std.proofs.Common.{ap, sym}
use Rattle.sp_power.proofs.Summing.{length_here, length_whole, passes_more}
use Rattle.sp_power.proofs.runs.run_length.Goals as goal

pub returns-then-ne : goal.returns-then-ne
returns-then-ne c = record {
  value = length_here c.args.arrivals.now c.args.partition.now c.loop-count.count c.index-arrivals-count.result
      c.arrival.inside.partition
      c.loop-count-test.true c.index-arrivals-count.is
      (sym (ap (λ t. t.0) c.arrival.view_is)) c.if-ne.ensures c.loop-count.invariant;
}

pub loop-count-preserved : goal.loop-count-preserved
loop-count-preserved c =
    passes_more c.args.arrivals.now c.args.partition.now c.loop-count.count c.index-arrivals-count.result
    c.arrival.inside.partition
    c.loop-count-test.true c.index-arrivals-count.is
    (sym (ap (λ t. t.0) c.arrival.view_is)) c.if-ne.ensures c.loop-count.invariant

pub returns : goal.returns
returns c = record {
  value =
      length_whole c.args.arrivals.now c.args.partition.now c.loop-count.count c.loop-count-test.false
      c.loop-count.invariant;
}
