-- The first move and then each other one adds its share, and no more than its size.
use Rattle.std.proofs.Common.{arith, ◌+◌, ◌^◌}
use Rattle.sp_power.proofs.Summing.{sum_none, sum_first, sum_more, sum_whole, share_fits, length-others, others_at}
use Rattle.sp_power.proofs.runs.run_sum.Goals as goal

pub returns-in_default : goal.returns-in_default
returns-in_default c =
    sum_none c.args.pairs.now c.args.run.now c.zero.result c.in_default.len_below c.zero.ensures

pub loop-arrival-init : goal.loop-arrival-init
loop-arrival-init c =
    sum_first c.args.pairs.now c.args.run.now c.first-item.result c.in_ok-sum.sum c.in-len1-up.len_at_least
    c.first-item.is c.in_ok-sum.ensures

pub plus_share-requires-clause-fits : goal.plus_share-requires-clause-fits
plus_share-requires-clause-fits c =
    share_fits c.args.pairs.now c.args.run.now (c.loop-arrival.arrival-index + 1) c.arrival-item.result
    c.loop-arrival.sum (2 ^ 127)
    (omega (arith, c.loop-arrival-test.true, length-others c.args.run.now c.in-len1-up.len_at_least))
    (others_at c.args.run.now c.loop-arrival.arrival-index c.arrival-item.result c.in-len1-up.len_at_least
    c.arrival-item.is) c.loop-arrival.invariant c.requires.fits

pub loop-arrival-preserved : goal.loop-arrival-preserved
loop-arrival-preserved c =
    sum_more c.args.pairs.now c.args.run.now (c.loop-arrival.arrival-index + 1) c.arrival-item.result
    c.loop-arrival.sum c.in_ok-sum-2.sum
    (omega (arith, c.loop-arrival-test.true, length-others c.args.run.now c.in-len1-up.len_at_least))
    (others_at c.args.run.now c.loop-arrival.arrival-index c.arrival-item.result c.in-len1-up.len_at_least
    c.arrival-item.is) c.loop-arrival.invariant c.in_ok-sum-2.ensures

pub returns : goal.returns
returns c =
    sum_whole c.args.pairs.now c.args.run.now (c.loop-arrival.arrival-index + 1) c.loop-arrival.sum
    (omega (arith, c.loop-arrival-test.false, length-others c.args.run.now c.in-len1-up.len_at_least))
    c.loop-arrival.invariant
