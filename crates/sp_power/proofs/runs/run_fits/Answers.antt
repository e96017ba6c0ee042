-- A size that is more than what is left takes the sum past the limit.
use Rattle.std.proofs.Common.{ap, sym}
use Rattle.sp_power.proofs.Summing.{fits_none}
use Rattle.sp_power.proofs.runs.run_fits.Goals as goal

pub returns-in-None : goal.returns-in-None
returns-in-None c =
    fits_none c.args.pairs.now c.args.run.now c.loop-arrival.arrival-index c.arrival-item.result c.arrival.inside.source
    c.size.result c.loop-arrival.left c.args.limit c.index-pairs-arrival.result c.requires c.loop-arrival-test.true
    c.arrival-item.is
    (sym (ap (λ t. t.1) c.arrival.view_is)) c.size.ensures.value c.in-None.ensures c.loop-arrival.invariant
