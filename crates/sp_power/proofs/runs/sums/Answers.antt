-- Each turn of the loop takes off the first run.
use Rattle.std.proofs.Common.{◌≤◌, length, sym, ap, subst, sum_by}
use Rattle.sp_power_law.specs.Runs.{size_of}
use Rattle.sp_power.proofs.Summing.{is_past, split_by, length_past, later_shorter, run_past, run_further, all_summed}
use Rattle.sp_power.proofs.Summing.{all_fit}
use Rattle.sp_power.proofs.runs.sums.Goals as goal

pub split_at-requires : goal.split_at-requires
split_at-requires c =
    subst (λ n. n ≤ length c.loop-rest.rest.now) (sym c.run_length.ensures.value)
    (length_past c.loop-rest.rest.now c.first.inside.partition)

pub returns-then-not-run_fits-clause-too_large : goal.returns-then-not-run_fits-clause-too_large
returns-then-not-run_fits-clause-too_large c =
    let s = split_by c.loop-rest.rest.now c.split_at.result.0.now c.split_at.result.1.now c.run_length.result
    c.first-item.result c.first.inside.partition
    c.in-len1-up.len_at_least c.first-item.is
    (sym (ap (λ t. t.0) c.first.view_is)) c.run_length.ensures.value c.split_at.ensures.front
    c.split_at.ensures.back in
    λ _. run_past c.args.pairs.now c.args.arrivals.now c.args.limit c.loop-rest.sums.items c.loop-rest.rest.now
    c.loop-rest.invariant
    c.first.inside.partition c.split_at.result.0.now c.split_at.result.1.now s
    (is_past c.run_fits.result
    (sum_by (size_of c.args.pairs.now) c.split_at.result.0.now) c.args.limit c.run_fits.ensures
    c.if-not-run_fits.true)

pub loop-rest-smaller : goal.loop-rest-smaller
loop-rest-smaller c =
    later_shorter c.loop-rest.rest.now c.first.inside.partition c.split_at.result.0.now c.split_at.result.1.now
    (split_by c.loop-rest.rest.now c.split_at.result.0.now c.split_at.result.1.now c.run_length.result
    c.first-item.result c.first.inside.partition
    c.in-len1-up.len_at_least c.first-item.is
    (sym (ap (λ t. t.0) c.first.view_is)) c.run_length.ensures.value c.split_at.ensures.front
    c.split_at.ensures.back)

pub loop-rest-preserved : goal.loop-rest-preserved
loop-rest-preserved c =
    let s = split_by c.loop-rest.rest.now c.split_at.result.0.now c.split_at.result.1.now c.run_length.result
    c.first-item.result c.first.inside.partition
    c.in-len1-up.len_at_least c.first-item.is
    (sym (ap (λ t. t.0) c.first.view_is)) c.run_length.ensures.value c.split_at.ensures.front
    c.split_at.ensures.back in
    run_further c.args.pairs.now c.args.arrivals.now c.args.limit c.loop-rest.sums.items c.loop-rest.rest.now
    c.loop-rest.invariant
    c.first.inside.partition c.split_at.result.0.now c.split_at.result.1.now c.in_ok-sum.sum
    c.push_nonzero.new.sums.items s
    (c.run_fits.ensures.0 c.if-not-run_fits.false) c.in_ok-sum.ensures c.push_nonzero.ensures.held
    c.in_ok-push_nonzero.ensures.sums

pub returns-clause-sums : goal.returns-clause-sums
returns-clause-sums c =
    all_summed c.args.pairs.now c.args.arrivals.now c.args.limit c.loop-rest.sums.items c.loop-rest.rest.now
    c.loop-rest.invariant c.in_default.len_below

pub returns-clause-fits : goal.returns-clause-fits
returns-clause-fits c =
    all_fit c.args.pairs.now c.args.arrivals.now c.args.limit c.loop-rest.sums.items c.loop-rest.rest.now
    c.loop-rest.invariant c.in_default.len_below
