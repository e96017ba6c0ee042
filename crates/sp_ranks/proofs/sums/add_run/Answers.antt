-- Each move adds its share.
use Rattle.std.proofs.Common.{◌^◌, ◌∙◌, ap, arith, get_or}
use Rattle.sp_defs.specs.Laurent.{size}
use Rattle.sp_lists.proofs.Places.{all_at}
use Rattle.sp_ranks.specs.Arrivals.{IsBroughtBy}
use Rattle.sp_ranks.proofs.RankRuns.{nothing}
use Rattle.sp_ranks.proofs.RankSums.{adds_share, no_sum, one_fits, one_more, sum_all, sum_held, sum_laurent}
use Rattle.sp_ranks.proofs.RankSums.{terms_within}
use Rattle.sp_ranks.proofs.Walks.{read_exponent}
use Rattle.sp_ranks.proofs.sums.add_run.Goals as goal

pub loop-arrival-init : goal.loop-arrival-init
loop-arrival-init c = no_sum c.args.v.now.entries c.args.run.now c.args.sum.now.items c.requires.empty

pub add_shifted-requires-clause-laurent : goal.add_shifted-requires-clause-laurent
add_shifted-requires-clause-laurent c =
    sum_laurent c.args.v.now.entries c.args.run.now c.loop-arrival.arrival-index c.loop-arrival.sum.items
    c.loop-arrival.invariant

pub add_shifted-requires-clause-fits : goal.add_shifted-requires-clause-fits
add_shifted-requires-clause-fits c =
    omega (
      arith,
      ap size c.terms.ensures.value,
      one_fits c.args.v.now.entries c.args.run.now
          c.loop-arrival.arrival-index c.loop-arrival.sum.items c.loop-arrival.invariant c.loop-arrival-test.true
          (2 ^ 127) c.requires.fits,
    )

pub add_shifted-requires-clause-within : goal.add_shifted-requires-clause-within
add_shifted-requires-clause-within c =
    let t = get_or c.args.run.now c.loop-arrival.arrival-index nothing in
    let b = all_at (IsBroughtBy c.requires.brought.0 c.args.v.now.entries) c.args.run.now
    c.loop-arrival.arrival-index nothing c.requires.brought.1 c.loop-arrival-test.true in
    terms_within c.requires.brought.0 c.args.v.now.entries t c.terms.result.now c.from.result b
    (c.from.ensures ∙ read_exponent t.exponent b.near) c.terms.ensures.value

pub loop-arrival-preserved : goal.loop-arrival-preserved
loop-arrival-preserved c =
    let t = get_or c.args.run.now c.loop-arrival.arrival-index nothing in
    let b = all_at (IsBroughtBy c.requires.brought.0 c.args.v.now.entries) c.args.run.now
    c.loop-arrival.arrival-index nothing c.requires.brought.1 c.loop-arrival-test.true in
    one_more c.args.v.now.entries c.args.run.now c.loop-arrival.arrival-index c.loop-arrival.sum.items
    c.loop-arrival.invariant c.loop-arrival-test.true c.requires.brought.0 c.add_shifted.new.terms.items b
    (adds_share c.requires.brought.0 c.args.v.now.entries t c.terms.result.now c.loop-arrival.sum.items
    c.add_shifted.new.terms.items c.from.result b (c.from.ensures ∙ read_exponent t.exponent b.near)
    c.terms.ensures.value c.in_ok-add_shifted.ensures)

pub returns-clause-sum : goal.returns-clause-sum
returns-clause-sum c =
    sum_all c.args.v.now.entries c.args.run.now c.loop-arrival.arrival-index c.loop-arrival.sum.items
    c.loop-arrival.invariant c.loop-arrival-test.false

pub returns-clause-held : goal.returns-clause-held
returns-clause-held c =
    sum_held c.args.v.now.entries c.args.run.now c.loop-arrival.arrival-index c.loop-arrival.sum.items
    c.loop-arrival.invariant c.loop-arrival-test.false c.requires.fits
