-- Each turn of the loop takes off the first run.
use Rattle.std.proofs.Common.{◌≤◌, ◌∙◌, length, get_or, sym, ap, subst, sum_by, nat_eq}
use Rattle.std.proofs.lemmas.List.Sums.{prefix_len-le-length}
use Rattle.sp_defs.specs.Power.{FockVector}
use Rattle.sp_laurent.specs.Held.{IsHeld}
use Rattle.sp_power.proofs.Summing.{is_past}
use Rattle.sp_ranks.specs.declared.walk.Arrival.{Arrival}
use Rattle.sp_ranks.specs.Arrivals.{size_at}
use Rattle.sp_ranks.proofs.RankRuns.{nothing, rank_split}
use Rattle.sp_ranks.proofs.RankSums.{rank_begins, rank_further, rank_past, rank_shorter, ranks_fit, ranks_summed}
use Rattle.sp_ranks.proofs.RankSums.{run_is_brought, run_sources}
use Rattle.sp_ranks.proofs.sums.sums.Goals as goal

pub loop-rest-init : goal.loop-rest-init
loop-rest-init c =
    rank_begins c.args.n c.args.v.now.entries c.args.arrivals.now c.args.limit c.in_ok-ranks.ranks.items
    c.in_ok-polynomials.polynomials c.in_ok-ranks.ensures.items c.in_ok-polynomials.ensures c.requires.degree
    c.requires.brought c.requires.sorted

pub split_at-requires : goal.split_at-requires
split_at-requires c =
    subst (λ n. n ≤ length c.loop-rest.rest.now) (sym c.run_length.ensures)
    (prefix_len-le-length (λ (t : Arrival). nat_eq t.rank (get_or c.loop-rest.rest.now 0 nothing).rank)
    c.loop-rest.rest.now)

pub run_fits-requires : goal.run_fits-requires
run_fits-requires c =
    run_sources c.args.n c.args.v.now.entries c.args.arrivals.now c.args.limit c.loop-rest.ranks.items
    c.loop-rest.polynomials c.loop-rest.rest.now c.loop-rest.invariant
    (get_or c.loop-rest.rest.now 0 nothing).rank c.split_at.result.0.now c.split_at.result.1.now
    (rank_split c.loop-rest.rest.now c.split_at.result.0.now c.split_at.result.1.now c.run_length.result
    c.in-len1-up.len_at_least c.run_length.ensures c.split_at.ensures.front c.split_at.ensures.back)

pub returns-then-not-run_fits-clause-too_large : goal.returns-then-not-run_fits-clause-too_large
returns-then-not-run_fits-clause-too_large c = λ _.
    rank_past c.args.n c.args.v.now.entries c.args.arrivals.now c.args.limit c.loop-rest.ranks.items
    c.loop-rest.polynomials c.loop-rest.rest.now c.loop-rest.invariant
    (get_or c.loop-rest.rest.now 0 nothing).rank c.split_at.result.0.now c.split_at.result.1.now
    (rank_split c.loop-rest.rest.now c.split_at.result.0.now c.split_at.result.1.now c.run_length.result
    c.in-len1-up.len_at_least c.run_length.ensures c.split_at.ensures.front c.split_at.ensures.back)
    (is_past c.run_fits.result (sum_by (size_at c.args.v.now.entries) c.split_at.result.0.now) c.args.limit
    c.run_fits.ensures c.if-not-run_fits.true)

pub add_run-requires-clause-brought : goal.add_run-requires-clause-brought
add_run-requires-clause-brought c = (
  c.args.n,
  run_is_brought c.args.n c.args.v.now.entries c.args.arrivals.now c.args.limit c.loop-rest.ranks.items
      c.loop-rest.polynomials c.loop-rest.rest.now c.loop-rest.invariant
      (get_or c.loop-rest.rest.now 0 nothing).rank c.split_at.result.0.now c.split_at.result.1.now
      (rank_split c.loop-rest.rest.now c.split_at.result.0.now c.split_at.result.1.now c.run_length.result
      c.in-len1-up.len_at_least c.run_length.ensures c.split_at.ensures.front c.split_at.ensures.back),
)

pub loop-rest-smaller : goal.loop-rest-smaller
loop-rest-smaller c =
    rank_shorter c.args.n c.args.v.now.entries c.args.arrivals.now c.args.limit c.loop-rest.ranks.items
    c.loop-rest.polynomials c.loop-rest.rest.now c.loop-rest.invariant
    (get_or c.loop-rest.rest.now 0 nothing).rank c.split_at.result.0.now c.split_at.result.1.now
    (rank_split c.loop-rest.rest.now c.split_at.result.0.now c.split_at.result.1.now c.run_length.result
    c.in-len1-up.len_at_least c.run_length.ensures c.split_at.ensures.front c.split_at.ensures.back)

pub loop-rest-preserved : goal.loop-rest-preserved
loop-rest-preserved c =
    rank_further c.args.n c.args.v.now.entries c.args.arrivals.now c.args.limit c.loop-rest.ranks.items
    c.loop-rest.polynomials c.loop-rest.rest.now c.loop-rest.invariant
    (get_or c.loop-rest.rest.now 0 nothing).rank c.split_at.result.0.now c.split_at.result.1.now
    (rank_split c.loop-rest.rest.now c.split_at.result.0.now c.split_at.result.1.now c.run_length.result
    c.in-len1-up.len_at_least c.run_length.ensures c.split_at.ensures.front c.split_at.ensures.back)
    c.deref.result.now c.push_nonzero.new.ranks.items c.push_nonzero.new.polynomials
    (c.run_fits.ensures.0 c.if-not-run_fits.false) (c.deref.ensures.value ∙ c.in_ok-add_run.ensures.sum)
    (subst IsHeld (sym c.deref.ensures.value) c.in_ok-add_run.ensures.held)
    c.in_ok-push_nonzero.ensures.ranks c.in_ok-push_nonzero.ensures.polynomials

pub over-requires : goal.over-requires
over-requires c = c.loop-rest.invariant.over

pub returns-clause-sums : goal.returns-clause-sums
returns-clause-sums c =
    ap (λ (w : FockVector). w.entries) c.over.ensures
    ∙ ranks_summed c.args.n c.args.v.now.entries c.args.arrivals.now c.args.limit c.loop-rest.ranks.items
    c.loop-rest.polynomials c.loop-rest.rest.now c.loop-rest.invariant
    c.in_default.len_below

pub returns-clause-fits : goal.returns-clause-fits
returns-clause-fits c =
    ranks_fit c.args.n c.args.v.now.entries c.args.arrivals.now c.args.limit c.loop-rest.ranks.items
    c.loop-rest.polynomials c.loop-rest.rest.now c.loop-rest.invariant
    c.in_default.len_below
