-- A size that is more than what is left takes the sum past the limit.
use Rattle.std.proofs.Common.{ap, ◌∙◌, arith}
use Rattle.std.proofs.lemmas.List.Sums.{sum_by_more}
use Rattle.sp_defs.specs.Laurent.{size}
use Rattle.sp_ranks.specs.Arrivals.{size_at}
use Rattle.sp_ranks.proofs.RankRuns.{nothing}
use Rattle.sp_ranks.proofs.RankSums.{size_past}
use Rattle.sp_ranks.proofs.sums.run_fits.Goals as goal

pub returns-in-None : goal.returns-in-None
returns-in-None c =
    size_past c.args.v.now.entries c.args.run.now c.loop-arrival.arrival-index c.size_of.result c.loop-arrival.left
    c.args.limit c.loop-arrival-test.true (c.size_of.ensures ∙ ap size c.terms.ensures.value) c.in-None.ensures
    c.loop-arrival.invariant

pub loop-arrival-preserved : goal.loop-arrival-preserved
loop-arrival-preserved c =
    omega (
      arith,
      c.loop-arrival.invariant,
      c.size_of.ensures,
      ap size c.terms.ensures.value,
      c.in-Some.ensures,
      sum_by_more (size_at c.args.v.now.entries) c.args.run.now c.loop-arrival.arrival-index nothing
          c.loop-arrival-test.true,
    )
