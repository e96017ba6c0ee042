-- The first moves are summed.
use Rattle.sp_ranks.proofs.RankSums.{RunSum}
use Rattle.sp_ranks.proofs.sums.add_run.Given as goal

abbrev pub invariant-loop-arrival : goal.invariant-loop-arrival
invariant-loop-arrival l = RunSum l.v.entries l.run l.arrival-index l.sum.items
