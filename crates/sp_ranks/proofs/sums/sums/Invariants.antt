-- What was summed, and what the moves that are left will bring.
use Rattle.std.proofs.Common.{length}
use Rattle.sp_ranks.proofs.RankSums.{RankProgress}
use Rattle.sp_ranks.proofs.sums.sums.Given as goal

abbrev pub invariant-loop-rest : goal.invariant-loop-rest
invariant-loop-rest l = RankProgress l.n l.v.entries l.arrivals l.limit l.ranks.items l.polynomials l.rest

abbrev pub decreases-loop-rest : goal.decreases-loop-rest
decreases-loop-rest l = length l.rest
