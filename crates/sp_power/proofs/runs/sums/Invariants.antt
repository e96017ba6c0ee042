-- What was summed, and what the moves that are left will bring.
use Rattle.std.proofs.Common.{length}
use Rattle.sp_power.proofs.Summing.{Progress}
use Rattle.sp_power.proofs.runs.sums.Given as goal

abbrev pub invariant-loop-rest : goal.invariant-loop-rest
invariant-loop-rest l = Progress l.pairs l.arrivals l.limit l.sums.items l.rest

abbrev pub decreases-loop-rest : goal.decreases-loop-rest
decreases-loop-rest l = length l.rest
