-- The first move and those of the loop are summed.
use Rattle.std.proofs.Common.{◌+◌}
use Rattle.sp_power.proofs.Summing.{SoFar}
use Rattle.sp_power.proofs.runs.run_sum.Given as goal

abbrev pub invariant-loop-arrival : goal.invariant-loop-arrival
invariant-loop-arrival l = SoFar l.pairs l.run (l.arrival-index + 1) l.sum
