use Rattle.sp_ladder.proofs.Progress.{Progress}
use Rattle.sp_ranks.proofs.ladder.ladder_vector.Given as goal

abbrev pub invariant-loop-step : goal.invariant-loop-step
invariant-loop-step l = Progress l.limit l.e l.mu l.step-items l.step-index l.vector
