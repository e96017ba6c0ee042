use Rattle.sp_core.proofs.Workers.{BestSoFar}
use Rattle.sp_core.proofs.state.least_busy.Given as goal

abbrev pub invariant-loop-w : goal.invariant-loop-w
invariant-loop-w l = BestSoFar l.workers l.w l.best
