use Rattle.sp_matrix.specs.Cursors.{IsPassed}
use Rattle.sp_matrix.proofs.cursors.end_at.Given as goal

abbrev pub invariant-loop-end : goal.invariant-loop-end
invariant-loop-end l = IsPassed l.line l.row l.end

abbrev pub decreases-loop-end : goal.decreases-loop-end
decreases-loop-end l = l.end
