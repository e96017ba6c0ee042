use Rattle.sp_ranks.proofs.CornerLists.{AreBefore}
use Rattle.sp_ranks.proofs.corners.corners_of.Given as goal

abbrev pub invariant-loop-row : goal.invariant-loop-row
invariant-loop-row l = AreBefore l.e l.p l.row l.corners.items
