use Rattle.sp_ranks.specs.Moves.{AreCornerTables}
use Rattle.sp_ranks.proofs.moves.corners_below.Given as goal

abbrev pub invariant-loop-all : goal.invariant-loop-all
invariant-loop-all l = AreCornerTables l.e l.all-index l.corners.items
