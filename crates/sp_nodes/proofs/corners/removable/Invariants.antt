use Rattle.sp_nodes.specs.Nodes.{pair}
use Rattle.sp_nodes.specs.Rows.{lost}
use Rattle.sp_nodes.proofs.Walks.{Walked}
use Rattle.sp_nodes.proofs.corners.removable.Given as goal

abbrev pub invariant-loop-row : goal.invariant-loop-row
invariant-loop-row l = Walked pair (lost l.e l.i l.p) l.found.items l.row
