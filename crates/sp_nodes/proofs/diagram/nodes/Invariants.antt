use Rattle.sp_nodes.proofs.NodeLists.{Listed}
use Rattle.sp_nodes.proofs.diagram.nodes.Given as goal

abbrev pub invariant-loop-row : goal.invariant-loop-row
invariant-loop-row l = Listed l.p l.found.items l.row
