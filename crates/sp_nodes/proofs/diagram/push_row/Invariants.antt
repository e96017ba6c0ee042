use Rattle.sp_nodes.proofs.NodeLists.{Pushed}
use Rattle.sp_nodes.proofs.diagram.push_row.Given as goal

abbrev pub invariant-loop-column : goal.invariant-loop-column
invariant-loop-column l = Pushed l.initial.found.items l.found.items l.row l.column
