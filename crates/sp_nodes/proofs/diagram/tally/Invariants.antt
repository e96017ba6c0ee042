use Rattle.std.proofs.Common.{take}
use Rattle.sp_nodes.proofs.Tallies.{Tallied}
use Rattle.sp_nodes.proofs.diagram.tally.Given as goal

abbrev pub invariant-loop-node : goal.invariant-loop-node
invariant-loop-node l = Tallied l.e l.counts (take l.node-index l.node-items)
