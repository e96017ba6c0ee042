-- What is added so far, and what the nodes to come add.
use Rattle.std.proofs.Common.{◌≡◌, ◌++◌, map, drop}
use Rattle.sp_defs.specs.Signature.{remove_node}
use Rattle.sp_nodes.specs.Nodes.{pair}
use Rattle.sp_sl2.proofs.targets.push_targets.Given as goal

abbrev pub invariant-loop-node : goal.invariant-loop-node
invariant-loop-node l =
    l.found.items ++ map (remove_node l.p) (map pair (drop l.node-index l.nodes)) ≡
    l.fn.found.items ++ map (remove_node l.p) (map pair l.nodes)
