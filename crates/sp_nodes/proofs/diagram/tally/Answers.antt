use Rattle.std.proofs.Common.{get_or, take, arith}
use Rattle.std.proofs.lemmas.List.{take_more}
use Rattle.sp_nodes.specs.declared.node.Node.{Node}
use Rattle.sp_nodes.proofs.Tallies.{tallied_none, tallied_more}
use Rattle.sp_nodes.proofs.diagram.tally.Goals as goal

pub loop-node-init : goal.loop-node-init
loop-node-init c = tallied_none c.args.e

pub loop-node-preserved : goal.loop-node-preserved
loop-node-preserved c =
    let all = c.as_slice-node-items.result.now in
    let k = c.loop-node.node-index in
    let default : Node = record { row = 0; column = 0 } in
    rw (take_more all k default c.loop-node-test.true)
    (tallied_more c.args.e c.residue.result c.loop-node.counts (take k all) (get_or all k default) (omega arith)
    c.residue.ensures.value c.loop-node.invariant)
