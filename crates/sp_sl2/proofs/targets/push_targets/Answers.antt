-- The node is removable.
use Rattle.sp_power.proofs.Descent.{is_some}
use Rattle.sp_sl2.proofs.Found.{removable_there}
use Rattle.sp_sl2.proofs.targets.push_targets.Goals as goal

pub unwrap-requires : goal.unwrap-requires
unwrap-requires c =
    is_some _ _ _
    (removable_there c.args.p.now c.args.nodes.now c.loop-node.node-index (record { row = 0; column = 0 }) c.requires
    c.loop-node-test.true) c.remove_node.ensures.node
