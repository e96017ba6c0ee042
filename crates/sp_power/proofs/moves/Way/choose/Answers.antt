-- The row can gain a node, and the degree has room for it.
use Rattle.sp_power.proofs.Descent.{is_some}
use Rattle.sp_power.proofs.moves.Way.choose.Goals as goal

pub unwrap-requires : goal.unwrap-requires
unwrap-requires c = is_some _ _ _ (c.requires.addable, c.requires.room) c.add_node.ensures.node
