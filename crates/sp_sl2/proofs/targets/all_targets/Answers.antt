-- The nodes are removable.
use Rattle.sp_sl2.proofs.Found.{all_removable}
use Rattle.sp_sl2.proofs.targets.all_targets.Goals as goal

pub push_targets-requires : goal.push_targets-requires
push_targets-requires c =
    all_removable c.args.e c.args.i c.pair-item.result.0 c.removable.result.items c.deref.result.now c.deref.ensures.0
    c.removable.ensures
