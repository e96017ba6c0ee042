use Rattle.std.proofs.Common.{nat_cmp, ◌∙◌, ap₂}
use Rattle.sp_partition.proofs.EightsOrder.{eight_order}
use Rattle.sp_partition.proofs.eights.compare_eights.Goals as goal

pub returns : goal.returns
returns c =
    c.cmp.ensures
    ∙ ap₂ nat_cmp c.eight.ensures c.eight-2.ensures
    ∙ eight_order c.args.start c.args.first.now c.args.second.now c.requires c.told-first c.told-second c.fits-first
    c.fits-second
