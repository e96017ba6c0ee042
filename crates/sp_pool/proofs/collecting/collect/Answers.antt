use Rattle.std.proofs.Common.{◌+◌, sym, subst}
use Rattle.sp_llt.specs.Filled.{HasFirst}
use Rattle.sp_llt.proofs.Firsts.{first_more}
use Rattle.sp_pool.proofs.collecting.collect.Goals as goal

pub loop-k-preserved : goal.loop-k-preserved
loop-k-preserved g c =
    subst (HasFirst c.args.ctx.now (c.loop-k.k + 1)) (sym c.in_ok-push.ensures.items)
    (first_more c.args.ctx.now c.loop-k.k c.loop-k.rows.items c.in_ok-row.row c.loop-k.invariant c.in_ok-row.ensures)
