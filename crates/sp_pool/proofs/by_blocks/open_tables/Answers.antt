use Rattle.std.proofs.Common.{sym, subst, All}
use Rattle.std.proofs.lemmas.List.Elements.{All-push}
use Rattle.sp_pool.specs.Tables.{IsFor}
use Rattle.sp_pool.proofs.by_blocks.open_tables.Goals as goal

pub loop-block-preserved : goal.loop-block-preserved
loop-block-preserved c =
    subst (All (IsFor c.args.ctx.now)) (sym c.in_ok-push.ensures.items)
    (All-push (IsFor c.args.ctx.now) c.loop-block.tables.items c.in_ok-table.table c.loop-block.invariant
    c.in_ok-table.ensures)
