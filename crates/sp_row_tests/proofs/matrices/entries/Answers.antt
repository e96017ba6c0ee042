use Rattle.std.proofs.Common.{◌+◌, sym, ◌∙◌, subst}
use Rattle.sp_llt.specs.Filled.{HasFirst}
use Rattle.sp_llt.proofs.Firsts.{first_more}
use Rattle.sp_row_tests.proofs.matrices.entries.Goals as goal

pub loop-k-preserved : goal.loop-k-preserved
loop-k-preserved c =
    subst (HasFirst c.args.ctx.now (c.loop-k.k + 1)) (sym c.in_ok-push.ensures.items)
    (first_more c.args.ctx.now c.loop-k.k c.loop-k.rows.items c.in_ok-new.field-0 c.loop-k.invariant
    (c.in_ok-new.ensures.ok ∙ c.in_ok-entry.ensures))
