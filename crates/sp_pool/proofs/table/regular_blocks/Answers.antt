use Rattle.std.proofs.Common.{◌≡◌, ◌∙◌, sym, ap, ap₂, subst, All}
use Rattle.std.proofs.lemmas.Result.{IfOk-weaker}
use Rattle.sp_blocks.specs.Blocks.{blocks_of}
use Rattle.sp_core.specs.declared.piece.Key.{Key}
use Rattle.sp_pool.specs.Blocks.{IsBlockOf, blocks_at}
use Rattle.sp_pool.proofs.Ranks.{blocks_known, asks_stay}
use Rattle.sp_pool.proofs.table.regular_blocks.Goals as goal

pub returns-clause-known : goal.returns-clause-known
returns-clause-known c =
    IfOk-weaker c.blocks-2.result (λ found. found.items ≡ blocks_of c.key.result.e c.regulars.result.now)
    (λ found. All (IsBlockOf c.args.ctx.now) found.items)
    (λ found is. subst (All (IsBlockOf c.args.ctx.now)) (sym (is ∙ same)) known) c.blocks-2.ensures.value
  where
    known : All (IsBlockOf c.args.ctx.now) (blocks_at c.args.ctx.now)
    known = blocks_known c.args.ctx.now c.regulars.ensures.held

    same : blocks_of c.key.result.e c.regulars.result.now ≡ blocks_at c.args.ctx.now
    same = ap₂ blocks_of (ap (λ (key : Key). key.e) c.key.ensures.value) c.regulars.ensures.value

pub returns-clause-asks : goal.returns-clause-asks
returns-clause-asks c = asks_stay c.args.ctx.now c.regulars.ensures.held
