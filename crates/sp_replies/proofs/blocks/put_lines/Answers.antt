use Rattle.std.proofs.Common.{◌++◌, ◌∷◌, [], ◌∙◌, sym, ap, subst, take, flat_map}
use Rattle.std.proofs.lemmas.List.{flat_map_more, take_more}
use Rattle.sp_blocks.specs.declared.block.Block.{Block}
use Rattle.sp_lists.proofs.Places.{all_at}
use Rattle.sp_replies.specs.Blocks.{IsBlock, block_line}
use Rattle.sp_replies.proofs.blocks.put_lines.Goals as goal

pub put_block-requires-clause-is_block : goal.put_block-requires-clause-is_block
put_block-requires-clause-is_block c =
    subst (IsBlock c.args.e c.args.n) (sym c.block-item.is)
    (all_at (IsBlock c.args.e c.args.n) c.args.found.now c.loop-block.block-index c.block-item.result
    c.requires.each c.loop-block-test.true)

pub loop-block-preserved : goal.loop-block-preserved
loop-block-preserved c =
    let line = λ (b : Block). block_line c.args.e c.args.n b.core in
    let passed = take c.loop-block.block-index c.args.found.now in
    c.in_ok-put_block.ensures
    ∙ ap (λ xs. xs ++ line c.block-item.result) c.loop-block.invariant
    ∙ flat_map_more line c.args.out.now.items passed c.block-item.result
    ∙ ap (λ bs. c.args.out.now.items ++ flat_map line bs)
    (ap (λ b. passed ++ b ∷ []) c.block-item.is
    ∙ sym (take_more c.args.found.now c.loop-block.block-index c.block-item.result c.loop-block-test.true))
