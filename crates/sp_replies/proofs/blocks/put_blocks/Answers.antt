-- The blocks are sorted by their cores, and turned round.
use Rattle.std.proofs.Common.{◌++◌, ◌∙◌, flat_map, sym, ap, subst}
use Rattle.std.specs.List.{AllByRecursion}
use Rattle.std.proofs.lemmas.Result.{on_ok_weaker}
use Rattle.sp_blocks.specs.declared.block.Block.{Block}
use Rattle.sp_replies.specs.Blocks.{IsBlock, block_line}
use Rattle.sp_replies.proofs.BlockCores.{blocks_perm, each_is_block, lines_are}
use Rattle.sp_replies.proofs.blocks.put_blocks.Goals as goal

pub put_lines-requires-clause-each : goal.put_lines-requires-clause-each
put_lines-requires-clause-each c =
    let perm =
    blocks_perm c.args.e c.args.n c.deref.result.now c.in_ok-found.found.items c.sort_by_core.new.found.items
    (c.deref.ensures.value ∙ c.in_ok-list.ensures.list) c.in_ok-found.ensures.value
    c.sort_by_core.ensures.permutation in
    subst (AllByRecursion (IsBlock c.args.e c.args.n)) (sym (c.deref-3.ensures.value ∙ c.reverse.ensures.items))
    (each_is_block c.args.e c.args.n c.requires.e_least c.sort_by_core.new.found.items perm)

pub returns : goal.returns
returns c =
    let perm =
    blocks_perm c.args.e c.args.n c.deref.result.now c.in_ok-found.found.items c.sort_by_core.new.found.items
    (c.deref.ensures.value ∙ c.in_ok-list.ensures.list) c.in_ok-found.ensures.value
    c.sort_by_core.ensures.permutation in
    let line = λ (b : Block). block_line c.args.e c.args.n b.core in
    on_ok_weaker c.put_lines.result
    (λ is. is
    ∙ ap (λ bs. c.args.out.now.items ++ flat_map line bs) (c.deref-3.ensures.value ∙ c.reverse.ensures.items)
    ∙ ap (λ text. c.args.out.now.items ++ text)
    (lines_are c.args.e c.args.n c.requires.e_least c.sort_by_core.new.found.items perm c.sort_by_core.ensures.sorted))
    c.put_lines.ensures
