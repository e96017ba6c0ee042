use Rattle.std.proofs.Common.{◌≡◌, ◌++◌, take, flat_map}
use Rattle.sp_replies.specs.Blocks.{block_line}
use Rattle.sp_replies.proofs.blocks.put_lines.Given as goal

abbrev pub invariant-loop-block : goal.invariant-loop-block
invariant-loop-block l =
    l.out.items ≡ l.fn.out.items ++ flat_map (λ b. block_line l.e l.n b.core) (take l.block-index l.found)
