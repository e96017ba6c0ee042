use Rattle.std.proofs.Common.{◌-◌, ◌/◌, ◌++◌, ◌∙◌, refl, ap}
use Rattle.std.proofs.lemmas.Result.{on_ok_weaker}
use Rattle.sp_replies.proofs.BlockCounts.{line_is, listed_within}
use Rattle.sp_replies.proofs.blocks.put_block.Goals as goal

pub regular_count-regular-requires-clause-within : goal.regular_count-regular-requires-clause-within
regular_count-regular-requires-clause-within c =
    listed_within c.args.e c.args.n c.args.block.now c.args.list.now c.as_slice-ranks.result.now c.requires.is_block
    c.requires.listed c.as_slice-ranks.ensures

pub returns : goal.returns
returns c =
    on_ok_weaker c.put_counts.result
    (λ is. is ∙ ap (λ line. c.args.out.now.items ++ line)
    (line_is c.args.e c.args.n c.args.block.now c.args.list.now c.as_slice-ranks.result.now _
    c.regular_count-regular.result _ c.requires.is_block c.requires.listed c.as_slice-ranks.ensures
    (ap (λ d. (c.args.n - d) / c.args.e) c.degree.ensures.sum) c.regular_count-regular.ensures refl))
    c.put_counts.ensures
