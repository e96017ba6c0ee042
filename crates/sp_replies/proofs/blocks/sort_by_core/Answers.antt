use Rattle.std.proofs.lemmas.List.Sorted.{answers_always}
use Rattle.std.proofs.Common.{rules}
use Rattle.sp_replies.proofs.blocks.sort_by_core.Goals as goal

pub returns-clause-sorted : goal.returns-clause-sorted
returns-clause-sorted c =
    c.sort_unstable_by_key.ensures.sorted (λ b. b.core) (answers_always _ _ _ (λ f a r g h. search rules))
