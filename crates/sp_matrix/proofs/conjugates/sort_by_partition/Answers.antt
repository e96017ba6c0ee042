use Rattle.std.proofs.Common.{rules}
use Rattle.std.proofs.lemmas.List.Sorted.{answers_always}
use Rattle.sp_matrix.proofs.conjugates.sort_by_partition.Goals as goal

pub returns-clause-sorted : goal.returns-clause-sorted
returns-clause-sorted g c =
    c.sort_unstable_by_key.ensures.sorted (λ t. t.0) (answers_always _ _ _ (λ f a r h called. search rules))
