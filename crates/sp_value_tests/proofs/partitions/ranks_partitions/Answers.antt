use Rattle.std.proofs.Common.{sym, ◌∙◌, subst}
use Rattle.sp_partition.proofs.Rising.{Rises, partitions_rise}
use Rattle.sp_value_tests.proofs.partitions.ranks_partitions.Goals as goal

pub rank-requires : goal.rank-requires
rank-requires g c = subst Rises (sym (c.deref.ensures.value ∙ c.in_ok-four.ensures.list)) (partitions_rise 4)

pub rank-requires-2 : goal.rank-requires-2
rank-requires-2 g c = subst Rises (sym (c.deref-2.ensures.value ∙ c.in_ok-four.ensures.list)) (partitions_rise 4)
