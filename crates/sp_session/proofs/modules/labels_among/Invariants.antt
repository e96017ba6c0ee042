use Rattle.std.proofs.Common.{◌≡◌, ◌++◌, filter, reverse, take}
use Rattle.sp_defs.specs.Partition.{is_regular}
use Rattle.sp_lang.specs.Convention.{label_in}
use Rattle.sp_session.proofs.modules.labels_among.Given as goal

abbrev pub invariant-loop-k : goal.invariant-loop-k
invariant-loop-k l =
    l.labels.items ++ filter (λ p. is_regular l.e (label_in l.convention p)) (reverse (take l.k l.partitions))
    ≡ filter (λ p. is_regular l.e (label_in l.convention p)) (reverse l.partitions)
