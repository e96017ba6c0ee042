use Rattle.std.proofs.Common.{◌≡◌, ◌++◌, reverse, take}
use Rattle.sp_matrix.specs.Scope.{within}
use Rattle.sp_matrix.proofs.headings.heading.Given as goal

abbrev pub invariant-loop-k : goal.invariant-loop-k
invariant-loop-k l =
    l.list.items ++ within l.e l.scope (reverse (take l.k l.partitions)) ≡ within l.e l.scope (reverse l.partitions)
