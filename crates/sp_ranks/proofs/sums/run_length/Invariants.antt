-- All that were seen lead to the rank.
use Rattle.std.proofs.Common.{◌≡◌, ◌+◌, nat_eq, drop}
use Rattle.std.specs.List.{prefix_len}
use Rattle.sp_ranks.proofs.sums.run_length.Given as goal

abbrev pub invariant-loop-count : goal.invariant-loop-count
invariant-loop-count l =
    l.count + prefix_len (λ t. nat_eq t.rank l.rank) (drop l.count l.arrivals)
    ≡ prefix_len (λ t. nat_eq t.rank l.rank) l.arrivals
