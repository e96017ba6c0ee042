-- All moves from a vector over ranks, by the ranks that they lead to.
use Rattle.std.specs.Prelude.{ℕ, ◌+◌, ◌<◌, ◌≤◌, List, length}
use Rattle.std.specs.List.{AllByRecursion}
use Rattle.std.specs.List.Sorted.{IsSortedByKey}
use Rattle.std.specs.Ordering.{nat_cmp}
use Rattle.sp_defs.specs.Partition.{partitions}
use Rattle.sp_defs.specs.Power.{FockVector}
use Rattle.sp_partition.specs.declared.TheConstants.{DEGREE_LIMIT}
use Rattle.sp_power.specs.Arrivals.{AreSorted}
use Rattle.sp_ranks.specs.Arrivals.{arrivals_at}
use Rattle.sp_ranks.specs.declared.walk.Arrival.{Arrival}

-- They are all moves of m nodes of residue i, sorted by rank, and so by the partitions that they lead to.
pub record AreSortedByRank (e i m : ℕ) (v : FockVector) (ts : List Arrival) : Type 0 where
  pub room : v.degree + m ≤ DEGREE_LIMIT
  pub there : AllByRecursion (λ t. t.rank < length (partitions (v.degree + m))) ts
  pub ranks : IsSortedByKey (λ t. t.rank) nat_cmp ts
  pub moves : AreSorted e i m v.degree v.entries (arrivals_at (v.degree + m) ts)
