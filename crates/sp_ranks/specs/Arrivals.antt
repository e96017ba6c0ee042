-- What moves over ranks are as moves of partitions.
use Rattle.std.specs.Prelude.{ℕ, ◌<◌, ◌≤◌, List, map, length, unsigned_abs}
use Rattle.std.specs.List.{AllByRecursion}
use Rattle.sp_defs.specs.Laurent.{Laurent, power, times, size}
use Rattle.sp_defs.specs.Power.{Entries}
use Rattle.sp_defs.specs.Partition.{partitions}
use Rattle.sp_defs.specs.Within.{PowersWithin}
use Rattle.sp_nodes.specs.declared.corners.Mark.{Mark}
use Rattle.sp_nodes.specs.Marks.{mark_of}
use Rattle.sp_power.specs.Arrivals.{arrive_from, half_power_limit}
use Rattle.sp_power_law.specs.Runs.{Arrival as PartitionArrival, polynomial_at}
use Rattle.sp_power_law.specs.Walk.{moves_through}
use Rattle.sp_ranks.specs.Ranks.{partition_at}
use Rattle.sp_ranks.specs.declared.walk.Arrival.{Arrival}
use Rattle.sp_ranks.specs.declared.walk.Way.{Way}

-- The move to the partition of n of a rank.
abbrev pub arrival_at : ℕ → Arrival → PartitionArrival
arrival_at n t = (partition_at n t.rank, t.source, t.exponent)

abbrev pub arrivals_at : ℕ → List Arrival → List PartitionArrival
arrivals_at n ts = map (arrival_at n) ts

-- All lead to ranks of partitions of n.
abbrev pub AreThere : ℕ → List Arrival → Type 0
AreThere n ts = AllByRecursion (λ t. t.rank < length (partitions n)) ts

-- The moves from a source that choose m more nodes, down these marks, from a way whose partition is of degree n.
abbrev pub found_at : ℕ → ℕ → List Mark → ℕ → Way → List PartitionArrival
found_at n source marks m way =
    map (arrive_from source) (moves_through (map mark_of marks) m (partition_at n way.rank) way.difference way.exponent)

-- What a move brings: the polynomial of its source, times the power of its exponent.
abbrev pub share_at : Entries → Arrival → Laurent
share_at es t = times (power t.exponent) (polynomial_at es t.source)

abbrev pub size_at : Entries → Arrival → ℕ
size_at es t = size (polynomial_at es t.source)

-- A move to a rank of degree n, from one of the entries, whose powers leave room for the exponent.
pub record IsBroughtBy (n : ℕ) (es : Entries) (t : Arrival) : Type 0 where
  pub source : t.source < length es
  pub rank : t.rank < length (partitions n)
  pub near : unsigned_abs t.exponent ≤ 2000
  pub powers : PowersWithin half_power_limit (polynomial_at es t.source)
