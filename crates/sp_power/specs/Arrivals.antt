-- What the moves from one partition are as arrivals, and what a node that is passed counts.
use Rattle.std.specs.Prelude.{ℕ, ◌+◌, ◌<◌, ◌≤◌, List, map, length, unsigned_abs, ℤ, pos, ◌+ℤ◌, ◌-ℤ◌}
use Rattle.std.specs.List.{AllByRecursion}
use Rattle.sp_defs.specs.Partition.{degree, order, IsPartition}
use Rattle.sp_defs.specs.Laurent.{Laurent}
use Rattle.sp_defs.specs.Signature.{Letter, Addable, Removable}
use Rattle.sp_partition.specs.Held.{IsHeld as IsHeldPartition}
use Rattle.sp_nodes.specs.declared.corners.Mark.{Mark}
use Rattle.sp_nodes.specs.Marks.{mark_of}
use Rattle.sp_power.specs.declared.moves.Way.{Way}
use Rattle.sp_power_law.specs.Walk.{Reached, moves_through}
use Rattle.std.specs.List.Sorted.{IsPermutation, IsSortedByKey}
use Rattle.sp_defs.specs.Power.{Entries, IsVector}
use Rattle.sp_defs.specs.Within.{PowersWithin}
use Rattle.sp_power_law.specs.Runs.{Arrival, arrivals, polynomial_at}

-- A move from the pair at this place.
abbrev pub arrive_from : ℕ → Reached → Arrival
arrive_from source t = (t.0, source, t.1)

-- The moves from this pair that choose m more nodes, down these marks, from a way so far.
abbrev pub found_from : ℕ → List Mark → ℕ → Way → List Arrival
found_from source marks m way =
    map (arrive_from source) (moves_through (map mark_of marks) m way.partition way.difference way.exponent)

-- The difference once a node is passed.
abbrev pub passed : Letter → ℤ → ℤ
passed Addable difference = difference +ℤ pos 1
passed Removable difference = difference -ℤ pos 1

-- Half of the limit on powers.
abbrev pub half_power_limit : ℕ
half_power_limit = 500000000

-- All powers of the polynomials are from -d to d.
abbrev pub AllWithin : ℕ → Entries → Type 0
AllWithin d es = AllByRecursion (λ t. PowersWithin d t.1) es

-- A partition to which m nodes can be added, with its polynomial.
pub record HasRoom (m : ℕ) (entry : List ℕ × Laurent) : Type 0 where
  pub partition : IsPartition entry.0
  pub small : degree entry.0 + m ≤ 32

-- A move from one of the pairs, whose powers leave room for the exponent.
pub record IsBrought (pairs : Entries) (arrival : Arrival) : Type 0 where
  pub there : arrival.1 < length pairs
  pub partition : IsHeldPartition arrival.0
  pub near : unsigned_abs arrival.2 ≤ 2000
  pub powers : PowersWithin half_power_limit (polynomial_at pairs arrival.1)

-- All moves of m nodes of residue i from the entries of a vector of degree n, by the partitions that they lead to.
pub record AreSorted (e i m n : ℕ) (entries : Entries) (moves : List Arrival) : Type 0 where
  pub e_least : 2 ≤ e
  pub room : n + m ≤ 32
  pub vector : IsVector n entries
  pub permutation : IsPermutation (arrivals e i m 0 entries) moves
  pub sorted : IsSortedByKey (λ t. t.0) order moves
