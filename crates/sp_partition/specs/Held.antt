-- What each value of the type `Partition` is.
use Rattle.std.specs.Prelude.{ℕ, ◌<◌, ◌≤◌, List}
use Rattle.sp_defs.specs.Partition.{degree, IsPartition}
use Rattle.sp_partition.specs.declared.TheConstants.{CAPACITY}

-- A partition that the type has room for.
pub record IsHeld (parts : List ℕ) : Type 0 where
  pub partition : IsPartition parts
  pub small : degree parts ≤ CAPACITY

-- A partition that it has no room for.
abbrev pub IsPast : List ℕ → Type 0
IsPast parts = IsPartition parts × (CAPACITY < degree parts)
