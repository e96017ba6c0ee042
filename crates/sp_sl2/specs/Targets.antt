-- The partitions that a vector restricts to, and what is there.
use Rattle.std.specs.Prelude.{ℕ, ◌-◌, nat_lt, List, map, filter, flat_map, length, ◌<◌}
use Rattle.std.specs.List.{AllByRecursion}
use Rattle.sp_defs.specs.Partition.{degree, Ascending, IsPartition, IsPartitionOf}
use Rattle.sp_defs.specs.Power.{Vector, Entries, IsVector}
use Rattle.sp_lists.proofs.Occurrence.{Occurs}
use Rattle.sp_sl2_law.specs.Restriction.{restriction}
use Rattle.sp_sl2_law.specs.Marks.{shrunken}

-- A partition to which a node can be added within the capacity.
pub record HasRoom (mu : List ℕ) : Type 0 where
  pub partition : IsPartition mu
  pub small : degree mu < 32

-- The partitions with a node of residue i less than the entries of a vector of degree n, ascending.
pub record AreTargets (e i n : ℕ) (es : Entries) (targets : List (List ℕ)) : Type 0 where
  pub vector : IsVector n es
  pub ascending : Ascending targets
  pub partitions_of : AllByRecursion (IsPartitionOf (n - 1)) targets
  pub room : AllByRecursion HasRoom targets
  pub all : (mu : List ℕ) → Occurs mu (flat_map (λ t. shrunken e i t.0) es) → Occurs mu targets

-- The restriction at each of these partitions, where it isn't 0.
abbrev pub restricted_entries : ℕ → ℕ → Vector → List (List ℕ) → Entries
restricted_entries e i w targets =
    filter (λ t. nat_lt 0 (length t.1)) (map (λ mu. (mu, restriction e i w mu)) targets)
