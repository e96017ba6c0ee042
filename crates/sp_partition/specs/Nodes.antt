-- When a node can be added to a row of a partition, or removed from it.
use Rattle.std.specs.Prelude.{◌≡◌, ℕ, ◌≢◌, ◌+◌, ◌<◌, ◌≤◌, List, length, slice_index}
use Rattle.std.specs.Bool.{IsTrue}
use Rattle.sp_defs.specs.Partition.{degree, part, IsPartition}
use Rattle.sp_defs.specs.Node.{is_addable, is_removable}
use Rattle.sp_partition.specs.declared.TheConstants.{CAPACITY}

-- The place behind the row is addable, and there is room.
abbrev pub CanAdd : ℕ → List ℕ → Type 0
CanAdd row parts = IsTrue (is_addable parts (row, part parts row + 1)) × (degree parts < CAPACITY)

-- The last node of the row is removable.
abbrev pub CanRemove : ℕ → List ℕ → Type 0
CanRemove row parts = IsTrue (is_removable parts (row, part parts row))

-- The diagram of `more` is that of `parts` and one node more, in this row and column.
pub record IsWithNode (row column : ℕ) (parts more : List ℕ) : Type 0 where
  pub row_least : 1 ≤ row
  pub column_is : column ≡ part parts row + 1
  pub smaller : IsPartition parts
  pub larger : IsPartition more
  pub longer : part more row ≡ column
  pub others : (r : ℕ) → 1 ≤ r → r ≢ row → part more r ≡ part parts r

-- No two parts that stand so many places apart are equal.
abbrev pub Differ : ℕ → List ℕ → Type 0
Differ gap parts = (k : ℕ) → k + gap < length parts → slice_index parts k ≢ slice_index parts (k + gap)
