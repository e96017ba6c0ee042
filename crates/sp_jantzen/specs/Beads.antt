-- What is true of the beta numbers of a partition, and of their moves.
use Rattle.std.specs.Prelude.{ℕ, ◌≤◌, ◌<◌, List, length, slice_index, count_by, nat_lt}
use Rattle.sp_defs.specs.Partition.{degree}
use Rattle.sp_defs.specs.Abacus.{shown}
use Rattle.sp_abacus_law.specs.Beads.{Falls}

-- At most 64 numbers that descend strictly, and the partition that they show is small.
pub record AreBeads (numbers : List ℕ) : Type 0 where
  pub falls : Falls numbers
  pub few : length numbers ≤ 64
  pub small : degree (shown numbers) ≤ 32

-- The bead at place b comes down by h steps for one at an earlier place a.
pub record IsStep (numbers : List ℕ) (a b h : ℕ) : Type 0 where
  pub earlier : a < b
  pub within : b < length numbers
  pub least : 1 ≤ h
  pub steps : h ≤ slice_index numbers b

-- How many of the numbers are greater than this.
unfoldable pub count_greater : ℕ → List ℕ → ℕ
count_greater number others = count_by (λ other. nat_lt number other) others
