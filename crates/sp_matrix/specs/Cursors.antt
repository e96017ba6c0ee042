-- Places in rows that are walked from their ends.
use Rattle.std.specs.Prelude.{◌≡◌, ◌≢◌, ℕ, ◌+◌, ◌-◌, ◌<◌, ◌≤◌, List, length, slice_index_or}
use Rattle.std.specs.List.{AllZip}
use Rattle.std.specs.declared.cmp.Ordering.TheVariants.{Greater}
use Rattle.sp_defs.specs.Partition.{order}
use Rattle.sp_defs.specs.Laurent.{Laurent}
use Rattle.sp_defs.specs.Power.{FockVector}

-- Behind the first `end` pairs stand greater partitions.
pub record IsPassed (lambda : List ℕ) (v : FockVector) (end : ℕ) : Type 0 where
  pub within : end ≤ length v.entries
  pub greater : (i : ℕ) (d : List ℕ × Laurent) → end ≤ i → i < length v.entries →
      order (slice_index_or v.entries i d).0 lambda ≡ Greater

-- So it is in each row.
abbrev pub ArePassed : List ℕ → List FockVector → List ℕ → Type 0
ArePassed lambda rows ends = AllZip (IsPassed lambda) rows ends

-- The first `end` pairs are those up to this partition.
pub record IsAt (lambda : List ℕ) (v : FockVector) (end : ℕ) : Type 0 where
  pub passed : IsPassed lambda v end
  pub last : (d : List ℕ × Laurent) → 0 < end → order (slice_index_or v.entries (end - 1) d).0 lambda ≢ Greater

-- Each of the partitions is greater than the next.
abbrev pub Descend : List (List ℕ) → Type 0
Descend lines = (i : ℕ) (d : List ℕ) → i + 1 < length lines →
    order (slice_index_or lines i d) (slice_index_or lines (i + 1) d) ≡ Greater
