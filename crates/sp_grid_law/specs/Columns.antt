-- The columns of a grid of which something holds.
use Rattle.std.specs.Prelude.{◌≡◌, ℕ, ◌<◌, List, [], length, slice_index_or}
use Rattle.sp_defs.specs.Within.{PowersWithin}
use Rattle.sp_fock_law.specs.Grid.{GridValue, cell_of}

-- `Within` holds of the places of all columns (this project's own).
abbrev pub AreWithin : List (List ℕ) → (ℕ → Type 0) → Type 0
AreWithin columns Within = (column : ℕ) → column < length columns → Within column

-- The greatest of the descending columns of whose place `Within` doesn't hold (this project's own).
pub record IsGreatestPast (columns : List (List ℕ)) (Within : ℕ → Type 0) (at : List ℕ) : Type 0 where
  pub column : ℕ
  pub in_range : column < length columns
  pub is : at ≡ slice_index_or columns column []
  pub past : ¬ Within column
  pub greater : (k : ℕ) → k < column → Within k

-- Every power in the column is from -d to d (this project's own).
abbrev pub IsColumnWithin : ℕ → GridValue → ℕ → Type 0
IsColumnWithin d g column = (line : ℕ) → line < length g.lines → PowersWithin d (cell_of g line column)
