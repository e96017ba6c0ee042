-- A table of polynomials whose lines and columns are partitions.
use Rattle.std.specs.Prelude.{◌≡◌, ℕ, List, [], length, reverse, slice_index_or}
use Rattle.std.specs.List.{AllByRecursion}
use Rattle.sp_defs.specs.Partition.{Ascending, IsPartitionOf}
use Rattle.sp_defs.specs.Laurent.{Laurent}

-- A degree, the partitions of the columns and of the lines, and a polynomial for each pair, line by line
-- (this project's own).
pub record GridValue : Type 0 where
  pub degree : ℕ
  pub columns : List (List ℕ)
  pub lines : List (List ℕ)
  pub cells : List (List Laurent)

-- Partitions of one degree, strictly descending (this project's own).
pub record IsHeading (n : ℕ) (xs : List (List ℕ)) : Type 0 where
  pub partitions_of : AllByRecursion (IsPartitionOf n) xs
  pub descending : Ascending (reverse xs)

-- There is one row of cells for each line, and one cell in it for each column (this project's own).
pub record IsGrid (g : GridValue) : Type 0 where
  pub columns : IsHeading g.degree g.columns
  pub lines : IsHeading g.degree g.lines
  pub height : length g.cells ≡ length g.lines
  pub width : AllByRecursion (λ row. length row ≡ length g.columns) g.cells

-- The cells of a line, counted from 0 (this project's own).
abbrev pub row_of : GridValue → ℕ → List Laurent
row_of g line = slice_index_or g.cells line []

-- The cell of a line and a column, both counted from 0 (this project's own).
abbrev pub cell_of : GridValue → ℕ → ℕ → Laurent
cell_of g line column = slice_index_or (row_of g line) column []
