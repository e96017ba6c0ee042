-- Grids by the polynomials at their places, and what holds of all cells of a grid.
use Rattle.std.specs.Prelude.{ℕ, ◌<◌, List, map, length, cond, nat_eq, []}
use Rattle.std.specs.List.{range_with_len}
use Rattle.sp_defs.specs.Laurent.{Laurent, one}
use Rattle.sp_defs.specs.Within.{PowersWithin}
use Rattle.sp_fock_law.specs.Grid.{GridValue, cell_of}

-- The grid that has this polynomial at each line and column, counted from 0 (this project's own).
abbrev pub tabulated : ℕ → List (List ℕ) → List (List ℕ) → (ℕ → ℕ → Laurent) → GridValue
tabulated n columns lines cell = record {
  degree = n;
  columns = columns;
  lines = lines;
  cells = map (λ line. map (cell line) (range_with_len 0 (length columns))) (range_with_len 0 (length lines));
}

-- Lines and columns exchanged.
-- (Lang, Linear Algebra, ch. II, 1)
abbrev pub transposed : GridValue → GridValue
transposed g = tabulated g.degree g.lines g.columns (λ line column. cell_of g column line)

-- 1 at equal places, and 0 elsewhere.
-- (Lang, Linear Algebra, ch. II, 1)
abbrev pub delta : ℕ → ℕ → Laurent
delta line column = cond (nat_eq line column) one []

-- The grid with these lines and columns that has 1 at each equal pair, and 0 elsewhere.
-- (Lang, Linear Algebra, ch. II, 1)
abbrev pub identity : ℕ → List (List ℕ) → GridValue
identity n headings = tabulated n headings headings delta

-- Every power that occurs in the grid is from -d to d (this project's own).
abbrev pub HasPowersWithin : ℕ → GridValue → Type 0
HasPowersWithin d g =
    (line column : ℕ) → line < length g.lines → column < length g.columns → PowersWithin d (cell_of g line column)
