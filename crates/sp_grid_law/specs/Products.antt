-- Products of grids, and how large the numbers get on the way.
use Rattle.std.specs.Prelude.{ℕ, ◌*◌, ◌<◌, ◌≤◌, length, sum_by}
use Rattle.std.specs.List.{range_with_len}
use Rattle.sp_defs.specs.Laurent.{Laurent, times, size, sum_over}
use Rattle.sp_fock_law.specs.Grid.{GridValue, cell_of}
use Rattle.sp_grid_law.specs.Tables.{tabulated}

-- The sum, over the columns of a, of the products of a's cells in the line and b's cells in the column.
-- (Lang, Linear Algebra, ch. II, 3)
abbrev pub product_cell : GridValue → GridValue → ℕ → ℕ → Laurent
product_cell a b line column =
    sum_over (range_with_len 0 (length a.columns)) (λ k. times (cell_of a line k) (cell_of b k column))

-- The product, where the columns of a are the lines of b: it has the lines of a and the columns of b.
-- (Lang, Linear Algebra, ch. II, 3)
abbrev pub product : GridValue → GridValue → GridValue
product a b = tabulated a.degree b.columns a.lines (product_cell a b)

-- The same sum over the products of the sizes (this project's own).
abbrev pub product_size : GridValue → GridValue → ℕ → ℕ → ℕ
product_size a b line column =
    sum_by (λ k. size (cell_of a line k) * size (cell_of b k column)) (range_with_len 0 (length a.columns))

-- A column of the product isn't too large for the limit: in each line the sum of the sizes is within it
-- (this project's own).
abbrev pub IsProductWithin : ℕ → GridValue → GridValue → ℕ → Type 0
IsProductWithin limit a b column = (line : ℕ) → line < length a.lines → product_size a b line column ≤ limit
