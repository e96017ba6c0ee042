-- A column of the inverse, from the first line on: each cell is what the ones before it leave over.
use Rattle.std.specs.Prelude.{ℕ, zero, suc, List, [], ◌∷◌, ◌++◌, slice_index_or}
use Rattle.std.specs.List.{range_with_len}
use Rattle.sp_defs.specs.Laurent.{Laurent, plus, negate, times, sum_over}
use Rattle.sp_fock_law.specs.Grid.{GridValue, cell_of}
use Rattle.sp_grid_law.specs.Tables.{delta, tabulated}

-- The sum of the products of the cells of a line before the diagonal and those of a column (this project's own).
abbrev pub earlier_sum : (ℕ → ℕ → Laurent) → ℕ → List Laurent → Laurent
earlier_sum A line cells = sum_over (range_with_len 0 line) (λ k. times (A line k) (slice_index_or cells k []))

-- The first cells of a column of the inverse of a triangular matrix.
-- (Lang, Linear Algebra, ch. II, 3)
unfoldable pub solved : (ℕ → ℕ → Laurent) → ℕ → ℕ → List Laurent
solved A column zero = []
solved A column (suc line) =
    let cells = solved A column line in
    cells ++ plus (delta line column) (negate (earlier_sum A line cells)) ∷ []

-- The cells of the inverse of a triangular matrix.
-- (Lang, Linear Algebra, ch. II, 3)
abbrev pub solution : (ℕ → ℕ → Laurent) → ℕ → ℕ → Laurent
solution A line column = slice_index_or (solved A column (suc line)) line []

-- The grid of these cells.
-- (Lang, Linear Algebra, ch. II, 3)
abbrev pub inverse_of : GridValue → GridValue
inverse_of g = tabulated g.degree g.columns g.lines (solution (cell_of g))
