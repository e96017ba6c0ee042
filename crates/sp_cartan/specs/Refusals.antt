-- The greatest column at which the inverse of a square part, or a Cartan matrix, is refused.
use Rattle.std.specs.Prelude.{ℕ, ◌+◌, ◌-◌, Bool, not, nat_le, List, [], length, find, unsigned_abs}
use Rattle.std.specs.Prelude.{Option, option_map, slice_index_or}
use Rattle.std.specs.List.{list_all, range_with_len}
use Rattle.std.specs.Option.{option_or}
use Rattle.sp_fock_law.specs.Grid.{GridValue, cell_of}
use Rattle.sp_grid_law.specs.Inverses.{inverse_size}
use Rattle.sp_grid_law.specs.Products.{product_size}
use Rattle.sp_grid_law.specs.Solved.{inverse_of}
use Rattle.sp_grid_law.specs.Tables.{transposed}
use Rattle.sp_cartan.specs.Square.{square_of}

-- The first of the columns at whose place a test fails. Columns descend, so that it is the greatest
-- (this project's own).
abbrev pub first_failing : (ℕ → Bool) → List (List ℕ) → Option (List ℕ)
first_failing fits columns =
    option_map (λ k. slice_index_or columns k []) (find (λ k. not (fits k)) (range_with_len 0 (length columns)))

-- How far from 0 the powers of a matrix may lie that is inverted (this project's own).
abbrev pub inverted_powers : ℕ
inverted_powers = 100000

-- Every power in the column is from -d to d (this project's own).
abbrev pub is_near : ℕ → GridValue → ℕ → Bool
is_near d g column =
    list_all (λ line. list_all (λ t. nat_le (unsigned_abs t.0) d) (cell_of g line column))
    (range_with_len 0 (length g.lines))

-- In each line behind the column's own, the sizes that the inverse sums up there are within the limit
-- (this project's own).
abbrev pub inverse_fits : ℕ → GridValue → ℕ → Bool
inverse_fits limit g column =
    list_all (λ line. nat_le (inverse_size g (inverse_of g) line column) limit)
    (range_with_len (column + 1) (length g.lines - (column + 1)))

-- In each line, the sizes that the product sums up in the column are within the limit (this project's own).
abbrev pub product_fits : ℕ → GridValue → GridValue → ℕ → Bool
product_fits limit a b column =
    list_all (λ line. nat_le (product_size a b line column) limit) (range_with_len 0 (length a.lines))

-- The greatest column that has a power too far from 0 (this project's own).
unfoldable pub far_column : GridValue → Option (List ℕ)
far_column g = first_failing (is_near inverted_powers g) g.columns

-- The greatest column of the inverse of a triangular grid that is too large (this project's own).
unfoldable pub large_inverse : ℕ → GridValue → Option (List ℕ)
large_inverse limit g = first_failing (inverse_fits limit g) g.columns

-- The greatest column with a power too far from 0, in any line; where there is none, the greatest one at which the
-- inverse of the square part is too large (this project's own).
unfoldable pub inverse_past : ℕ → GridValue → Option (List ℕ)
inverse_past limit g = option_or (far_column g) (large_inverse limit (square_of g))

-- The greatest column at which the transpose times the grid is too large (this project's own).
unfoldable pub cartan_past : ℕ → GridValue → Option (List ℕ)
cartan_past limit g = first_failing (product_fits limit (transposed g) g) g.columns
