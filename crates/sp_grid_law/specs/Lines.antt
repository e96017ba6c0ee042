-- Lines of a grid by their cells that aren't 0, and sums of products over them.
use Rattle.std.specs.Prelude.{◌≡◌, ℕ, ◌*◌, List, [], map, length, slice_index_or, sum_by}
use Rattle.std.specs.List.{range_with_len}
use Rattle.sp_defs.specs.Laurent.{Laurent, size, sum_over, times}
use Rattle.sp_fock_law.specs.Grid.{GridValue, cell_of}
use Rattle.sp_fock_law.specs.Sparse.{Cells, IsSparse, spread}

-- The cells that aren't 0 of a line with these polynomials at the places below a width (this project's own).
pub record IsLine (width : ℕ) (polynomial : ℕ → Laurent) (cells : Cells) : Type 0 where
  pub sparse : IsSparse width cells
  pub row : spread width cells ≡ map polynomial (range_with_len 0 width)

-- The factor at a place, and 0 behind the last (this project's own).
abbrev pub factor_at : List Laurent → ℕ → Laurent
factor_at factors place = slice_index_or factors place []

-- The sum of the products of the cells that aren't 0 with the factors at their places (this project's own).
abbrev pub cells_sum : Cells → List Laurent → Laurent
cells_sum cells factors = sum_over cells (λ c. times c.1 (factor_at factors c.0))

-- The same sum over the products of the sizes (this project's own).
abbrev pub cells_size : Cells → List Laurent → ℕ
cells_size cells factors = sum_by (λ c. size c.1 * size (factor_at factors c.0)) cells

-- The sum of the products of all cells of a line with the factors at their places (this project's own).
abbrev pub line_sum : GridValue → List Laurent → ℕ → Laurent
line_sum g factors line =
    sum_over (range_with_len 0 (length g.columns)) (λ k. times (cell_of g line k) (factor_at factors k))

-- The same sum over the products of the sizes (this project's own).
abbrev pub line_size : GridValue → List Laurent → ℕ → ℕ
line_size g factors line =
    sum_by (λ k. size (cell_of g line k) * size (factor_at factors k)) (range_with_len 0 (length g.columns))
