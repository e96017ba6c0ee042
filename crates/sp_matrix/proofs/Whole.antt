-- The matrix of a degree, whatever rows are found: it is a grid, and square unitriangular.
use Rattle.std.proofs.Common.{ℕ, ◌≤◌}
use Rattle.sp_fock_law.specs.Grid.{IsGrid}
use Rattle.sp_module_defs.specs.Cells.{IsSquareUnitriangular, cell_at}
use Rattle.sp_matrix.specs.declared.scope.Scope.TheVariants.{All}
use Rattle.sp_matrix.specs.declared.scope.Form.TheVariants.{Polynomial}
use Rattle.sp_matrix.specs.Matrix.{matrix}
use Rattle.sp_matrix.specs.Scope.{within, table_of}
use Rattle.sp_matrix.proofs.Tables.{table_is_grid}
use Rattle.sp_matrix.proofs.Triangular.{square}

-- The matrix of the coefficients is a grid.
pub matrix_is_grid : (e n : ℕ) → IsGrid (matrix e n)
unfolding within table_of
matrix_is_grid e n = table_is_grid e n All Polynomial

-- Each column of it has 1 at its own line and 0 at the lines of greater columns.
pub matrix_is_triangular : (e n : ℕ) → 2 ≤ e → IsSquareUnitriangular (matrix e n).columns (cell_at (matrix e n))
unfolding within table_of
matrix_is_triangular e n two = square e n two All Polynomial
