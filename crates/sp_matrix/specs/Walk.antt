-- Cells by the vectors of the columns.
use Rattle.std.specs.Prelude.{ℕ, List, map}
use Rattle.std.specs.Borrow.{Bor}
use Rattle.sp_defs.specs.Laurent.{Laurent}
use Rattle.sp_defs.specs.Power.{FockVector, fock_vector, vector_of}
use Rattle.sp_defs.specs.Row.{regular_row}
use Rattle.sp_matrix.specs.declared.scope.Form.{Form}
use Rattle.sp_matrix.specs.Scope.{shown}

-- The vectors behind references.
abbrev pub vectors_of : List (Bor FockVector) → List FockVector
vectors_of rows = map (λ r. r.now) rows

-- The row of a column, as a finite map.
abbrev pub row_of : ℕ → ℕ → List ℕ → FockVector
row_of e n mu = fock_vector n (regular_row e mu)

-- The cells of a line.
abbrev pub line_cells : Form → List FockVector → List ℕ → List Laurent
line_cells form vectors lambda = map (λ v. shown form (vector_of v.entries lambda)) vectors
