-- Which partitions a table has, and what its cells show.
use Rattle.std.specs.Prelude.{ℕ, Bool, true, List}
use Rattle.std.specs.Ordering.{is_eq}
use Rattle.sp_defs.specs.Partition.{compare}
use Rattle.sp_defs.specs.Abacus.{core}
use Rattle.sp_defs.specs.Laurent.{Laurent}
use Rattle.sp_defs.specs.Row.{regular_row}
use Rattle.sp_fock_law.specs.Grid.{GridValue}
use Rattle.sp_module_defs.specs.Agreement.{Cells}
use Rattle.sp_matrix.specs.declared.scope.Scope.{Scope}
use Rattle.sp_matrix.specs.declared.scope.Scope.TheVariants.{All, Block}
use Rattle.sp_matrix.specs.declared.scope.Form.{Form}
use Rattle.sp_matrix.specs.declared.scope.Form.TheVariants.{Polynomial, Constant}
use Rattle.sp_matrix.specs.Matrix.{table, lines_of, columns_of, constant_at_one, in_block}

abbrev pub is_in : ℕ → Scope → List ℕ → Bool
is_in e All x = true
is_in e (Block kappa) x = is_eq (compare (core e x) kappa)

-- Those of the partitions that are within the scope.
unfoldable pub within : ℕ → Scope → List (List ℕ) → List (List ℕ)
within e All xs = xs
within e (Block kappa) xs = in_block e kappa xs

abbrev pub shown : Form → Laurent → Laurent
shown Polynomial p = p
shown Constant p = constant_at_one p

abbrev pub cell_of : ℕ → Form → Cells
cell_of e form lambda mu = shown form (regular_row e mu lambda)

unfoldable pub table_of : ℕ → ℕ → Scope → Form → GridValue
table_of e n scope form =
    table n (within e scope (columns_of e n)) (within e scope (lines_of n)) (cell_of e form)
