-- The cells of a grid by the partitions of their line and column.
use Rattle.std.specs.Prelude.{◌≡◌, ℕ, List, [], nat_eq}
use Rattle.std.specs.List.{AllByRecursion, position_or_len}
use Rattle.std.specs.Cmp.Lexicographic.{pointwise}
use Rattle.std.specs.declared.cmp.Ordering.TheVariants.{Greater}
use Rattle.sp_defs.specs.Partition.{compare}
use Rattle.sp_defs.specs.Laurent.{one}
use Rattle.sp_fock_law.specs.Grid.{GridValue, cell_of}
use Rattle.sp_module_defs.specs.Agreement.{Cells}

-- Where a partition stands in a list, and past the list's end where it doesn't (this project's own).
unfoldable pub place : List (List ℕ) → List ℕ → ℕ
place xs x = position_or_len (λ y. pointwise nat_eq y x) xs

-- The cell at a line and a column, and 0 where the grid lacks one of them (this project's own).
unfoldable pub cell_at : GridValue → Cells
cell_at g lambda mu = cell_of g (place g.lines lambda) (place g.columns mu)

-- Where the columns are the lines too: each has 1 at its own line, and 0 at the lines of greater columns.
-- (Mathas, Iwahori-Hecke Algebras and Schur Algebras of the Symmetric Group, ch. 2)
pub record IsSquareUnitriangular (columns : List (List ℕ)) (d : Cells) : Type 0 where
  pub own : AllByRecursion (λ mu. d mu mu ≡ one) columns
  pub greater :
      AllByRecursion (λ mu. AllByRecursion (λ lambda. compare lambda mu ≡ Greater → d lambda mu ≡ []) columns) columns
