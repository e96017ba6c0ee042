-- Matrices with 1 at each column's own line and 0 above it.
use Rattle.std.specs.Prelude.{◌≡◌, []}
use Rattle.std.specs.List.{AllByRecursion}
use Rattle.std.specs.declared.cmp.Ordering.TheVariants.{Greater}
use Rattle.sp_defs.specs.Partition.{compare}
use Rattle.sp_defs.specs.Laurent.{one}
use Rattle.sp_fock_law.specs.Grid.{GridValue}
use Rattle.sp_module_defs.specs.Cells.{cell_at}

-- In each column the cell at its own line is 1, and the cells at greater lines are 0.
-- (Mathas, Iwahori-Hecke Algebras and Schur Algebras of the Symmetric Group, ch. 2)
pub record IsUnitriangular (g : GridValue) : Type 0 where
  pub own : AllByRecursion (λ mu. cell_at g mu mu ≡ one) g.columns
  pub greater :
      AllByRecursion (λ mu. AllByRecursion (λ lambda. compare lambda mu ≡ Greater → cell_at g lambda mu ≡ []) g.lines)
      g.columns
