-- Products of which the powers can be held.
use Rattle.std.specs.Prelude.{List}
use Rattle.std.specs.List.{AllByRecursion}
use Rattle.sp_defs.specs.Laurent.{Laurent}
use Rattle.sp_defs.specs.Within.{ProductWithin}
use Rattle.sp_laurent.specs.Held.{power_limit}
use Rattle.sp_fock_law.specs.Sparse.{Cells}

-- The products of all cells and factors have powers that can be held.
abbrev pub AreCellsWithin : Cells → List Laurent → Type 0
AreCellsWithin cells factors = AllByRecursion (λ c. AllByRecursion (ProductWithin power_limit c.1) factors) cells
