-- When a matrix may be held against its Jantzen sums, and what is told of it then. This project's own.
use Rattle.std.specs.Prelude.{◌≡◌, ◌≤◌, ◌<◌, ◌^◌, ℕ, true, false, Result, IfOk, OnOk, IsErrOf}
use Rattle.sp_fock_law.specs.Grid.{GridValue}
use Rattle.sp_matrix.specs.Agreements.{HasAll, agreement_of, is_past}
use Rattle.sp_matrix.specs.declared.comparison.Agreement.{Agreement}
use Rattle.sp_matrix.specs.declared.comparison.CompareFault.{CompareFault}
use Rattle.sp_matrix.specs.declared.comparison.CompareFault.TheVariants.{TooLarge}
use Rattle.sp_module_defs.specs.Cells.{cell_at}

-- e, the limit and the matrix are allowed ones.
pub record MayCompare (e limit : ℕ) (grid : GridValue) : Type 0 where
  pub e_least : 2 ≤ e
  pub e_most : e ≤ 64
  pub least : 1 ≤ limit
  pub most : limit < 2 ^ 127
  pub all : HasAll e grid

-- How far the matrix agrees with the Jantzen sums of its lines, or that a line is too large.
pub record Compares (e limit : ℕ) (grid : GridValue) (result : Result Agreement CompareFault) : Type 0 where
  pub agreement : IfOk result (λ agreement. agreement ≡ agreement_of e (cell_at grid) grid.lines)
  pub within : OnOk result (is_past e limit (cell_at grid) grid.lines ≡ false)
  pub too_large : IsErrOf result TooLarge → is_past e limit (cell_at grid) grid.lines ≡ true
