-- The column that refuses a matrix.
use Rattle.std.specs.Prelude.{ℕ, List, [], ◌∷◌, Option, None}
use Rattle.sp_defs.specs.Row.{outcome}
use Rattle.sp_llt.specs.declared.refused.FirstRefused.{FirstRefused}
use Rattle.sp_llt.specs.Refusals.{refused_as, or_else}

-- The first of these columns whose outcome under the limit is no row, and why (this project's own).
unfoldable pub refused_column : ℕ → ℕ → List (List ℕ) → Option FirstRefused
refused_column e limit [] = None
refused_column e limit (mu ∷ columns) = or_else (refused_as mu (outcome e limit mu)) (refused_column e limit columns)
