-- Inverses of the square parts of matrices, Cartan matrices, and simple modules as sums of Specht modules. This
-- project's own.
use Rattle.std.specs.Prelude.{◌≡◌, ℕ, List, Option, Some, None, Result, Ok, Err}
use Rattle.sp_cartan.specs.Cartan.{cartan_of}
use Rattle.sp_cartan.specs.Characters.{simple_character}
use Rattle.sp_cartan.specs.Refusals.{cartan_past, inverse_past}
use Rattle.sp_cartan.specs.Square.{square_of}
use Rattle.sp_defs.specs.Partition.{degree}
use Rattle.sp_defs.specs.Power.{entries}
use Rattle.sp_defs.specs.Text.{vector_text}
use Rattle.sp_fock_law.specs.Grid.{GridValue}
use Rattle.sp_grid_law.specs.Solved.{inverse_of}
use Rattle.sp_inverse.specs.declared.fault.GridFault.{GridFault}
use Rattle.sp_inverse.specs.declared.fault.GridFault.TheVariants.{TooLarge, Memory}
use Rattle.sp_replies.specs.Words.{line_of}
use Rattle.sp_replies.specs.declared.refusals.Refusal.{Refusal}
use Rattle.sp_replies.specs.declared.refusals.Refusal.TheVariants.{LargeColumn}
use Rattle.sp_session.specs.Modules.{on_table}
use Rattle.sp_session.specs.Tables.{crystal_table, decomposition_table}

-- The grid, unless a column of it is too large.
abbrev pub unless_large : Option (List ℕ) → GridValue → Result GridValue Refusal
unless_large None grid = Ok grid
unless_large (Some at) grid = Err (LargeColumn at)

-- What is made of a grid, if there is one.
abbrev pub made_of : (GridValue → Result GridValue Refusal) → Result GridValue Refusal → Result GridValue Refusal
made_of make (Ok grid) = make grid
made_of make (Err why) = Err why

-- The inverse of the square part of a matrix.
abbrev pub inverse_within : ℕ → GridValue → Result GridValue Refusal
inverse_within limit grid = unless_large (inverse_past limit grid) (inverse_of (square_of grid))

abbrev pub cartan_within : ℕ → GridValue → Result GridValue Refusal
cartan_within limit grid = unless_large (cartan_past limit grid) (cartan_of grid)

-- The inverse of the square part of the matrix of a degree. Refused columns of the matrix come first.
unfoldable pub inverse_table : ℕ → ℕ → ℕ → Result GridValue Refusal
inverse_table limit e n = made_of (inverse_within limit) (crystal_table limit e n)

-- The Cartan matrix of a degree. Refused columns of the matrix come first.
unfoldable pub cartan_table : ℕ → ℕ → ℕ → Result GridValue Refusal
cartan_table limit e n = made_of (cartan_within limit) (decomposition_table limit e n)

-- The simple module of mu, by an inverse.
abbrev pub character_text : List ℕ → GridValue → List ℕ
character_text mu inverse = line_of (vector_text (entries inverse.degree (simple_character inverse mu)))

-- It is refused where any column of the matrix or of the inverse is.
unfoldable pub simple_text : ℕ → ℕ → List ℕ → List ℕ
simple_text limit e mu = on_table (character_text mu) (inverse_table limit e (degree mu))

-- What becomes of a grid that may be too large: the grid, or the column that refuses it. Without memory there is
-- neither.
abbrev pub IsMade : Result GridValue GridFault → Result GridValue Refusal → Type 0
IsMade (Ok grid) table = table ≡ Ok grid
IsMade (Err (TooLarge at)) table = table ≡ Err (LargeColumn at)
IsMade (Err Memory) table = ⊥
