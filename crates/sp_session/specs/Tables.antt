-- The grids that pages show, and why there is none. This project's own.
use Rattle.std.specs.Prelude.{◌≡◌, ℕ, ◌+◌, ◌*◌, cond, not, nat_lt, List, Option, Some, None, Result, Ok, Err}
use Rattle.sp_defs.specs.Abacus.{core}
use Rattle.sp_defs.specs.Partition.{degree}
use Rattle.sp_fock_law.specs.Grid.{GridValue}
use Rattle.sp_llt.specs.declared.refused.FirstRefused.{FirstRefused}
use Rattle.sp_llt.specs.declared.refused.RowsFault.{RowsFault}
use Rattle.sp_llt.specs.declared.refused.RowsFault.TheVariants.{Refused, Memory}
use Rattle.sp_matrix.specs.Matrix.{columns_of, in_block, matrix, decomposition_of, block_of}
use Rattle.sp_matrix.specs.Refusal.{refused_column}
use Rattle.sp_partition.specs.declared.TheConstants.{DEGREE_LIMIT}
use Rattle.sp_replies.specs.Abacuses.{is_partition}
use Rattle.sp_replies.specs.Refusals.{by_column}
use Rattle.sp_replies.specs.declared.refusals.Refusal.{Refusal}
use Rattle.sp_replies.specs.declared.refusals.Refusal.TheVariants.{NotCore, PastDegree}

-- The grid, unless a column is refused.
abbrev pub unless_refused : Option FirstRefused → GridValue → Result GridValue Refusal
unless_refused None grid = Ok grid
unless_refused (Some refused) grid = Err (by_column refused.mu refused.why)

unfoldable pub crystal_table : ℕ → ℕ → ℕ → Result GridValue Refusal
crystal_table limit e n = unless_refused (refused_column e limit (columns_of e n)) (matrix e n)

unfoldable pub decomposition_table : ℕ → ℕ → ℕ → Result GridValue Refusal
decomposition_table limit e n = unless_refused (refused_column e limit (columns_of e n)) (decomposition_of e n)

-- The block with this core in this degree. Only its own columns can refuse it.
abbrev pub block_within : ℕ → ℕ → List ℕ → ℕ → Result GridValue Refusal
block_within limit e kappa n =
    unless_refused (refused_column e limit (in_block e kappa (columns_of e n))) (block_of e n kappa)

-- The nodes of a partition with this core and this weight.
-- (James and Kerber, The Representation Theory of the Symmetric Group, ch. 2)
abbrev pub block_degree : ℕ → List ℕ → ℕ → ℕ
block_degree e kappa w = degree kappa + e * w

-- The block with this core and this weight, if the first is a core and the degree isn't too great.
unfoldable pub block_table : ℕ → ℕ → List ℕ → ℕ → Result GridValue Refusal
block_table limit e kappa w =
    cond (not (is_partition (core e kappa) kappa)) (Err NotCore)
    (cond (nat_lt DEGREE_LIMIT (block_degree e kappa w)) (Err PastDegree)
    (block_within limit e kappa (block_degree e kappa w)))

-- What becomes of a grid that may be refused: the grid, or the column that refuses it. Without memory there is neither.
abbrev pub IsTold : Result GridValue RowsFault → Result GridValue Refusal → Type 0
IsTold (Ok grid) table = table ≡ Ok grid
IsTold (Err (Refused refused)) table = table ≡ Err (by_column refused.mu refused.why)
IsTold (Err Memory) table = ⊥
