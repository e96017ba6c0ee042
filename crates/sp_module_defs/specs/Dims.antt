-- Dimensions of Specht modules, and of simple modules from a decomposition matrix.
use Rattle.std.specs.Prelude.{◌≡◌, ℕ, zero, suc, ◌+◌, ◌*◌, ◌/◌, List, [], ◌∷◌, map, length, filter, sum_by, ℤ, pos}
use Rattle.std.specs.Prelude.{◌*ℤ◌, unsigned_abs}
use Rattle.std.specs.List.{AllByRecursion, zip}
use Rattle.std.specs.Ordering.{is_gt}
use Rattle.sp_defs.specs.Partition.{degree, compare}
use Rattle.sp_defs.specs.Node.{nodes, hook}
use Rattle.sp_defs.specs.Laurent.{int_sum, value_at_one}
use Rattle.sp_module_defs.specs.Agreement.{Cells}

-- 1 * 2 * .. * n (this project's own)
unfoldable pub factorial : ℕ → ℕ
factorial zero = 1
factorial (suc n) = suc n * factorial n

-- The product of a list of numbers (this project's own).
unfoldable pub product : List ℕ → ℕ
product [] = 1
product (x ∷ xs) = x * product xs

-- The hook length formula.
-- (Frame, Robinson and Thrall, 1954; James and Kerber, The Representation Theory of the Symmetric Group, ch. 2)
unfoldable pub specht_dim : List ℕ → ℕ
specht_dim p = factorial (degree p) / product (map (hook p) (nodes p))

-- Columns, each with the dimension of its simple module (this project's own).
abbrev pub Dims : Type 0
Dims = List (List ℕ × ℤ)

-- The dimension of the Specht module of a line, as the matrix gives it from those of the simple modules.
-- (Mathas, Iwahori-Hecke Algebras and Schur Algebras of the Symmetric Group, ch. 2)
unfoldable pub composed_dim : Cells → Dims → List ℕ → ℤ
composed_dim d dims lambda = int_sum (map (λ t. value_at_one (d lambda t.0) *ℤ t.1) dims)

-- One dimension for each column, and in the line of each column they give the dimension of its Specht module.
-- (Mathas, Iwahori-Hecke Algebras and Schur Algebras of the Symmetric Group, ch. 2)
pub record IsSimpleDims (columns : List (List ℕ)) (d : Cells) (dims : List ℤ) : Type 0 where
  pub one_each : length dims ≡ length columns
  pub equations : AllByRecursion (λ lambda. composed_dim d (zip columns dims) lambda ≡ pos (specht_dim lambda)) columns

-- How large the numbers get on the way to the dimension at lambda: past the limit it is too large (this project's own).
unfoldable pub dim_weight : Cells → Dims → List ℕ → ℕ
dim_weight d dims lambda =
    let greater : Dims = filter (λ t. is_gt (compare t.0 lambda)) dims in
    specht_dim lambda + sum_by (λ t. unsigned_abs (value_at_one (d lambda t.0)) * unsigned_abs t.1) greater
