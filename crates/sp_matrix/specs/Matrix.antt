-- Matrices of the coefficients of rows, and of their values at v = 1.
-- Lascoux, Leclerc and Thibon, 1996: Hecke algebras at roots of unity and crystal bases of quantum affine algebras.
use Rattle.std.specs.Prelude.{ℕ, List, map, filter, reverse, pos}
use Rattle.std.specs.Ordering.{is_eq}
use Rattle.sp_defs.specs.Partition.{partitions, regulars, compare}
use Rattle.sp_defs.specs.Abacus.{core}
use Rattle.sp_defs.specs.Laurent.{Laurent, monomial, value_at_one}
use Rattle.sp_defs.specs.Row.{regular_row}
use Rattle.sp_fock_law.specs.Grid.{GridValue}
use Rattle.sp_module_defs.specs.Agreement.{Cells}

-- The partitions of n, descending (this project's own).
abbrev pub lines_of : ℕ → List (List ℕ)
lines_of n = reverse (partitions n)

-- The e-regular partitions of n, descending (this project's own).
abbrev pub columns_of : ℕ → ℕ → List (List ℕ)
columns_of e n = reverse (regulars e n)

-- The cells of these lines and columns (this project's own).
abbrev pub table : ℕ → List (List ℕ) → List (List ℕ) → Cells → GridValue
table n columns lines d = record {
  degree = n;
  columns = columns;
  lines = lines;
  cells = map (λ lambda. map (d lambda) columns) lines;
}

-- The coefficient at lambda of the row of mu.
-- (Lascoux, Leclerc and Thibon, Comm. Math. Phys. 181, 1996, section 6)
abbrev pub row_cell : ℕ → Cells
row_cell e lambda mu = regular_row e mu lambda

-- The value at v = 1, as a constant (this project's own).
abbrev pub constant_at_one : Laurent → Laurent
constant_at_one p = monomial (pos 0) (value_at_one p)

-- The decomposition number at lambda and mu, as far as it is the value of the coefficient at v = 1.
-- (Lascoux, Leclerc and Thibon, Comm. Math. Phys. 181, 1996, section 6)
abbrev pub number_cell : ℕ → Cells
number_cell e lambda mu = constant_at_one (regular_row e mu lambda)

-- The partitions with this core.
-- (James and Kerber, The Representation Theory of the Symmetric Group, ch. 2 and 6)
abbrev pub in_block : ℕ → List ℕ → List (List ℕ) → List (List ℕ)
in_block e kappa xs = filter (λ x. is_eq (compare (core e x) kappa)) xs

-- The matrix of the coefficients.
-- (Lascoux, Leclerc and Thibon, Comm. Math. Phys. 181, 1996, section 6)
abbrev pub matrix : ℕ → ℕ → GridValue
matrix e n = table n (columns_of e n) (lines_of n) (row_cell e)

-- The matrix of their values at v = 1.
-- (Lascoux, Leclerc and Thibon, Comm. Math. Phys. 181, 1996, section 6)
abbrev pub decomposition_of : ℕ → ℕ → GridValue
decomposition_of e n = table n (columns_of e n) (lines_of n) (number_cell e)

-- The part of it with the lines and the columns of one core.
-- (James and Kerber, The Representation Theory of the Symmetric Group, ch. 6)
abbrev pub block_of : ℕ → ℕ → List ℕ → GridValue
block_of e n kappa = table n (in_block e kappa (columns_of e n)) (in_block e kappa (lines_of n)) (number_cell e)
