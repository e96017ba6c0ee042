-- Conjugates of vectors and of grids: each partition stands for its conjugate. Where the columns of a matrix are
-- labelled by e-regular partitions, those of its conjugate are labelled by e-restricted ones.
-- James, 1978: The Representation Theory of the Symmetric Groups; Mathas, 1999: Iwahori-Hecke Algebras and Schur
-- Algebras of the Symmetric Group.
use Rattle.std.specs.Prelude.{ℕ, Bool, List, filter}
use Rattle.std.specs.List.{list_any}
use Rattle.std.specs.Ordering.{is_eq}
use Rattle.sp_defs.specs.Partition.{compare, conjugate}
use Rattle.sp_defs.specs.Laurent.{Laurent}
use Rattle.sp_defs.specs.Power.{Vector, FockVector, fock_vector, vector_of}
use Rattle.sp_fock_law.specs.Grid.{GridValue}
use Rattle.sp_module_defs.specs.Cells.{cell_at, place}
use Rattle.sp_matrix.specs.Matrix.{lines_of, table}

-- ---- vectors

-- The vector that has at each partition the coefficient of w at its conjugate.
-- (James, The Representation Theory of the Symmetric Groups, section 8)
abbrev pub conjugate_vector : Vector → Vector
conjugate_vector w lambda = w (conjugate lambda)

-- The same of a finite map with its degree (this project's own).
abbrev pub conjugate_fock_vector : FockVector → FockVector
conjugate_fock_vector v = fock_vector v.degree (conjugate_vector (vector_of v.entries))

-- An entry at the conjugate (this project's own).
abbrev pub conjugate_entry : List ℕ × Laurent → List ℕ × Laurent
conjugate_entry t = (conjugate t.0, t.1)

-- ---- grids

-- The partition is one of these (this project's own).
abbrev pub is_among : List (List ℕ) → List ℕ → Bool
is_among xs lambda = list_any (λ x. is_eq (compare x lambda)) xs

-- The conjugates of these partitions of n, descending (this project's own).
unfoldable pub conjugates : ℕ → List (List ℕ) → List (List ℕ)
conjugates n xs = filter (λ lambda. is_among xs (conjugate lambda)) (lines_of n)

-- The grid whose columns and lines are the conjugates of those of g, descending, with the cell of g at the conjugates
-- of its line and its column.
-- (Mathas, Iwahori-Hecke Algebras and Schur Algebras of the Symmetric Group, ch. 3)
unfoldable pub conjugate_grid : GridValue → GridValue
conjugate_grid g =
    table g.degree (conjugates g.degree g.columns) (conjugates g.degree g.lines)
    (λ lambda mu. cell_at g (conjugate lambda) (conjugate mu))

-- A partition, with the place of its conjugate in a list (this project's own).
abbrev pub with_place : List (List ℕ) → List ℕ → List ℕ × ℕ
with_place xs lambda = (lambda, place xs (conjugate lambda))
