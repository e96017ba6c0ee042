-- How the lines of a grid are kept and walked.
use Rattle.std.specs.Prelude.{◌≡◌, ℕ, List, [], ◌∷◌, length}
use Rattle.std.specs.Borrow.{Bor}
use Rattle.std.specs.Global.{Vec}
use Rattle.sp_defs.specs.Laurent.{Laurent}
use Rattle.sp_fock_law.specs.Grid.{IsGrid}
use Rattle.sp_fock_law.specs.Sparse.{Cells, IsSparseFrom}
use Rattle.sp_fock.specs.Cells.{AreSparse, sparse_grid}

-- A grid in its fields: the cells that aren't 0, and the 0 of all others.
pub record IsKept (n : ℕ) (columns lines : List (List ℕ)) (rows : List (Vec (ℕ × Laurent))) (zero : Laurent)
    : Type 0 where
  pub grid : IsGrid (sparse_grid n columns lines rows)
  pub sparse : AreSparse (length columns) rows
  pub others : zero ≡ []

-- A walk along a row in its fields: the cells from a place on, and the 0 of all others.
pub record IsRow (place width : ℕ) (cells : Cells) (zero : Laurent) : Type 0 where
  pub sparse : IsSparseFrom place width cells
  pub others : zero ≡ []

-- The polynomial that an iterator hands out.
abbrev pub polynomial_of : Bor Laurent → Laurent
polynomial_of p = p.now

-- The list of one cell, which is empty where it is 0.
abbrev pub cells_at : ℕ → Laurent → Cells
cells_at place [] = []
cells_at place (t ∷ ts) = (place, t ∷ ts) ∷ []
