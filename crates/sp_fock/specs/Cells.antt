-- What the cells of a grid are seen as.
use Rattle.std.specs.Prelude.{ℕ, List, map, length}
use Rattle.std.specs.List.{AllByRecursion}
use Rattle.std.specs.Global.{Vec}
use Rattle.sp_defs.specs.Laurent.{Laurent}
use Rattle.sp_fock_law.specs.Grid.{GridValue}
use Rattle.sp_fock_law.specs.Sparse.{IsSparse, spread}

-- The list of the rows.
abbrev pub rows_of : List (Vec Laurent) → List (List Laurent)
rows_of rows = map (λ row. row.items) rows

abbrev pub grid_with : ℕ → List (List ℕ) → List (List ℕ) → List (Vec Laurent) → GridValue
grid_with n columns lines rows = record { degree = n; columns = columns; lines = lines; cells = rows_of rows }

-- The lines of this width that have these cells, and 0 elsewhere.
abbrev pub spread_rows : ℕ → List (Vec (ℕ × Laurent)) → List (List Laurent)
spread_rows width rows = map (λ row. spread width row.items) rows

-- The grid that has these cells, and 0 elsewhere.
abbrev pub sparse_grid : ℕ → List (List ℕ) → List (List ℕ) → List (Vec (ℕ × Laurent)) → GridValue
sparse_grid n columns lines rows =
    record { degree = n; columns = columns; lines = lines; cells = spread_rows (length columns) rows }

-- Each row has its cells that aren't 0, by ascending places below the width.
abbrev pub AreSparse : ℕ → List (Vec (ℕ × Laurent)) → Type 0
AreSparse width rows = AllByRecursion (λ row. IsSparse width row.items) rows
