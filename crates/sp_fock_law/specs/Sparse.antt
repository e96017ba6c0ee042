-- Lines of a grid, by their cells that aren't 0.
use Rattle.std.specs.Prelude.{ℕ, ◌+◌, ◌<◌, ◌≤◌, ◌≢◌, ⊤, cond, nat_eq, List, [], ◌∷◌, map}
use Rattle.std.specs.List.{range_with_len}
use Rattle.sp_defs.specs.Laurent.{Laurent}

-- Places of columns, counted from 0, each with the polynomial there (this project's own).
abbrev pub Cells : Type 0
Cells = List (ℕ × Laurent)

-- Places that ascend strictly from `first` on and lie below `width`, with polynomials that aren't 0
-- (this project's own).
abbrev pub IsSparseFrom : ℕ → ℕ → Cells → Type 0
IsSparseFrom first width [] = ⊤
IsSparseFrom first width ((place, p) ∷ others) =
    (first ≤ place) × (place < width) × (p ≢ []) × IsSparseFrom (place + 1) width others

-- The cells that aren't 0 of a line of this width, by ascending places (this project's own).
abbrev pub IsSparse : ℕ → Cells → Type 0
IsSparse width cells = IsSparseFrom 0 width cells

-- The polynomial at a place: 0 where the cells have none (this project's own).
unfoldable pub cell_among : Cells → ℕ → Laurent
cell_among [] column = []
cell_among ((place, p) ∷ others) column = cond (nat_eq place column) p (cell_among others column)

-- So many cells of a line, from the place `first` on (this project's own).
abbrev pub spread_from : ℕ → ℕ → Cells → List Laurent
spread_from first count cells = map (cell_among cells) (range_with_len first count)

-- The line of this width that has these cells, and 0 elsewhere (this project's own).
abbrev pub spread : ℕ → Cells → List Laurent
spread width cells = spread_from 0 width cells
