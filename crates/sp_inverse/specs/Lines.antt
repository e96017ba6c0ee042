-- Lines of a grid as they are kept.
use Rattle.std.specs.Prelude.{ℕ, List, [], map, slice_index_or}
use Rattle.std.specs.Global.{Vec}
use Rattle.sp_defs.specs.Laurent.{Laurent}
use Rattle.sp_fock_law.specs.Sparse.{Cells}

-- The cells of each line.
abbrev pub lines_of : List (Vec (ℕ × Laurent)) → List Cells
lines_of rows = map (λ row. row.items) rows

-- The cells of a line, and none behind the last line.
abbrev pub line_at : List (Vec (ℕ × Laurent)) → ℕ → Cells
line_at rows k = slice_index_or (lines_of rows) k []
