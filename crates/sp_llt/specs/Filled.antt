-- Lists of the entries of a context.
use Rattle.std.specs.Prelude.{◌≡◌, ℕ, List, map, length}
use Rattle.std.specs.List.{range_with_len}
use Rattle.std.specs.Arc.{arc_value}
use Rattle.std.specs.declared.sync.Arc.{Arc}
use Rattle.std.specs.declared.alloc.Global.{Global}
use Rattle.sp_core.specs.declared.piece.Key.{Key}
use Rattle.sp_llt.specs.Place.{Place, place, labels}

-- The entries of the ranks below n, ascending.
abbrev pub HasFirst : Key → ℕ → List (Arc Place Global) → Type 0
HasFirst key n rows = map arc_value rows ≡ map (place key) (range_with_len 0 n)

-- The entries of all ranks, ascending.
abbrev pub IsFilled : Key → List (Arc Place Global) → Type 0
IsFilled key rows = HasFirst key (length (labels key)) rows
