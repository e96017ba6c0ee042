-- A table with some of the entries of a context.
use Rattle.std.specs.Prelude.{◌≡◌, ℕ, List, Option, None, Some, get_or}
use Rattle.sp_core.specs.declared.piece.Key.{Key}
use Rattle.sp_llt.specs.Place.{Place, place}

-- Where there is an entry, it is that of its place in the table.
abbrev pub IsTable : Key → List (Option Place) → Type 0
IsTable key table = (k : ℕ) (p : Place) → get_or table k None ≡ Some p → p ≡ place key k
