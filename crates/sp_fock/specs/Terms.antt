-- What an iterator over the terms of a vector hands out.
use Rattle.std.specs.Prelude.{ℕ, List}
use Rattle.std.specs.Borrow.{Bor}
use Rattle.sp_defs.specs.Laurent.{Laurent}

-- The entry that a term shows.
abbrev pub entry_of : List ℕ × Bor Laurent → List ℕ × Laurent
entry_of t = (t.0, t.1.now)
