-- A list of pairs that is used up, by what is still to come.
use Rattle.std.specs.Prelude.{◌≡◌, List, ℕ, Option, Some, None, [], ◌∷◌, length}
use Rattle.std.specs.Global.{Global}
use Rattle.std.specs.declared.vec.IntoIter.{IntoIter}
use Rattle.std.specs.Vec.Iter.{into_iter_items, into_iter_len}
use Rattle.sp_defs.specs.Laurent.{Laurent}
use Rattle.sp_defs.specs.Power.{Entries}

-- The iterator knows how many elements are to come.
abbrev pub IsCounted : IntoIter (List ℕ × Laurent) Global → Type 0
IsCounted it = into_iter_len it ≡ length (into_iter_items it)

-- The pairs that are still to come: the first one and those after it.
abbrev pub pairs_left : Option (List ℕ × Laurent) → IntoIter (List ℕ × Laurent) Global → Entries
pairs_left None others = []
pairs_left (Some pair) others = pair ∷ into_iter_items others
