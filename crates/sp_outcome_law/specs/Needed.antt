-- The law of needed partitions, as a statement that contracts name.
use Rattle.std.specs.Prelude.{ℕ, List, Contains, ◌↔◌}
use Rattle.sp_defs.specs.Row.{IsNeeded, needed}

-- The list of the needed partitions has exactly those that are needed (this project's own).
abbrev pub NeededLaw : Type 0
NeededLaw = (e : ℕ) (mu kappa : List ℕ) → Contains (needed e mu) kappa ↔ IsNeeded e kappa mu
