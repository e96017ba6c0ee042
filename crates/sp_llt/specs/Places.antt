-- Where the e-regular partitions of a degree stand in the list of all.
use Rattle.std.specs.Prelude.{◌≡◌, ℕ, ◌<◌, List, [], Option, IfSome, map, length, get_or}
use Rattle.std.specs.List.{AllByRecursion}
use Rattle.sp_defs.specs.Partition.{partitions}
use Rattle.sp_core.specs.declared.piece.Key.{Key}
use Rattle.sp_ranks.specs.Moves.{Scope}
use Rattle.sp_llt.specs.Place.{labels, IsKey}

-- The partitions at some places of a list.
abbrev pub partitions_at : List (List ℕ) → List ℕ → List (List ℕ)
partitions_at all places = map (λ i. get_or all i []) places

-- These partitions stand at these places of the list.
pub record AreAt (all found : List (List ℕ)) (places : List ℕ) : Type 0 where
  pub within : AllByRecursion (λ i. i < length all) places
  pub at : partitions_at all places ≡ found

-- The places of the labels.
abbrev pub ArePlaces : Key → List ℕ → Type 0
ArePlaces key places = AreAt (partitions key.degree) (labels key) places

-- What a table of moves is for, by which the rows of a context are made.
abbrev pub scope_of : Key → Scope
scope_of key = record { e = key.e; degree = key.degree }

-- What is true of the parts of a context, of which the last is what a table of moves is for.
pub record IsContext (key : Key) (all found : List (List ℕ)) (places : List ℕ) (moves : Option Scope) : Type 0 where
  pub held : IsKey key
  pub listed : all ≡ partitions key.degree
  pub regulars : found ≡ labels key
  pub stand : ArePlaces key places
  pub moved : IfSome moves (λ scope. scope ≡ scope_of key)
