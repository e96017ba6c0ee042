-- Vectors over ranks.
use Rattle.std.specs.Prelude.{◌≡◌, ◌≢◌, ℕ, ◌<◌, ◌≤◌, List, [], ◌∷◌, length}
use Rattle.std.specs.List.{AllByRecursion}
use Rattle.sp_defs.specs.Laurent.{Laurent}
use Rattle.sp_defs.specs.Partition.{partitions}
use Rattle.sp_defs.specs.Power.{Entries}
use Rattle.sp_laurent.specs.Held.{IsHeld}
use Rattle.sp_partition.specs.declared.TheConstants.{DEGREE_LIMIT}
use Rattle.sp_ranks.specs.Ranks.{partition_at}

-- The partitions of n of these ranks, with these polynomials.
unfoldable pub entries_over : ℕ → List ℕ → List Laurent → Entries
entries_over n [] ps = []
entries_over n (rank ∷ ranks) [] = []
entries_over n (rank ∷ ranks) (p ∷ ps) = (partition_at n rank, p) ∷ entries_over n ranks ps

-- The ranks ascend strictly.
abbrev pub Climbs : List ℕ → Type 0
Climbs [] = Unit {0}
Climbs (rank ∷ ranks) = AllByRecursion (λ other. rank < other) ranks × Climbs ranks

-- A polynomial that may be held and isn't 0.
abbrev pub IsHeldNonzero : Laurent → Type 0
IsHeldNonzero p = IsHeld p × (p ≢ [])

-- One polynomial that isn't 0 for each of the ranks, which ascend.
pub record IsOverRanks (n : ℕ) (ranks : List ℕ) (ps : List Laurent) : Type 0 where
  pub small : n ≤ DEGREE_LIMIT
  pub count : length ranks ≡ length ps
  pub climbs : Climbs ranks
  pub there : AllByRecursion (λ rank. rank < length (partitions n)) ranks
  pub polynomials : AllByRecursion IsHeldNonzero ps
