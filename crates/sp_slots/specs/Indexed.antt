-- The places of the partitions of a vector.
use Rattle.std.specs.Prelude.{◌≡◌, ℕ, ◌<◌, List, [], map, length, get_or}
use Rattle.std.specs.List.{AllByRecursion}
use Rattle.sp_defs.specs.Laurent.{Laurent}
use Rattle.sp_defs.specs.Partition.{partitions}
use Rattle.sp_defs.specs.Power.{FockVector}

-- The partitions of the vector stand at these places of the list of all.
pub record AreIndices (v : FockVector) (indices : List ℕ) : Type 0 where
  pub within : AllByRecursion (λ i. i < length (partitions v.degree)) indices
  pub at : map (λ i. get_or (partitions v.degree) i []) indices ≡ map (λ t. t.0) v.entries

-- Beside the places, the polynomials of the vector, in the order of its partitions.
pub record IsIndexed (v : FockVector) (indices : List ℕ) (polynomials : List Laurent) : Type 0 where
  pub places : AreIndices v indices
  pub values : polynomials ≡ map (λ t. t.1) v.entries
