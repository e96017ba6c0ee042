-- What is true of every vector that the code holds.
use Rattle.std.specs.Prelude.{ℕ}
use Rattle.std.specs.List.{AllByRecursion}
use Rattle.sp_defs.specs.Power.{Entries, IsVector, FockVector}
use Rattle.sp_partition.specs.Held.{IsHeld as IsHeldPartition}
use Rattle.sp_laurent.specs.Held.{IsHeld as IsHeldPolynomial}

abbrev pub held_as : ℕ → Entries → FockVector
held_as n es = record { degree = n; entries = es }

-- What is true of each entry by the types of its parts.
abbrev pub ArePairs : Entries → Type 0
ArePairs es = AllByRecursion (λ t. IsHeldPartition t.0 × IsHeldPolynomial t.1) es

pub record IsHeld (v : FockVector) : Type 0 where
  pub vector : IsVector v.degree v.entries
  pub pairs : ArePairs v.entries
