-- What the ladder law says of a ladder vector, entry by entry.
use Rattle.std.specs.Prelude.{ℕ, ◌≡◌, List, pos, ◌<ℤ◌}
use Rattle.std.specs.List.{AllByRecursion}
use Rattle.sp_defs.specs.Partition.{Dominates}
use Rattle.sp_defs.specs.Laurent.{one}
use Rattle.sp_defs.specs.Power.{Entries, vector_of}
use Rattle.sp_defs.specs.Statements.{SameContent}

-- The coefficient at mu is 1. Every partition is dominated by mu and has mu's content; all coefficients are positive.
pub record ObeysLadderLaw (e : ℕ) (mu : List ℕ) (es : Entries) : Type 0 where
  pub at_mu : vector_of es mu ≡ one
  pub below : AllByRecursion (λ t. Dominates mu t.0) es
  pub contents : AllByRecursion (λ t. SameContent e mu t.0) es
  pub positive : AllByRecursion (λ t. AllByRecursion (λ s. pos 0 <ℤ s.1) t.1) es
