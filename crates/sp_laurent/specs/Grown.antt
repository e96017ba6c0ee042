-- A text that something was appended to.
use Rattle.std.specs.Prelude.{◌≡◌, ℕ, List, ◌++◌}

pub record IsGrown (old new : List ℕ) : Type 0 where
  pub added : List ℕ
  pub is : new ≡ old ++ added
