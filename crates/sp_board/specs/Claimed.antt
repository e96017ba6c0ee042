-- What contracts see of a claim, this project's own.
use Rattle.std.specs.Prelude.{ℕ}

pub record Claimed : Type 0 where
  pub worker : ℕ
  pub row : ℕ
  pub last : ℕ

abbrev pub claimed : ℕ → ℕ → ℕ → Claimed
claimed worker row last = record { worker = worker; row = row; last = last }
