-- What a source over a reader is, and a sink over a writer.
use Rattle.std.specs.Prelude.{ℕ}

-- a reader or a writer, and how often it has failed
pub record Counted (Stream : Type 0) : Type 0 where
  pub stream : Stream
  pub faults : ℕ
