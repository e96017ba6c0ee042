-- What the sources and sinks in memory are, and which of their calls fail.
use Rattle.std.specs.Prelude.{ℕ, ◌≤◌, ◌⊎◌, List, Contains, length}
use Rattle.sp_base.specs.Causes.{one_more}

-- Bytes that are left to be read, at most `piece` in one call. The calls with the numbers in `fail` fail,
-- where the first call has the number 1. The two counts of 64 bits stay at the end of their type.
pub record MemorySource : Type 0 where
  pub left : List ℕ
  pub piece : ℕ
  pub fail : List ℕ
  pub calls : ℕ
  pub faults : ℕ

-- the next read is one of those that fail
abbrev pub FailsToRead : MemorySource → Type 0
FailsToRead source = Contains source.fail (one_more source.calls)

-- Bytes that are written, at most `room` of them and at most `piece` in one call, and calls that fail as in a source.
pub record MemorySink : Type 0 where
  pub written : List ℕ
  pub room : ℕ
  pub piece : ℕ
  pub fail : List ℕ
  pub calls : ℕ
  pub faults : ℕ

-- the next write is one of those that fail, or there is no room for it
abbrev pub FailsToWrite : MemorySink → Type 0
FailsToWrite sink = Contains sink.fail (one_more sink.calls) ⊎ (sink.room ≤ length sink.written)
