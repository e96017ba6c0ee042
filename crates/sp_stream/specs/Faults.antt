-- When a run may end by a fault of its source or of its sink.
use Rattle.std.specs.Prelude.{ℕ, ◌≡◌, ◌≢◌, ◌≤◌, List, Option, Some, length}
use Rattle.sp_base.specs.Causes.{Rose}
use Rattle.sp_stream.specs.declared.status.Status.{Status}

-- Of a source or a sink, with its count of faults before and now: the count never falls, the run ends by this fault
-- only where it rose, and it neither ends so nor does the count move where the source or the sink was steady.
pub record FaultsHaveCause (fault status : Status) (before now : ℕ) (IsSteady : Type 0) : Type 0 where
  pub later : before ≤ now
  pub cause : status ≡ fault → Rose before now
  pub calm : IsSteady → (status ≢ fault) × (now ≡ before)

-- the sink is steady for all that answers the input that the source tells
abbrev pub IsSteadyForAll : (ℕ → Type 0) → (List ℕ → List ℕ) → Option (List ℕ) → Type 0
IsSteadyForAll steady answer left =
    (input : List ℕ) × (room : ℕ) × (left ≡ Some input) × (length (answer input) ≤ room) × steady room
