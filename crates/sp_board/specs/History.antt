-- What a stored history says: the marks that it replays to, and the run of the core machine that it is. This project's
-- own.
use Rattle.std.specs.Prelude.{ℕ, ◌+◌, Bool, false, List, [], ◌∷◌, map, length, replicate, slice_get}
use Rattle.std.specs.Prelude.{slice_set, nat_lt, nat_eq, if◌then◌else◌}
use Rattle.std.specs.declared.option.Option.{Option}
use Rattle.std.specs.declared.option.Option.TheVariants.{None, Some}
use Rattle.sp_core.specs.declared.machine.RowState.{RowState}
use Rattle.sp_core.specs.declared.machine.RowState.TheVariants.{Open, Taken, Done, Lost}
use Rattle.sp_core.specs.declared.machine.Event.{Event}
use Rattle.sp_core.specs.declared.machine.Event.TheVariants as event
use Rattle.sp_core.specs.Machine.{World}
use Rattle.sp_core.specs.Law.{Runs}
use Rattle.sp_board.specs.declared.stored.Stored.{Stored}
use Rattle.sp_board.specs.declared.stored.Stored.TheVariants.{Claim, Publish, Lose}

-- What is known of each row, and the number of the row that is claimed next.
pub record Marks : Type 0 where
  pub rows : List RowState
  pub next : ℕ

abbrev pub marks : List RowState → ℕ → Marks
marks rows next = record { rows = rows; next = next }

-- n open rows.
abbrev pub blank : ℕ → Marks
blank n = marks (replicate n Open) 0

abbrev pub is_taken_by : ℕ → Option RowState → Bool
is_taken_by w (Some (Taken v)) = nat_eq v w
is_taken_by w (Some Open) = false
is_taken_by w (Some Done) = false
is_taken_by w (Some Lost) = false
is_taken_by w None = false

-- The marks after one entry. A claim takes the next row. Publish and Lose need their row taken by the worker.
abbrev pub replayed : Marks → Stored → Option Marks
replayed m (Claim w) =
    if nat_lt m.next (length m.rows) then Some (marks (slice_set m.rows m.next (Taken w)) (m.next + 1)) else None
replayed m (Publish w k) =
    if is_taken_by w (slice_get m.rows k) then Some (marks (slice_set m.rows k Done) m.next) else None
replayed m (Lose w k) =
    if is_taken_by w (slice_get m.rows k) then Some (marks (slice_set m.rows k Lost) m.next) else None

abbrev pub then_replay : Option Marks → (Marks → Option Marks) → Option Marks
then_replay None rest = None
then_replay (Some m) rest = rest m

-- The marks after a history, where each entry can be replayed when it comes.
abbrev pub replay : List Stored → Marks → Option Marks
replay [] m = Some m
replay (e ∷ es) m = then_replay (replayed m e) (replay es)

-- An entry as an event of the core machine.
abbrev pub event_of : Stored → Event
event_of (Claim w) = event.Claim w
event_of (Publish w k) = event.Publish w
event_of (Lose w k) = event.Lose w

-- The entries, read as events, are allowed one after the other, and lead from the one world to the other.
abbrev pub RunsAs : List Stored → World → World → Type 0
RunsAs history s t = Runs (map event_of history) s t
