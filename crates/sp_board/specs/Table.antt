-- What contracts see of a board, this project's own. What is known of the rows is not a part of it: it is what the
-- history replays to.
use Rattle.std.specs.Prelude.{◌≡◌, ℕ, ◌<◌, ◌≤◌, ◌⊎◌, ◌++◌, List, [], ◌∷◌, slice_get, unwrap_or}
use Rattle.std.specs.declared.option.Option.{Option}
use Rattle.std.specs.declared.option.Option.TheVariants.{Some}
use Rattle.sp_core.specs.declared.piece.Key.{Key}
use Rattle.sp_core.specs.declared.machine.RowState.{RowState}
use Rattle.sp_core.specs.declared.machine.RowState.TheVariants.{Taken, Done}
use Rattle.sp_core.specs.declared.machine.Answer.{Answer}
use Rattle.sp_core.specs.Machine.{World, opening, step_of}
use Rattle.sp_board.specs.declared.stored.Stored.{Stored}
use Rattle.sp_board.specs.History.{Marks, blank, replay, event_of, RunsAs}

pub record Table (T : Type 0) : Type 0 where
  pub key : Key
  pub rows : ℕ
  pub workers : ℕ
  pub history : List Stored
  pub pieces : List (Option T)

abbrev pub table : {T : Type 0} → Key → ℕ → ℕ → List Stored → List (Option T) → Table T
table key rows workers history pieces =
    record { key = key; rows = rows; workers = workers; history = history; pieces = pieces }

-- The history can be replayed, and gives these marks.
abbrev pub ReplaysTo : {T : Type 0} → Table T → Marks → Type 0
ReplaysTo t m = replay t.history (blank t.rows) ≡ Some m

-- The marks that the history replays to. Each board's history can be replayed.
abbrev pub marks_of : {T : Type 0} → Table T → Marks
marks_of t = unwrap_or (replay t.history (blank t.rows)) (blank t.rows)

-- What is known of row k, if there is one.
abbrev pub mark_at : {T : Type 0} → Table T → ℕ → Option RowState
mark_at t k = slice_get (marks_of t).rows k

abbrev pub next_of : {T : Type 0} → Table T → ℕ
next_of t = (marks_of t).next

-- The history is a run of the core machine with these rows and workers, and leads to this world.
abbrev pub IsAt : {T : Type 0} → Table T → World → Type 0
IsAt t s = RunsAs t.history (opening t.rows t.workers) s

abbrev pub IsCoreRun : {T : Type 0} → Table T → Type 0
IsCoreRun t = (s : World) × IsAt t s

-- The table with one more entry, and with these pieces.
abbrev pub appended : {T : Type 0} → Table T → Stored → List (Option T) → Table T
appended t e pieces = table t.key t.rows t.workers (t.history ++ e ∷ []) pieces

-- The world of the new history is what the one event gives from that of the old one.
pub record StepsTo {T : Type 0} (old new : Table T) (e : Stored) : Type 0 where
  pub before : World
  pub after : World
  pub answer : Answer
  pub was : IsAt old before
  pub step : step_of before (event_of e) ≡ Some (after, answer)
  pub is : IsAt new after

-- What a call that changes a table does: it appends the entry and sets the pieces. The pieces of the rows that were
-- done stay.
pub record Stores {T : Type 0} (old : Table T) (e : Stored) (pieces : List (Option T)) (new : Table T) : Type 0 where
  pub entry : new ≡ appended old e pieces
  pub steps : StepsTo old new e
  pub kept : (j : ℕ) → mark_at old j ≡ Some Done → slice_get pieces j ≡ slice_get old.pieces j

abbrev pub TakesNone : {T : Type 0} → Table T → ℕ → Type 0
TakesNone t w = (k : ℕ) → mark_at t k ≡ Some (Taken w) → ⊥

-- A row is left to claim, and the seat's worker is the board's and has taken none.
pub record MayClaim {T : Type 0} (t : Table T) (w : ℕ) : Type 0 where
  pub left : next_of t < t.rows
  pub worker : w < t.workers
  pub idle : TakesNone t w

-- Why a seat comes back.
abbrev pub MayNotClaim : {T : Type 0} → Table T → ℕ → Type 0
MayNotClaim t w = (next_of t ≡ t.rows) ⊎ ((t.workers ≤ w) ⊎ ((k : ℕ) × (mark_at t k ≡ Some (Taken w))))
