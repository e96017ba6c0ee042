-- What a board keeps at every moment.
use Rattle.std.specs.Prelude.{◌≡◌, ℕ, ◌+◌, ◌*◌, ◌<◌, ◌≤◌, Bool, true, false, List, length, map, slice_get}
use Rattle.std.specs.List.{count_by}
use Rattle.std.specs.Option.{option_map}
use Rattle.std.specs.Arc.{arc_value}
use Rattle.std.specs.declared.option.Option.{Option}
use Rattle.std.specs.declared.option.Option.TheVariants.{Some}
use Rattle.std.specs.declared.sync.Arc.{Arc}
use Rattle.std.specs.declared.alloc.Global.{Global}
use Rattle.sp_core.specs.declared.piece.Key.{Key}
use Rattle.sp_core.specs.declared.machine.RowState.{RowState}
use Rattle.sp_core.specs.declared.machine.RowState.TheVariants.{Open, Taken, Done, Lost}
use Rattle.sp_core.specs.declared.machine.WorkerState.TheVariants.{Free, Busy}
use Rattle.sp_core.specs.Machine.{World, opening}
use Rattle.sp_board.specs.declared.stored.Stored.{Stored}
use Rattle.sp_board.specs.History.{blank, replay, marks, RunsAs}
use Rattle.sp_board.specs.Answers.{IsPiece}

-- The pieces of the slots, whoever else holds them.
abbrev pub pieces_of : {T : Type 0} → List (Option (Arc T Global)) → List (Option T)
pieces_of slots = map (λ o. option_map (λ a. arc_value a) o) slots

abbrev pub is_settled : RowState → Bool
is_settled Open = false
is_settled (Taken w) = false
is_settled Done = true
is_settled Lost = true

-- The history replays to the marks, and is a run of the core machine that leads to the same rows. There a worker that
-- has taken a row is busy with it, and any other is free.
pub record IsRun (workers next : ℕ) (rows : List RowState) (history : List Stored) : Type 0 where
  pub replays : replay history (blank (length rows)) ≡ Some (marks rows next)
  pub world : World
  pub runs : RunsAs history (opening (length rows) workers) world
  pub same : world.rows ≡ rows
  pub free : (w : ℕ) → w < workers → ((k : ℕ) → slice_get rows k ≡ Some (Taken w) → ⊥)
      → slice_get world.workers w ≡ Some Free
  pub busy : (k w : ℕ) → slice_get rows k ≡ Some (Taken w) → slice_get world.workers w ≡ Some (Busy k k)
  pub within : next ≤ length rows
  pub opened : (j : ℕ) → next ≤ j → j < length rows → slice_get rows j ≡ Some Open
  pub only : (j : ℕ) → slice_get rows j ≡ Some Open → next ≤ j
  pub count : length history ≡ next + count_by is_settled rows

-- A done row has its piece.
pub record HasPieces {T : Type 0} (key : T → Key) (number : T → ℕ) (e : Key) (rows : List RowState)
    (pieces : List (Option T)) : Type 0 where
  pub count : length pieces ≡ length rows
  pub done : (j : ℕ) → slice_get rows j ≡ Some Done
      → (x : T) × (slice_get pieces j ≡ Some (Some x)) × IsPiece key number e j x

-- Each row is claimed once and ended once at most, so the history never outgrows the room that was reserved for it.
pub record IsKept {T : Type 0} (key : T → Key) (number : T → ℕ) (e : Key) (workers next : ℕ) (rows : List RowState)
    (history : List Stored) (pieces : List (Option T)) (room : ℕ) : Type 0 where
  pub is_run : IsRun workers next rows history
  pub holds : HasPieces key number e rows pieces
  pub reserved : 2 * length rows ≤ room
