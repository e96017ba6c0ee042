-- The core machine, this project's own: rows that are claimed in order, and workers that ask for earlier ones.
use Rattle.std.specs.Prelude.{◌≡◌, ℕ, Bool, true, false, List, replicate, slice_get, slice_set, nat_lt, if◌then◌else◌}
use Rattle.std.specs.Prelude.{Result, MatchResult}
use Rattle.std.specs.List.{position}
use Rattle.std.specs.declared.option.Option.{Option}
use Rattle.std.specs.declared.option.Option.TheVariants.{None, Some}
use Rattle.sp_core.specs.declared.machine.RowState.{RowState}
use Rattle.sp_core.specs.declared.machine.RowState.TheVariants.{Open, Taken, Done, Lost}
use Rattle.sp_core.specs.declared.machine.WorkerState.{WorkerState}
use Rattle.sp_core.specs.declared.machine.WorkerState.TheVariants.{Free, Busy, Ended}
use Rattle.sp_core.specs.declared.machine.Event.{Event}
use Rattle.sp_core.specs.declared.machine.Event.TheVariants.{Claim, Ask, Publish, Lose, End}
use Rattle.sp_core.specs.declared.machine.NotAllowed.{NotAllowed}
use Rattle.sp_core.specs.declared.machine.Answer.{Answer}
use Rattle.sp_core.specs.declared.machine.Answer.TheVariants.{Claimed, Seen, Waits, Freed, Gone}

-- What is known of each row, and what each worker does. Rows and workers are counted from 0.
pub record World : Type 0 where
  pub rows : List RowState
  pub workers : List WorkerState

abbrev pub world : List RowState → List WorkerState → World
world rows workers = record { rows = rows; workers = workers }

-- n open rows, and w free workers.
abbrev pub opening : ℕ → ℕ → World
opening n w = world (replicate n Open) (replicate w Free)

abbrev pub is_open : RowState → Bool
is_open Open = true
is_open (Taken w) = false
is_open Done = false
is_open Lost = false

-- The least open row.
abbrev pub first_open : List RowState → Option ℕ
first_open rows = position is_open rows

-- Below, an event is allowed where its function gives the next world and the answer. The state of the event's worker is
-- None where there is no such worker.

-- Claim is allowed to a free worker while a row is open. The least open row k is taken by it, and it is busy with k and
-- may ask for the rows below k.
abbrev pub claim_of : World → ℕ → Option WorkerState → Option ℕ → Option (World × Answer)
claim_of s w (Some Free) (Some k) =
    Some (world (slice_set s.rows k (Taken w)) (slice_set s.workers w (Busy k k)), Claimed k)
claim_of s w (Some Free) None = None
claim_of s w (Some (Busy row last)) open_row = None
claim_of s w (Some Ended) open_row = None
claim_of s w None open_row = None

-- A row that is done or lost is seen, and only rows below it may be asked for from then on. At any other the worker
-- waits, and nothing changes.
abbrev pub look_of : World → ℕ → ℕ → ℕ → Option RowState → World × Answer
look_of s w row j (Some Done) = (world s.rows (slice_set s.workers w (Busy row j)), Seen Done)
look_of s w row j (Some Lost) = (world s.rows (slice_set s.workers w (Busy row j)), Seen Lost)
look_of s w row j (Some Open) = (s, Waits)
look_of s w row j (Some (Taken v)) = (s, Waits)
look_of s w row j None = (s, Waits)

-- Ask for row j is allowed to a busy worker whose last is above j.
abbrev pub ask_of : World → ℕ → ℕ → Option WorkerState → Option (World × Answer)
ask_of s w j (Some (Busy row last)) =
    if nat_lt j last then Some (look_of s w row j (slice_get s.rows j)) else None
ask_of s w j (Some Free) = None
ask_of s w j (Some Ended) = None
ask_of s w j None = None

-- Publish and Lose are allowed to a busy worker. Its row gets the mark, and it is free.
abbrev pub mark_of : World → ℕ → RowState → Option WorkerState → Option (World × Answer)
mark_of s w mark (Some (Busy row last)) = Some (world (slice_set s.rows row mark) (slice_set s.workers w Free), Freed)
mark_of s w mark (Some Free) = None
mark_of s w mark (Some Ended) = None
mark_of s w mark None = None

-- End is allowed to a free worker once no row is open.
abbrev pub end_of : World → ℕ → Option WorkerState → Option ℕ → Option (World × Answer)
end_of s w (Some Free) None = Some (world s.rows (slice_set s.workers w Ended), Gone)
end_of s w (Some Free) (Some k) = None
end_of s w (Some (Busy row last)) open_row = None
end_of s w (Some Ended) open_row = None
end_of s w None open_row = None

-- The next world and the answer, where the event is allowed.
abbrev pub step_of : World → Event → Option (World × Answer)
step_of s (Claim w) = claim_of s w (slice_get s.workers w) (first_open s.rows)
step_of s (Ask w j) = ask_of s w j (slice_get s.workers w)
step_of s (Publish w) = mark_of s w Done (slice_get s.workers w)
step_of s (Lose w) = mark_of s w Lost (slice_get s.workers w)
step_of s (End w) = end_of s w (slice_get s.workers w) (first_open s.rows)

-- What a call on the machine does by one of these functions: it gives the answer and the next world, or it refuses, and
-- the world is as before.
abbrev pub Follows : Option (World × Answer) → World → World → Result Answer NotAllowed → Type 0
Follows step old new result = MatchResult result (λ a. step ≡ Some (new, a)) (λ _. (step ≡ None) × (new ≡ old))
