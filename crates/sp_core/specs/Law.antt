-- What holds over every run of the core machine.
use Rattle.std.specs.Prelude.{◌≡◌, ◌≢◌, ℕ, ◌+◌, ◌*◌, ◌<◌, ◌≤◌, ◌⊎◌, ◌↔◌, Bool, true, false, List, [], ◌∷◌, length}
use Rattle.std.specs.Prelude.{slice_get, slice_index}
use Rattle.std.specs.List.{sum_by, count_by}
use Rattle.std.specs.declared.option.Option.{Option}
use Rattle.std.specs.declared.option.Option.TheVariants.{None, Some}
use Rattle.sp_core.specs.declared.machine.RowState.{RowState}
use Rattle.sp_core.specs.declared.machine.RowState.TheVariants.{Open, Taken, Done, Lost}
use Rattle.sp_core.specs.declared.machine.WorkerState.{WorkerState}
use Rattle.sp_core.specs.declared.machine.WorkerState.TheVariants.{Free, Busy, Ended}
use Rattle.sp_core.specs.declared.machine.Event.{Event}
use Rattle.sp_core.specs.declared.machine.Event.TheVariants.{Claim, Ask, Publish, Lose, End}
use Rattle.sp_core.specs.declared.machine.Answer.{Answer}
use Rattle.sp_core.specs.declared.machine.Answer.TheVariants.{Claimed, Seen, Waits, Freed, Gone}
use Rattle.sp_core.specs.Machine.{World, opening, step_of, is_open}

-- ---- runs

-- The events are allowed one after the other, and lead from the one world to the other.
abbrev pub Runs : List Event → World → World → Type 0
Runs [] s t = t ≡ s
Runs (e ∷ es) s t = (u : World) × (a : Answer) × (step_of s e ≡ Some (u, a)) × Runs es u t

-- There is at least one worker, and these events are allowed from the opening on and lead here.
abbrev pub Reaches : ℕ → ℕ → List Event → World → Type 0
Reaches n w es s = (0 < w) × Runs es (opening n w) s

-- It holds after every list of allowed events, for every number of rows and every number of workers that is at least 1.
abbrev pub HoldsThroughout : (World → Type 0) → Type 0
HoldsThroughout P = (n w : ℕ) (es : List Event) (s : World) → Reaches n w es s → P s

-- ---- rows and their workers

abbrev pub IsBusyWith : List WorkerState → ℕ → ℕ → Type 0
IsBusyWith workers w row = (last : ℕ) × (slice_get workers w ≡ Some (Busy row last))

-- A row is taken by a worker exactly where that worker is busy with it, and it asks for no row past its own.
pub record IsShared (s : World) : Type 0 where
  pub taken : (k w : ℕ) → (slice_get s.rows k ≡ Some (Taken w)) ↔ IsBusyWith s.workers w k
  pub within : (k w last : ℕ) → slice_get s.workers w ≡ Some (Busy k last) → last ≤ k

-- The open rows are the last ones.
abbrev pub OpenComeLast : World → Type 0
OpenComeLast s =
    (j k : ℕ) → j ≤ k → k < length s.rows → slice_get s.rows j ≡ Some Open → slice_get s.rows k ≡ Some Open

-- An answer in front of the rows that are claimed later.
abbrev pub claimed_by : Answer → List ℕ → List ℕ
claimed_by (Claimed k) ks = k ∷ ks
claimed_by (Seen mark) ks = ks
claimed_by Waits ks = ks
claimed_by Freed ks = ks
claimed_by Gone ks = ks

abbrev pub claims_on : Option (World × Answer) → (World → List ℕ) → List ℕ
claims_on None rest = []
claims_on (Some p) rest = claimed_by p.1 (rest p.0)

-- The rows that a run claims, in the order of the claims.
abbrev pub claims : List Event → World → List ℕ
claims [] s = []
claims (e ∷ es) s = claims_on (step_of s e) (claims es)

-- The i-th claim of a run takes row i, so no row is claimed twice.
abbrev pub ClaimsRowsInOrder : Type 0
ClaimsRowsInOrder =
    (n w : ℕ) (es : List Event) (s : World) → Reaches n w es s
    → (i : ℕ) → i < length (claims es (opening n w)) → slice_index (claims es (opening n w)) i ≡ i

-- ---- waits

-- Who waits for row j is busy with a later row, and row j is taken by another.
pub record IsForEarlier (s : World) (w j : ℕ) : Type 0 where
  pub row : ℕ
  pub last : ℕ
  pub other : ℕ
  pub busy : slice_get s.workers w ≡ Some (Busy row last)
  pub earlier : j < row
  pub taken : slice_get s.rows j ≡ Some (Taken other)
  pub another : other ≢ w

abbrev pub WaitsAreForEarlier : World → Type 0
WaitsAreForEarlier s = (w j : ℕ) (t : World) → step_of s (Ask w j) ≡ Some (t, Waits) → IsForEarlier s w j

-- ---- who can go on

-- The worker is busy, and none is busy with an earlier row.
pub record IsLeastBusy (workers : List WorkerState) (w : ℕ) : Type 0 where
  pub row : ℕ
  pub last : ℕ
  pub busy : slice_get workers w ≡ Some (Busy row last)
  pub least : (v r l : ℕ) → slice_get workers v ≡ Some (Busy r l) → row ≤ r

abbrev pub NoneBusy : List WorkerState → Type 0
NoneBusy workers = (v row last : ℕ) → slice_get workers v ≡ Some (Busy row last) → ⊥

abbrev pub NoneFree : List WorkerState → Type 0
NoneFree workers = (v : ℕ) → slice_get workers v ≡ Some Free → ⊥

-- The worker is free, and none before it is.
pub record IsLeastFree (workers : List WorkerState) (w : ℕ) : Type 0 where
  pub free : slice_get workers w ≡ Some Free
  pub least : (v : ℕ) → v < w → slice_get workers v ≡ Some Free → ⊥

abbrev pub AllEnded : List WorkerState → Type 0
AllEnded workers = (v : ℕ) → v < length workers → slice_get workers v ≡ Some Ended

-- No two workers are busy with one row after a run. Elsewhere the first of those with the least row is meant.
pub record IsFirstLeastBusy (workers : List WorkerState) (w : ℕ) : Type 0 where
  pub least : IsLeastBusy workers w
  pub first : (v : ℕ) → v < w → IsLeastBusy workers v → ⊥

-- Whom `can_go_on` names: the busy worker with the least row, and where none is busy the least free one.
pub data GoesOn (workers : List WorkerState) (w : ℕ) : Type 0 where
  first_busy : IsFirstLeastBusy workers w → GoesOn workers w
  first_free : NoneBusy workers → IsLeastFree workers w → GoesOn workers w

-- A worker is named, or all have ended, and never both.
pub record NamesUnlessEnded (s : World) : Type 0 where
  pub either : ((w : ℕ) × GoesOn s.workers w) ⊎ AllEnded s.workers
  pub not_both : (w : ℕ) → GoesOn s.workers w → AllEnded s.workers → ⊥

-- The busy worker with the least row never waits.
abbrev pub LeastNeverWaits : World → Type 0
LeastNeverWaits s =
    (w j : ℕ) (t : World) (a : Answer) → IsLeastBusy s.workers w → step_of s (Ask w j) ≡ Some (t, a)
    → (mark : RowState) × (a ≡ Seen mark)

abbrev pub worker_of : Event → ℕ
worker_of (Claim w) = w
worker_of (Ask w j) = w
worker_of (Publish w) = w
worker_of (Lose w) = w
worker_of (End w) = w

-- The worker has an allowed event that changes the state.
pub record CanMove (s : World) (w : ℕ) : Type 0 where
  pub event : Event
  pub next : World
  pub answer : Answer
  pub own : worker_of event ≡ w
  pub allowed : step_of s event ≡ Some (next, answer)
  pub changes : next ≢ s

-- Who is named can move.
abbrev pub NamedCanMove : World → Type 0
NamedCanMove s = (w : ℕ) → GoesOn s.workers w → CanMove s w

-- Each row is done or lost once all workers have ended.
abbrev pub EndsSettled : World → Type 0
EndsSettled s =
    AllEnded s.workers → (k : ℕ) → k < length s.rows
    → (slice_get s.rows k ≡ Some Done) ⊎ (slice_get s.rows k ≡ Some Lost)

-- ---- few changes

-- last + 1 for a busy worker.
abbrev pub asks_left : WorkerState → ℕ
asks_left Free = 0
asks_left (Busy row last) = last + 1
asks_left Ended = 0

abbrev pub has_not_ended : WorkerState → Bool
has_not_ended Free = true
has_not_ended (Busy row last) = true
has_not_ended Ended = false

-- How much may still happen: N + 2 for each open row of N rows, last + 1 for each busy worker, and 1 for each worker
-- that has not ended.
abbrev pub measure : World → ℕ
measure s =
    (length s.rows + 2) * count_by is_open s.rows + sum_by asks_left s.workers + count_by has_not_ended s.workers

-- An event that changes the state lowers the measure.
abbrev pub EachChangeFalls : World → Type 0
EachChangeFalls s =
    (e : Event) (t : World) (a : Answer) → step_of s e ≡ Some (t, a) → t ≢ s → measure t + 1 ≤ measure s

-- An event leaves the state as it is exactly where its answer is Waits.
abbrev pub OnlyWaitsStay : World → Type 0
OnlyWaitsStay s = (e : Event) (t : World) (a : Answer) → step_of s e ≡ Some (t, a) → (a ≡ Waits) ↔ (t ≡ s)

abbrev pub is_change : Answer → ℕ
is_change Waits = 0
is_change (Claimed k) = 1
is_change (Seen mark) = 1
is_change Freed = 1
is_change Gone = 1

abbrev pub changes_on : Option (World × Answer) → (World → ℕ) → ℕ
changes_on None rest = 0
changes_on (Some p) rest = is_change p.1 + rest p.0

-- How many events of a run change the state: those with another answer than Waits.
abbrev pub changes : List Event → World → ℕ
changes [] s = 0
changes (e ∷ es) s = changes_on (step_of s e) (changes es)

-- A run with N rows and W workers has at most N * N + 2 * N + W changes.
abbrev pub FewChanges : Type 0
FewChanges =
    (n w : ℕ) (es : List Event) (s : World) → Reaches n w es s → changes es (opening n w) ≤ n * n + 2 * n + w
