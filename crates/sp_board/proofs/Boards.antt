-- What contracts see of a board before and after a call.
use Rattle.std.proofs.Common.{◌≡◌, ◌≢◌, ℕ, ◌+◌, ◌*◌, ◌<◌, ◌≤◌, ◌++◌, cond, List, [], ◌∷◌, length, replicate}
use Rattle.std.proofs.Common.{get_or, slice_get, slice_set, refl, sym, ◌∙◌, ap, inl, inr, arith, length-set}
use Rattle.std.proofs.lemmas.List.Folds.{sum_by-replicate}
use Rattle.std.proofs.lemmas.Option.{same_Some, slice_get_within, slice_get-get_or}
use Rattle.std.specs.declared.option.Option.{Option}
use Rattle.std.specs.declared.option.Option.TheVariants.{None, Some}
use Rattle.sp_core.specs.declared.piece.Key.{Key}
use Rattle.sp_core.specs.declared.machine.RowState.{RowState}
use Rattle.sp_core.specs.declared.machine.RowState.TheVariants.{Open, Taken, Done}
use Rattle.sp_core.specs.declared.machine.WorkerState.TheVariants.{Free}
use Rattle.sp_core.specs.Machine.{opening}
use Rattle.sp_core.proofs.Sets.{set_same, set_other, after_set}
use Rattle.sp_core.proofs.Runs.{replicated, replicated_at, length-replicate}
use Rattle.sp_board.specs.declared.stored.Stored.{Stored}
use Rattle.sp_board.specs.declared.stored.Stored.TheVariants.{Claim}
use Rattle.sp_board.specs.History.{Marks, marks}
use Rattle.sp_board.specs.Table.{Table, table, marks_of, next_of, mark_at, StepsTo, Stores}
use Rattle.sp_board.specs.Claimed.{claimed}
use Rattle.sp_board.specs.Answers.{Claims}
use Rattle.sp_board.specs.Kept.{is_settled, IsRun, HasPieces, IsKept}
use Rattle.sp_board.proofs.Runs.{Extends, claim_extends}

-- ---- the marks

-- The marks of a board are what its history replays to.
pub marks_are : {T : Type 0} → (e : Key) (workers next : ℕ) (rows : List RowState) (history : List Stored)
    (pieces : List (Option T)) → IsRun workers next rows history
    → marks_of (table e (length rows) workers history pieces) ≡ marks rows next
marks_are e workers next rows history pieces h = rw h.replays refl

-- What contracts see of a row is its mark.
pub mark_is : {T : Type 0} → (e : Key) (workers next : ℕ) (rows : List RowState) (history : List Stored)
    (pieces : List (Option T)) (k : ℕ) → IsRun workers next rows history
    → mark_at (table e (length rows) workers history pieces) k ≡ slice_get rows k
mark_is e workers next rows history pieces k h =
    ap (λ (m : Marks). slice_get m.rows k) (marks_are e workers next rows history pieces h)

-- What contracts see as the next row is the board's.
pub next_is : {T : Type 0} → (e : Key) (workers next : ℕ) (rows : List RowState) (history : List Stored)
    (pieces : List (Option T)) → IsRun workers next rows history
    → next_of (table e (length rows) workers history pieces) ≡ next
next_is e workers next rows history pieces h =
    ap (λ (m : Marks). m.next) (marks_are e workers next rows history pieces h)

-- ---- the pieces

-- Pieces serve as before where no row becomes done.
pub holds_on : {T : Type 0} → (key : T → Key) (number : T → ℕ) (e : Key) (rows : List RowState)
    (pieces : List (Option T)) (k : ℕ) (mark : RowState) → (mark ≡ Done → ⊥) → HasPieces key number e rows pieces
    → HasPieces key number e (slice_set rows k mark) pieces
holds_on key number e rows pieces k mark other h = record {
  count = h.count ∙ sym (length-set rows k mark);
  done = λ j at. elim (after_set rows k j mark Done at) [
    | inl p ↦ absurd (other (sym p.1))
    | inr p ↦ h.done j p.1
  ];
}

-- A row becomes done with its piece.
pub holds_more : {T : Type 0} → (key : T → Key) (number : T → ℕ) (e : Key) (rows : List RowState)
    (pieces : List (Option T)) (k : ℕ) (x : T) → k < length rows → key x ≡ e → number x ≡ k
    → HasPieces key number e rows pieces
    → HasPieces key number e (slice_set rows k Done) (slice_set pieces k (Some x))
holds_more {T} key number e rows pieces k x lt keyed numbered h = record {
  count = length-set pieces k (Some x) ∙ (h.count ∙ sym (length-set rows k Done));
  done = λ j at. elim (after_set rows k j Done Done at) [
    | inl p ↦ (x, rw p.0 here, (keyed, numbered ∙ sym p.0))
    | inr p ↦ let q = h.done j p.1 in (q.0, set_other pieces k j (Some x) p.0 ∙ q.1, q.2)
  ];
}
  where
    here : slice_get (slice_set pieces k (Some x)) k ≡ Some (Some x)
    here = set_same pieces k (get_or pieces k None) (Some x) (slice_get-get_or pieces k None (rw h.count lt))

-- ---- what a call stores

step_of_table : {T : Type 0} → (e : Key) (workers next next' : ℕ) (rows rows' : List RowState) (history : List Stored)
    (entry : Stored) (pieces pieces' : List (Option T)) → length rows' ≡ length rows
    → Extends workers next rows history entry next' rows'
    → StepsTo (table e (length rows) workers history pieces)
    (table e (length rows') workers (history ++ entry ∷ []) pieces') entry
step_of_table e workers next next' rows rows' history entry pieces pieces' same x = record {
  before = x.before;
  after = x.after;
  answer = x.answer;
  was = x.was;
  step = x.step;
  is = rw same x.is;
}

-- A call that extends the run, and keeps the pieces of the rows that were done, stores its entry.
pub stores : {T : Type 0} → (e : Key) (workers next next' : ℕ) (rows : List RowState) (history history' : List Stored)
    (pieces pieces' told : List (Option T)) (k : ℕ) (mark : RowState) (entry : Stored) (old : Table T)
    → table e (length rows) workers history pieces ≡ old → history' ≡ history ++ entry ∷ [] → told ≡ pieces'
    → IsRun workers next rows history
    → ((j : ℕ) → slice_get rows j ≡ Some Done → slice_get pieces' j ≡ slice_get pieces j)
    → Extends workers next rows history entry next' (slice_set rows k mark)
    → Stores old entry told (table e (length (slice_set rows k mark)) workers history' pieces')
stores {T} e workers next next' rows history history' pieces pieces' told k mark entry old view longer same h kept x =
    rw (← view, longer, same) (record {
      entry = ap (λ (n : ℕ). table e n workers (history ++ entry ∷ []) pieces') (length-set rows k mark);
      steps = step_of_table e workers next next' rows (slice_set rows k mark) history entry pieces pieces'
          (length-set rows k mark) x;
      kept = λ j done. kept j (sym (mark_is e workers next rows history pieces j h) ∙ done);
    })

-- The pieces of the rows that were done stay where a taken row gets one.
pub pieces_kept : {T : Type 0} → (rows : List RowState) (pieces : List (Option T)) (w k j : ℕ) (x : Option T)
    → slice_get rows k ≡ Some (Taken w) → slice_get rows j ≡ Some Done
    → slice_get (slice_set pieces k x) j ≡ slice_get pieces j
pieces_kept rows pieces w k j x mine done = set_other pieces k j x other
  where
    other : j ≢ k
    other same = let z : Some Done ≡ Some (Taken w) = sym done ∙ (ap (slice_get rows) same ∙ mine) in cc

-- What a claim answers and leaves.
pub claim_ends : {T : Type 0} → (e : Key) (workers next : ℕ) (rows : List RowState) (history history' : List Stored)
    (pieces : List (Option T)) (w : ℕ) (old : Table T) → table e (length rows) workers history pieces ≡ old
    → history' ≡ history ++ Claim w ∷ [] → IsRun workers next rows history → next < length rows → w < workers
    → ((k : ℕ) → slice_get rows k ≡ Some (Taken w) → ⊥)
    → Claims old w (claimed w next next) (table e (length (slice_set rows next (Taken w))) workers history' pieces)
claim_ends {T} e workers next rows history history' pieces w old view longer h lt staff idle = record {
  may = rw (← view) (record {
    left = rw is_next lt;
    worker = staff;
    idle = λ k at. idle k (sym (mark_is e workers next rows history pieces k h) ∙ at);
  });
  claim = rw (← view) (ap (λ (i : ℕ). claimed w i i) (sym is_next));
  stores = stores e workers next (next + 1) rows history history' pieces pieces old.pieces next (Taken w) (Claim w) old
      view longer (ap (λ (t : Table T). t.pieces) (sym view)) h (λ j done. refl)
      (claim_extends workers next rows history w h lt staff idle);
}
  where
    is_next : next_of (table e (length rows) workers history pieces) ≡ next
    is_next = next_is e workers next rows history pieces h

-- ---- the opening

-- An opened board keeps what a board keeps.
pub opening_kept : {T : Type 0} → (key : T → Key) (number : T → ℕ) (e : Key) (workers n room : ℕ) → 2 * n ≤ room
    → IsKept key number e workers 0 (replicate n Open) [] (replicate n None) room
opening_kept {T} key number e workers n room most = record {
  is_run = record {
    replays = rw same_length refl;
    world = opening (length (replicate n Open)) workers;
    runs = refl;
    same = rw same_length refl;
    free = λ w staff idle. replicated_at workers w Free staff;
    busy = λ k w at. let z : Taken w ≡ Open = replicated n k Open (Taken w) at in cc;
    within = omega arith;
    opened = λ j le lt. replicated_at n j Open (rw same_length at lt);
    only = λ j at. omega arith;
    count = let none = sum_by-replicate (λ r. cond (is_settled r) 1 0) n Open in omega arith;
  };
  holds = record {
    count = length-replicate n None ∙ sym same_length;
    done = λ j at. let z : Done ≡ Open = replicated n j Open Done at in cc;
  };
  reserved = rw same_length most;
}
  where
    same_length : length (replicate n Open) ≡ n
    same_length = length-replicate n Open
