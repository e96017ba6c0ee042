-- Each change lowers the measure, so there are few.
use Rattle.std.proofs.Common.{◌≡◌, ℕ, ◌+◌, ◌*◌, ◌<◌, ◌≤◌, Bool, false, cond, List, [], ◌∷◌, length, get_or, slice_get}
use Rattle.std.proofs.Common.{slice_set, refl, sym, ◌∙◌, arith, length-set}
use Rattle.std.specs.List.{sum_by, count_by}
use Rattle.std.proofs.lemmas.List.Sums.{sum_by-set}
use Rattle.std.proofs.lemmas.List.Folds.{sum_by-replicate}
use Rattle.std.proofs.lemmas.Option.{slice_get_within, get_or_from_slice_get}
use Rattle.std.specs.declared.option.Option.TheVariants.{Some}
use Rattle.sp_core.specs.declared.machine.RowState.{RowState}
use Rattle.sp_core.specs.declared.machine.RowState.TheVariants.{Open, Taken, Done, Lost}
use Rattle.sp_core.specs.declared.machine.WorkerState.TheVariants.{Free, Busy, Ended}
use Rattle.sp_core.specs.declared.machine.Event.{Event}
use Rattle.sp_core.specs.declared.machine.Answer.{Answer}
use Rattle.sp_core.specs.declared.machine.Answer.TheVariants.{Claimed, Seen, Waits, Freed, Gone}
use Rattle.sp_core.specs.Machine.{World, opening, is_open}
use Rattle.sp_core.specs.Law.{Runs, asks_left, has_not_ended, measure, is_change, EachChangeFalls, OnlyWaitsStay}
use Rattle.sp_core.specs.Law.{changes, FewChanges}
use Rattle.sp_core.proofs.Keeps.{Kept, IsEnd, first_open_is}
use Rattle.sp_core.proofs.Steps.{Did, claimed, saw, stayed, marked, ended, step_did}
use Rattle.sp_core.proofs.Runs.{did_keeps, opening_kept, length-replicate}
use Rattle.sp_core.proofs.Going.{changes_workers}

-- a sum after a write
sum_set : {X : Type 0} (f : X → ℕ) → (xs : List X) (i : ℕ) (x v : X) → slice_get xs i ≡ Some x
    → sum_by f (slice_set xs i v) + f x ≡ sum_by f xs + f v
sum_set f xs i x v at =
    let lt : i < length xs = slice_get_within xs i x at in
    let is : get_or xs i x ≡ x = get_or_from_slice_get xs i x x at in
    rw is at (sum_by-set f xs i v x lt)

not_open : (mark : RowState) → IsEnd mark → is_open mark ≡ false
not_open Open h = absurd (h.0 refl)
not_open (Taken v) h = refl
not_open Done h = refl
not_open Lost h = refl

count_set : {X : Type 0} (p : X → Bool) → (xs : List X) (i : ℕ) (x v : X) → slice_get xs i ≡ Some x
    → count_by p (slice_set xs i v) + cond (p x) 1 0 ≡ count_by p xs + cond (p v) 1 0
count_set p = sum_set (λ x. cond (p x) 1 0)

-- c of d open rows are left once one of n rows is claimed, and its worker may ask for the k rows below
claim_falls : (n c d asks asks' on on' k : ℕ) → c + 1 ≡ d → asks' ≡ asks + (k + 1) → on' ≡ on → k < n
    → 1 + ((n + 2) * c + asks' + on') ≤ (n + 2) * d + asks + on
claim_falls n c d asks asks' on on' k few more same lt = let e : d ≡ c + 1 = sym few in rw e (omega arith)

-- an event that is answered otherwise than by Waits lowers the measure, and changes the state
record Moves (s t : World) (a : Answer) : Type 0 where
  pub falls : is_change a + measure t ≤ measure s
  pub stays : a ≡ Waits → t ≡ s
  pub waits : t ≡ s → a ≡ Waits

did_moves : (s : World) (e : Event) (t : World) (a : Answer) → Did s e t a → Kept s → Moves s t a
did_moves s e t a (claimed d) h =
    let here : slice_get s.rows d.k ≡ Some Open = first_open_is s.rows d.k d.first in
    let lt : d.k < length s.rows = slice_get_within s.rows d.k Open here in
    let rows = count_set is_open s.rows d.k Open (Taken d.w) here in
    let asks = sum_set asks_left s.workers d.w Free (Busy d.k d.k) d.free in
    let on = count_set has_not_ended s.workers d.w Free (Busy d.k d.k) d.free in
    record {
      falls = rw (d.next, d.answer, length-set s.rows d.k (Taken d.w))
          (claim_falls (length s.rows) _ _ _ _ _ _ d.k (omega arith) (omega arith) (omega arith) lt);
      stays = λ z. let y : Claimed d.k ≡ Waits = sym d.answer ∙ z in cc;
      waits = λ z. absurd (changes_workers s d.w Free (Busy d.k d.k) d.free (λ e. cc) _ (sym d.next ∙ z));
    }
did_moves s e t a (saw d) h =
    let asks = sum_set asks_left s.workers d.w (Busy d.row d.last) (Busy d.row d.j) d.busy in
    let on = count_set has_not_ended s.workers d.w (Busy d.row d.last) (Busy d.row d.j) d.busy in
    let lt = d.earlier in
    let other : Busy d.row d.j ≡ Busy d.row d.last → ⊥ = λ e. let same : d.j ≡ d.last = cc in absurd (omega arith) in
    record {
      falls = rw (d.next, d.answer) (omega arith);
      stays = λ z. let y : Seen d.mark ≡ Waits = sym d.answer ∙ z in cc;
      waits = λ z. absurd (changes_workers s d.w (Busy d.row d.last) (Busy d.row d.j) d.busy other _ (sym d.next ∙ z));
    }
did_moves s e t a (stayed d) h = record {
  falls = rw (d.next, d.answer) (omega arith);
  stays = λ z. d.next;
  waits = λ z. d.answer;
}
did_moves s e t a (marked d) h =
    let mine : slice_get s.rows d.row ≡ Some (Taken d.w) = h.taken d.row d.w d.last d.busy in
    let rows = rw (not_open d.mark d.end) at (count_set is_open s.rows d.row (Taken d.w) d.mark mine) in
    let same : count_by is_open (slice_set s.rows d.row d.mark) ≡ count_by is_open s.rows = omega arith in
    let asks = sum_set asks_left s.workers d.w (Busy d.row d.last) Free d.busy in
    let on = count_set has_not_ended s.workers d.w (Busy d.row d.last) Free d.busy in
    record {
      falls = rw (d.next, d.answer, length-set s.rows d.row d.mark, same) (omega arith);
      stays = λ z. let y : Freed ≡ Waits = sym d.answer ∙ z in cc;
      waits = λ z. absurd (changes_workers s d.w (Busy d.row d.last) Free d.busy (λ e. cc) _ (sym d.next ∙ z));
    }
did_moves s e t a (ended d) h =
    let asks = sum_set asks_left s.workers d.w Free Ended d.free in
    let on = count_set has_not_ended s.workers d.w Free Ended d.free in
    record {
      falls = rw (d.next, d.answer) (omega arith);
      stays = λ z. let y : Gone ≡ Waits = sym d.answer ∙ z in cc;
      waits = λ z. absurd (changes_workers s d.w Free Ended d.free (λ e. cc) _ (sym d.next ∙ z));
    }

changed_once : (a : Answer) → (a ≡ Waits → ⊥) → is_change a ≡ 1
changed_once (Claimed k) h = refl
changed_once (Seen mark) h = refl
changed_once Waits h = absurd (h refl)
changed_once Freed h = refl
changed_once Gone h = refl

-- an event that changes the state lowers the measure
pub each_change_falls : (s : World) → Kept s → EachChangeFalls s
each_change_falls s h e t a is ne =
    let m = did_moves s e t a (step_did s e t a is) h in
    let one : is_change a ≡ 1 = changed_once a (λ z. ne (m.stays z)) in
    let f = m.falls in
    omega arith

-- an event leaves the state as it is exactly where its answer is Waits
pub only_waits_stay : (s : World) → Kept s → OnlyWaitsStay s
only_waits_stay s h e t a is = let m = did_moves s e t a (step_did s e t a is) h in (m.stays, m.waits)

-- the changes of a run, and what may still happen after it
few : (es : List Event) (s t : World) → Runs es s t → Kept s → changes es s + measure t ≤ measure s
few [] s t r h = rw r (omega arith)
few (e ∷ es) s t r h =
    let did = step_did s e r.0 r.1 r.2 in
    let m = (did_moves s e r.0 r.1 did h).falls in
    let rest = few es r.0 t r.3 (did_keeps s e r.0 r.1 did h) in
    rw r.2 (omega arith)

opening_measure : (n w : ℕ) → measure (opening n w) ≡ (n + 2) * n + w
opening_measure n w =
    let rows = sum_by-replicate (λ r. cond (is_open r) 1 0) n Open in
    let asks = sum_by-replicate asks_left w Free in
    let on = sum_by-replicate (λ x. cond (has_not_ended x) 1 0) w Free in
    rw (length-replicate, rows, asks, on) (omega arith)

-- a run has few changes
pub few_changes : FewChanges
few_changes n w es s r =
    let q = few es (opening n w) s r.1 (opening_kept n w r.0) in
    let m = opening_measure n w in
    omega arith
