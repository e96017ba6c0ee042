-- Who waits, waits for an earlier row, so the busy worker with the least row never waits.
use Rattle.std.proofs.Common.{◌≡◌, ◌≢◌, ℕ, ◌<◌, ◌≤◌, List, length, get_or, slice_get, refl, sym, ◌∙◌, ap, inl, inr}
use Rattle.std.proofs.Common.{arith}
use Rattle.std.proofs.lemmas.Option.{slice_get_within, slice_get-get_or}
use Rattle.std.specs.declared.option.Option.TheVariants.{Some}
use Rattle.sp_core.specs.declared.machine.RowState.{RowState}
use Rattle.sp_core.specs.declared.machine.RowState.TheVariants.{Open, Taken, Done, Lost}
use Rattle.sp_core.specs.declared.machine.WorkerState.TheVariants.{Busy}
use Rattle.sp_core.specs.declared.machine.Event.{Event}
use Rattle.sp_core.specs.declared.machine.Event.TheVariants.{Claim, Ask, Publish, Lose, End}
use Rattle.sp_core.specs.declared.machine.Answer.{Answer}
use Rattle.sp_core.specs.declared.machine.Answer.TheVariants.{Seen, Waits, Freed, Gone}
use Rattle.sp_core.specs.Machine.{World}
use Rattle.sp_core.specs.Law.{IsForEarlier, WaitsAreForEarlier, IsLeastBusy, LeastNeverWaits}
use Rattle.sp_core.proofs.Keeps.{Kept}
use Rattle.sp_core.proofs.Steps.{Did, claimed, saw, stayed, marked, ended, step_did}

some_row : (rows : List RowState) (j : ℕ) → j < length rows → (r : RowState) × (slice_get rows j ≡ Some r)
some_row rows j lt = (get_or rows j Open, slice_get-get_or rows j Open lt)

waits_for : (s : World) (e : Event) (w j : ℕ) (t : World) (a : Answer) → Did s e t a → e ≡ Ask w j → a ≡ Waits → Kept s
    → IsForEarlier s w j
waits_for s e w j t a (claimed d) is waits h = let never : Claim d.w ≡ Ask w j = sym d.event ∙ is in cc
waits_for s e w j t a (saw d) is waits h = let never : Seen d.mark ≡ Waits = sym d.answer ∙ waits in cc
waits_for s e w j t a (marked d) is waits h = let never : Freed ≡ Waits = sym d.answer ∙ waits in cc
waits_for s e w j t a (ended d) is waits h = let never : Gone ≡ Waits = sym d.answer ∙ waits in cc
waits_for s e w j t a (stayed d) is waits h = by_row found.0 found.1
  where
    asked : Ask d.w d.j ≡ Ask w j
    asked = sym d.event ∙ is

    worker : d.w ≡ w
    worker = cc asked

    row : d.j ≡ j
    row = cc asked

    at : slice_get s.workers w ≡ Some (Busy d.row d.last)
    at = rw (← worker) d.busy

    mine : slice_get s.rows d.row ≡ Some (Taken w)
    mine = h.taken d.row w d.last at

    lt : j < d.row
    lt = let within : d.last ≤ d.row = h.below d.row w d.last at in let asks = d.earlier in omega (arith, row)

    inside : d.row < length s.rows
    inside = slice_get_within s.rows d.row (Taken w) mine

    found : (r : RowState) × (slice_get s.rows j ≡ Some r)
    found = some_row s.rows j (omega (arith, lt, inside))

    another : (v : ℕ) → slice_get s.rows j ≡ Some (Taken v) → v ≢ w
    another v taken same =
        let q = h.held j v taken in
        let both : Some (Busy j q.0) ≡ Some (Busy d.row d.last) = sym q.1 ∙ (ap (slice_get s.workers) same ∙ at) in
        let one_row : j ≡ d.row = cc in
        absurd (omega (arith, lt))

    by_row : (r : RowState) → slice_get s.rows j ≡ Some r → IsForEarlier s w j
    by_row Open here =
        let both : Some Open ≡ Some (Taken w) = sym (h.late j d.row (omega (arith, lt)) inside here) ∙ mine in
        cc
    by_row (Taken v) here = record {
      row = d.row;
      last = d.last;
      other = v;
      busy = at;
      earlier = lt;
      taken = here;
      another = another v here;
    }
    by_row Done here = absurd (d.not_done (rw row here))
    by_row Lost here = absurd (d.not_lost (rw row here))

-- who waits, waits for an earlier row
pub waits : (s : World) → Kept s → WaitsAreForEarlier s
waits s h w j t is = waits_for s (Ask w j) w j t Waits (step_did s (Ask w j) t Waits is) refl refl h

least_for : (s : World) (e : Event) (w j : ℕ) (t : World) (a : Answer) → Did s e t a → e ≡ Ask w j
    → IsLeastBusy s.workers w → Kept s → (mark : RowState) × (a ≡ Seen mark)
least_for s e w j t a (claimed d) is least h = let never : Claim d.w ≡ Ask w j = sym d.event ∙ is in cc
least_for s e w j t a (saw d) is least h = (d.mark, d.answer)
least_for s e w j t a (marked d) is least h = elim d.event [
  | inl p ↦ let never : Publish d.w ≡ Ask w j = sym p ∙ is in cc
  | inr p ↦ let never : Lose d.w ≡ Ask w j = sym p ∙ is in cc
]
least_for s e w j t a (ended d) is least h = let never : End d.w ≡ Ask w j = sym d.event ∙ is in cc
least_for s e w j t a (stayed d) is least h =
    let q = waits_for s e w j t a (stayed d) is d.answer h in
    let other = h.held j q.other q.taken in
    let le : least.row ≤ j = least.least q.other j other.0 other.1 in
    let both : Some (Busy q.row q.last) ≡ Some (Busy least.row least.last) = sym q.busy ∙ least.busy in
    let one_row : q.row ≡ least.row = cc in
    let lt = q.earlier in
    absurd (omega arith)

-- the busy worker with the least row never waits
pub least_never_waits : (s : World) → Kept s → LeastNeverWaits s
least_never_waits s h w j t a l is = least_for s (Ask w j) w j t a (step_did s (Ask w j) t a is) refl l h
