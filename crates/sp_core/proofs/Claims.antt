-- Rows are claimed in order, so none twice.
use Rattle.std.proofs.Common.{◌≡◌, ◌≢◌, ℕ, zero, suc, ◌+◌, ◌<◌, ◌≤◌, List, [], ◌∷◌, length, slice_get, slice_set}
use Rattle.std.proofs.Common.{slice_index, sym, ◌∙◌, inl, inr, arith, length-set}
use Rattle.std.proofs.lemmas.Bool.{cases_lt}
use Rattle.std.proofs.lemmas.Option.{slice_get_within}
use Rattle.std.specs.declared.option.Option.TheVariants.{Some}
use Rattle.sp_core.specs.declared.machine.RowState.{RowState}
use Rattle.sp_core.specs.declared.machine.RowState.TheVariants.{Open, Taken}
use Rattle.sp_core.specs.declared.machine.WorkerState.{WorkerState}
use Rattle.sp_core.specs.declared.machine.WorkerState.TheVariants.{Busy}
use Rattle.sp_core.specs.declared.machine.Event.{Event}
use Rattle.sp_core.specs.declared.machine.Answer.{Answer}
use Rattle.sp_core.specs.Machine.{World, world, opening, first_open}
use Rattle.sp_core.specs.Law.{Runs, claims, claimed_by, ClaimsRowsInOrder}
use Rattle.sp_core.proofs.Sets.{set_other, set_apart, after_set}
use Rattle.sp_core.proofs.Keeps.{Kept, IsEnd, first_open_is, first_open_least}
use Rattle.sp_core.proofs.Steps.{Did, claimed, saw, stayed, marked, ended, step_did}
use Rattle.sp_core.proofs.Runs.{did_keeps, opening_kept, replicated_at, length-replicate}

-- the rows from i on are the open ones
record IsNext (s : World) (i : ℕ) : Type 0 where
  pub within : i ≤ length s.rows
  pub opened : (j : ℕ) → i ≤ j → j < length s.rows → slice_get s.rows j ≡ Some Open
  pub only : (j : ℕ) → slice_get s.rows j ≡ Some Open → i ≤ j

claim_next : (s : World) (w k i : ℕ) (workers : List WorkerState) → first_open s.rows ≡ Some k → IsNext s i
    → (k ≡ i) × IsNext (world (slice_set s.rows k (Taken w)) workers) (i + 1)
claim_next s w k i workers first h =
    let taken : slice_get s.rows k ≡ Some Open = first_open_is s.rows k first in
    let lt : k < length s.rows = slice_get_within s.rows k Open taken in
    let least : i ≤ k = h.only k taken in
    let here : slice_get s.rows i ≡ Some Open = h.opened i (omega arith) (omega arith) in
    let most : k ≤ i = first_open_least s.rows k i first here in
    let same_length : length (slice_set s.rows k (Taken w)) ≡ length s.rows = length-set s.rows k (Taken w) in (
      omega arith,
      record {
        within = omega arith;
        opened = λ j le below.
            let other : j ≢ k = λ e. absurd (omega arith) in
            set_other s.rows k j (Taken w) other ∙ h.opened j (omega arith) (omega arith);
        only = λ j at. elim (after_set s.rows k j (Taken w) Open at) [
          | inl p ↦ let never : Open ≡ Taken w = p.1 in cc
          | inr p ↦ let from : i ≤ j = h.only j p.1 in elim (cases_lt i j) [
            | inl above ↦ omega arith
            | inr below ↦ absurd (p.0 (omega arith))
          ]
        ];
      },
    )

mark_next : (s : World) (w row last i : ℕ) (mark : RowState) (workers : List WorkerState) → IsEnd mark
    → slice_get s.workers w ≡ Some (Busy row last) → Kept s → IsNext s i
    → IsNext (world (slice_set s.rows row mark) workers) i
mark_next s w row last i mark workers end at kept h =
    let mine : slice_get s.rows row ≡ Some (Taken w) = kept.taken row w last at in
    let same_length : length (slice_set s.rows row mark) ≡ length s.rows = length-set s.rows row mark in
    record {
      within = let q = h.within in omega arith;
      opened = λ j le below.
          set_apart s.rows row j (Taken w) Open mark mine (h.opened j le (omega arith)) (λ e. cc);
      only = λ j at. elim (after_set s.rows row j mark Open at) [
        | inl p ↦ absurd (end.0 (sym p.1))
        | inr p ↦ h.only j p.1
      ];
    }

other_rows : (s : World) (i : ℕ) (workers : List WorkerState) → IsNext s i → IsNext (world s.rows workers) i
other_rows s i workers h = record { within = h.within; opened = h.opened; only = h.only }

-- the k-th of these claims takes row i + k
abbrev CountFrom : ℕ → List ℕ → Type 0
CountFrom i rows = (k : ℕ) → k < length rows → slice_index rows k ≡ i + k

claims_next : (e : Event) (es : List Event) (s u : World) (a : Answer) (i : ℕ) → Did s e u a
    → ((j : ℕ) → IsNext u j → CountFrom j (claims es u)) → Kept s → IsNext s i
    → CountFrom i (claimed_by a (claims es u))
claims_next e es s u a i (claimed d) rest kept h zero lt =
    let q = claim_next s d.w d.k i (slice_set s.workers d.w (Busy d.k d.k)) d.first h in
    rw d.answer (q.0 ∙ omega arith)
claims_next e es s u a i (claimed d) rest kept h (suc k) lt =
    let q = claim_next s d.w d.k i (slice_set s.workers d.w (Busy d.k d.k)) d.first h in
    let below = rw d.answer at lt in
    rw d.answer (rest (i + 1) (rw d.next q.1) k (omega arith) ∙ omega arith)
claims_next e es s u a i (saw d) rest kept h k lt =
    let below = rw d.answer at lt in
    rw d.answer (rest i (rw d.next (other_rows s i _ h)) k below)
claims_next e es s u a i (stayed d) rest kept h k lt =
    let below = rw d.answer at lt in
    rw d.answer (rest i (rw d.next h) k below)
claims_next e es s u a i (marked d) rest kept h k lt =
    let below = rw d.answer at lt in
    let next = mark_next s d.w d.row d.last i d.mark _ d.end d.busy kept h in
    rw d.answer (rest i (rw d.next next) k below)
claims_next e es s u a i (ended d) rest kept h k lt =
    let below = rw d.answer at lt in
    rw d.answer (rest i (rw d.next (other_rows s i _ h)) k below)

-- the claims of a run are the rows from i on
claims_are : (es : List Event) (s t : World) (i : ℕ) → Runs es s t → Kept s → IsNext s i → CountFrom i (claims es s)
claims_are [] s t i r kept h k lt = absurd (omega arith)
claims_are (e ∷ es) s t i r kept h k lt =
    let did = step_did s e r.0 r.1 r.2 in
    let later = λ (j : ℕ) (next : IsNext r.0 j). claims_are es r.0 t j r.3 (did_keeps s e r.0 r.1 did kept) next in
    let lt' = rw r.2 at lt in
    rw r.2 (claims_next e es s r.0 r.1 i did later kept h k lt')

opening_next : (n w : ℕ) → IsNext (opening n w) 0
opening_next n w = record {
  within = omega arith;
  opened = λ j le lt. replicated_at n j Open (rw length-replicate at lt);
  only = λ j at. omega arith;
}

-- the claims of a run take the rows in their order
pub claims_in_order : ClaimsRowsInOrder
claims_in_order n w es s r k lt =
    claims_are es (opening n w) s 0 r.1 (opening_kept n w r.0) (opening_next n w) k lt ∙ omega arith
