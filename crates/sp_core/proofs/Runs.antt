-- What holds at the opening and after each event holds throughout.
use Rattle.std.proofs.Common.{◌≡◌, ℕ, zero, suc, ◌<◌, List, [], ◌∷◌, length, replicate, slice_get, refl, ap, arith}
use Rattle.std.specs.declared.option.Option.TheVariants.{Some}
use Rattle.sp_core.specs.declared.machine.RowState.TheVariants.{Open, Taken}
use Rattle.sp_core.specs.declared.machine.WorkerState.TheVariants.{Free, Busy, Ended}
use Rattle.sp_core.specs.declared.machine.Event.{Event}
use Rattle.sp_core.specs.declared.machine.Answer.{Answer}
use Rattle.sp_core.specs.Machine.{World, opening}
use Rattle.sp_core.specs.Law.{Runs, HoldsThroughout, IsShared}
use Rattle.sp_core.proofs.Keeps.{Kept, claim_keeps, mark_keeps, ask_keeps, end_keeps, no_open}
use Rattle.sp_core.proofs.Steps.{Did, claimed, saw, stayed, marked, ended, step_did}

-- an event keeps what is kept
pub did_keeps : (s : World) (e : Event) (t : World) (a : Answer) → Did s e t a → Kept s → Kept t
did_keeps s e t a (claimed d) h = rw d.next (claim_keeps s d.w d.k d.free d.first h)
did_keeps s e t a (saw d) h = rw d.next (ask_keeps s d.w d.row d.last d.j d.earlier d.busy h)
did_keeps s e t a (stayed d) h = rw d.next h
did_keeps s e t a (marked d) h = rw d.next (mark_keeps s d.w d.row d.last d.mark d.end d.busy h)
did_keeps s e t a (ended d) h = rw d.next (end_keeps s d.w d.free (no_open s.rows d.none) h)

-- each element of a replicated list is the one element
pub replicated : {X : Type 0} → (n i : ℕ) (x y : X) → slice_get (replicate n x) i ≡ Some y → y ≡ x
replicated zero i x y h = cc
replicated (suc n) zero x y h = cc
replicated (suc n) (suc i) x y h = replicated n i x y h

-- an element of a replicated list is there, and is the one element
pub replicated_at : {X : Type 0} → (n i : ℕ) (x : X) → i < n → slice_get (replicate n x) i ≡ Some x
replicated_at zero i x h = absurd (omega arith)
replicated_at (suc n) zero x h = refl
replicated_at (suc n) (suc i) x h = replicated_at n i x (omega arith)

-- how long a replicated list is
pub length-replicate : {X : Type 0} → (n : ℕ) (x : X) → length (replicate n x) ≡ n
length-replicate zero x = refl
length-replicate (suc n) x = ap suc (length-replicate n x)

-- it is kept at the opening
pub opening_kept : (n w : ℕ) → 0 < w → Kept (opening n w)
opening_kept n w some = record {
  held = λ k v at. let z : Taken v ≡ Open = replicated n k Open (Taken v) at in cc;
  taken = λ k v l at. let z : Busy k l ≡ Free = replicated w v Free (Busy k l) at in cc;
  below = λ k v l at. let z : Busy k l ≡ Free = replicated w v Free (Busy k l) at in cc;
  late = λ j k le lt at. replicated_at n k Open (rw length-replicate at lt);
  done = λ v k at op. let z : Ended ≡ Free = replicated w v Free Ended at in cc;
  staffed = rw length-replicate some;
}

-- a run keeps it
pub run_keeps : (es : List Event) (s t : World) → Runs es s t → Kept s → Kept t
run_keeps [] s t r h = rw r h
run_keeps (e ∷ es) s t r h = run_keeps es r.0 t r.3 (did_keeps s e r.0 r.1 (step_did s e r.0 r.1 r.2) h)

-- what a kept world gives holds throughout
pub throughout : (P : World → Type 0) → ((s : World) → Kept s → P s) → HoldsThroughout P
throughout P f n w es s r = f s (run_keeps es (opening n w) s r.1 (opening_kept n w r.0))

-- ---- what follows at once

-- what is kept says that rows are shared
pub shared : (s : World) → Kept s → IsShared s
shared s h = record { taken = λ k w. (h.held k w, λ b. h.taken k w b.0 b.1); within = h.below }
