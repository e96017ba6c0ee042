-- Whom `can_go_on` names can move, and where all have ended each row is settled.
use Rattle.std.proofs.Common.{◌≡◌, ◌≢◌, ℕ, ◌<◌, ◌⊎◌, List, length, get_or, slice_get, slice_set, refl, sym, ◌∙◌, ap}
use Rattle.std.proofs.Common.{ap₂, inl, inr}
use Rattle.std.proofs.lemmas.Option.{same_Some, slice_get_within, slice_get-get_or}
use Rattle.std.specs.declared.option.Option.{Option}
use Rattle.std.specs.declared.option.Option.TheVariants.{None, Some}
use Rattle.sp_core.specs.declared.machine.RowState.{RowState}
use Rattle.sp_core.specs.declared.machine.RowState.TheVariants.{Open, Taken, Done, Lost}
use Rattle.sp_core.specs.declared.machine.WorkerState.{WorkerState}
use Rattle.sp_core.specs.declared.machine.WorkerState.TheVariants.{Free, Busy, Ended}
use Rattle.sp_core.specs.declared.machine.Event.TheVariants.{Claim, Publish, End}
use Rattle.sp_core.specs.declared.machine.Answer.TheVariants.{Claimed, Freed, Gone}
use Rattle.sp_core.specs.Machine.{World, world, claim_of, end_of, first_open}
use Rattle.sp_core.specs.Law.{IsLeastBusy, IsLeastFree, AllEnded, first_busy, first_free, CanMove, NamedCanMove}
use Rattle.sp_core.specs.Law.{NamesUnlessEnded, EndsSettled}
use Rattle.sp_core.proofs.Workers.{someone_or_ended, named_or_ended}
use Rattle.sp_core.proofs.Sets.{set_same}
use Rattle.sp_core.proofs.Keeps.{Kept}

no_row_taken : (s : World) → AllEnded s.workers → Kept s → (k v : ℕ) → slice_get s.rows k ≡ Some (Taken v) → ⊥
no_row_taken s all h k v at =
    let q = h.held k v at in
    let lt : v < length s.workers = slice_get_within s.workers v (Busy k q.0) q.1 in
    let both : Some (Busy k q.0) ≡ Some Ended = sym q.1 ∙ all v lt in
    cc

-- each row is done or lost once all workers have ended
pub ends_settled : (s : World) → Kept s → EndsSettled s
ends_settled s h all k lt = by_row (get_or s.rows k Open) (slice_get-get_or s.rows k Open lt)
  where
    by_row : (r : RowState) → slice_get s.rows k ≡ Some r
        → (slice_get s.rows k ≡ Some Done) ⊎ (slice_get s.rows k ≡ Some Lost)
    by_row Open at = absurd (h.done 0 k (all 0 h.staffed) at)
    by_row (Taken v) at = absurd (no_row_taken s all h k v at)
    by_row Done at = inl at
    by_row Lost at = inr at

-- a write of another state for a worker changes the world
pub changes_workers : (s : World) (w : ℕ) (x y : WorkerState) → slice_get s.workers w ≡ Some x → (y ≡ x → ⊥)
    → (rows : List RowState) → world rows (slice_set s.workers w y) ≢ s
changes_workers s w x y here ne rows e =
    let there : slice_get (slice_set s.workers w y) w ≡ Some y = set_same s.workers w x y here in
    let both : Some y ≡ Some x = sym there ∙ (ap (λ (t : World). slice_get t.workers w) e ∙ here) in
    ne (same_Some y x both)

busy_can : (s : World) (w : ℕ) → IsLeastBusy s.workers w → CanMove s w
busy_can s w b = record {
  event = Publish w;
  next = world (slice_set s.rows b.row Done) (slice_set s.workers w Free);
  answer = Freed;
  own = refl;
  allowed = rw b.busy refl;
  changes = changes_workers s w (Busy b.row b.last) Free b.busy (λ e. cc) (slice_set s.rows b.row Done);
}

free_can : (s : World) (w : ℕ) (q : Option ℕ) → first_open s.rows ≡ q → IsLeastFree s.workers w → CanMove s w
free_can s w (Some k) first f = record {
  event = Claim w;
  next = world (slice_set s.rows k (Taken w)) (slice_set s.workers w (Busy k k));
  answer = Claimed k;
  own = refl;
  allowed = ap₂ (claim_of s w) f.free first;
  changes = changes_workers s w Free (Busy k k) f.free (λ e. cc) (slice_set s.rows k (Taken w));
}
free_can s w None none f = record {
  event = End w;
  next = world s.rows (slice_set s.workers w Ended);
  answer = Gone;
  own = refl;
  allowed = ap₂ (end_of s w) f.free none;
  changes = changes_workers s w Free Ended f.free (λ e. cc) s.rows;
}

-- who is named can move
pub named_can_move : (s : World) → Kept s → NamedCanMove s
named_can_move s h w (first_busy b) = busy_can s w b.least
named_can_move s h w (first_free idle f) = free_can s w (first_open s.rows) refl f

-- a worker is named, or all have ended, and never both
pub names_unless_ended : (s : World) → Kept s → NamesUnlessEnded s
names_unless_ended s h = record { either = someone_or_ended s.workers; not_both = named_or_ended s.workers }
