-- What one more entry does to a run.
use Rattle.std.proofs.Common.{◌≡◌, ◌≢◌, ℕ, ◌+◌, ◌*◌, ◌<◌, ◌≤◌, ◌++◌, true, false, cond, List, [], ◌∷◌}
use Rattle.std.proofs.Common.{length, get_or, slice_get, slice_set, nat_lt, refl, ◌∙◌, ap, subst, inl, inr}
use Rattle.std.proofs.Common.{arith, length-set, length-append, eq-eqb}
use Rattle.std.specs.List.{count_by, position_or_len}
use Rattle.std.proofs.lemmas.List.Sums.{sum_by-set, count_by-le-length, position_or_len_is}
use Rattle.std.proofs.lemmas.Option.{same_Some, slice_get_within, get_or_from_slice_get, slice_get-get_or}
use Rattle.std.proofs.lemmas.Bool.Decides.{nat_tests}
use Rattle.std.proofs.lemmas.Bool.{cases_eq}
use Rattle.std.specs.declared.option.Option.TheVariants.{None, Some}
use Rattle.sp_core.specs.declared.machine.RowState.{RowState}
use Rattle.sp_core.specs.declared.machine.RowState.TheVariants.{Open, Taken, Done, Lost}
use Rattle.sp_core.specs.declared.machine.WorkerState.TheVariants.{Free, Busy}
use Rattle.sp_core.specs.declared.machine.Event.TheVariants as event
use Rattle.sp_core.specs.declared.machine.Answer.{Answer}
use Rattle.sp_core.specs.declared.machine.Answer.TheVariants.{Claimed, Freed}
use Rattle.sp_core.specs.Machine.{World, world, opening, step_of, mark_of, first_open, is_open}
use Rattle.sp_core.proofs.Sets.{set_same, set_other, set_apart, after_set}
use Rattle.sp_board.specs.declared.stored.Stored.{Stored}
use Rattle.sp_board.specs.declared.stored.Stored.TheVariants.{Claim, Publish, Lose}
use Rattle.sp_board.specs.History.{Marks, marks, blank, replayed, then_replay, replay, event_of, RunsAs, is_taken_by}
use Rattle.sp_board.specs.Kept.{is_settled, IsRun}

-- ---- the end of a history

replay_snoc : (es : List Stored) (m n o : Marks) (e : Stored) → replay es m ≡ Some n → replayed n e ≡ Some o
    → replay (es ++ e ∷ []) m ≡ Some o
replay_snoc [] m n o e h last = let same : m ≡ n = same_Some m n h in rw (same, last) refl
replay_snoc (x ∷ xs) m n o e h last =
    elim (replayed m x) as (λ r. then_replay r (replay xs) ≡ Some n → then_replay r (replay (xs ++ e ∷ [])) ≡ Some o) [
      | None ↦ λ g. cc
      | Some q ↦ λ g. replay_snoc xs q n o e g last
    ] h

runs_snoc : (es : List Stored) (s t u : World) (a : Answer) (e : Stored) → RunsAs es s t
    → step_of t (event_of e) ≡ Some (u, a) → RunsAs (es ++ e ∷ []) s u
runs_snoc [] s t u a e h last = (u, a, subst (λ r. step_of r (event_of e) ≡ Some (u, a)) h last, refl)
runs_snoc (x ∷ xs) s t u a e h last = (h.0, h.1, h.2, runs_snoc xs h.0 t u a e h.3 last)

-- ---- one row changes

-- the number of settled rows after a write
settled_after : (rows : List RowState) (k : ℕ) (old mark : RowState) → slice_get rows k ≡ Some old
    → count_by is_settled (slice_set rows k mark) + cond (is_settled old) 1 0
    ≡ count_by is_settled rows + cond (is_settled mark) 1 0
settled_after rows k old mark at =
    let lt : k < length rows = slice_get_within rows k old at in
    let is : get_or rows k old ≡ old = get_or_from_slice_get rows k old old at in
    rw is at (sum_by-set (λ r. cond (is_settled r) 1 0) rows k mark old lt)

not_open : (r : RowState) → (r ≡ Open → ⊥) → is_open r ≡ false
not_open Open h = absurd (h refl)
not_open (Taken w) h = refl
not_open Done h = refl
not_open Lost h = refl

-- the next row is the least open one
next_first : (rows : List RowState) (next : ℕ) → slice_get rows next ≡ Some Open
    → ((j : ℕ) → slice_get rows j ≡ Some Open → next ≤ j) → first_open rows ≡ Some next
next_first rows next here only = rw (is, within) refl
  where
    lt : next < length rows
    lt = slice_get_within rows next Open here

    before : (k : ℕ) → k < next → get_or rows k Open ≡ Open → ⊥
    before k below open_row =
        let at : slice_get rows k ≡ Some Open =
        slice_get-get_or rows k Open (omega (arith, below, lt)) ∙ ap (λ (r : RowState). Some r) open_row in
        let late : next ≤ k = only k at in
        omega (arith, below, late)

    is : position_or_len is_open rows ≡ next
    is = position_or_len_is is_open rows next Open (omega (arith, lt))
        (λ k below. not_open (get_or rows k Open) (before k below))
        (λ _. ap is_open (get_or_from_slice_get rows next Open Open here))

    within : nat_lt next (length rows) ≡ true
    within = grind (arith, nat_tests, lt)

claim_step : (s : World) (w k : ℕ) → slice_get s.workers w ≡ Some Free → first_open s.rows ≡ Some k
    → step_of s (event.Claim w)
    ≡ Some (world (slice_set s.rows k (Taken w)) (slice_set s.workers w (Busy k k)), Claimed k)
claim_step s w k free first = rw (free, first) refl

mark_step : (s : World) (w row last : ℕ) (mark : RowState) → slice_get s.workers w ≡ Some (Busy row last)
    → mark_of s w mark (slice_get s.workers w)
    ≡ Some (world (slice_set s.rows row mark) (slice_set s.workers w Free), Freed)
mark_step s w row last mark busy = rw busy refl

-- ---- a run with one more entry

-- The longer history is a run, and the new entry is a step of the core machine.
pub record Extends (workers next : ℕ) (rows : List RowState) (history : List Stored) (e : Stored) (next' : ℕ)
    (rows' : List RowState) : Type 0 where
  pub longer : IsRun workers next' rows' (history ++ e ∷ [])
  pub before : World
  pub after : World
  pub answer : Answer
  pub was : RunsAs history (opening (length rows) workers) before
  pub step : step_of before (event_of e) ≡ Some (after, answer)
  pub is : RunsAs (history ++ e ∷ []) (opening (length rows) workers) after

-- A worker that has taken no row claims the next one.
pub claim_extends : (workers next : ℕ) (rows : List RowState) (history : List Stored) (w : ℕ)
    → IsRun workers next rows history → next < length rows → w < workers
    → ((k : ℕ) → slice_get rows k ≡ Some (Taken w) → ⊥)
    → Extends workers next rows history (Claim w) (next + 1) (slice_set rows next (Taken w))
claim_extends workers next rows history w h lt staff idle = record {
  longer = record {
    replays = rw same_length (replay_snoc history (blank (length rows)) (marks rows next) (marks rows' (next + 1))
        (Claim w) h.replays replays_one);
    world = after;
    runs = rw same_length is;
    same = ap (λ rs. slice_set rs next (Taken w)) h.same;
    free = free_after;
    busy = busy_after;
    within = omega (arith, lt, same_length);
    opened = opened_after;
    only = only_after;
    count = omega (arith, count, settled, h.count);
  };
  before = h.world;
  after = after;
  answer = Claimed next;
  was = h.runs;
  step = step;
  is = is;
}
  where
    rows' : List RowState
    rows' = slice_set rows next (Taken w)

    here : slice_get rows next ≡ Some Open
    here = h.opened next (omega arith) lt

    free : slice_get h.world.workers w ≡ Some Free
    free = h.free w staff idle

    after : World
    after = world (slice_set h.world.rows next (Taken w)) (slice_set h.world.workers w (Busy next next))

    step : step_of h.world (event.Claim w) ≡ Some (after, Claimed next)
    step = claim_step h.world w next free (rw h.same (next_first rows next here h.only))

    is : RunsAs (history ++ Claim w ∷ []) (opening (length rows) workers) after
    is = runs_snoc history (opening (length rows) workers) h.world after (Claimed next) (Claim w) h.runs step

    same_length : length rows' ≡ length rows
    same_length = length-set rows next (Taken w)

    within : nat_lt next (length rows) ≡ true
    within = grind (arith, nat_tests, lt)

    replays_one : replayed (marks rows next) (Claim w) ≡ Some (marks rows' (next + 1))
    replays_one = rw within refl

    count : length (history ++ Claim w ∷ []) ≡ length history + 1
    count = length-append history (Claim w ∷ [])

    settled : count_by is_settled rows' + 0 ≡ count_by is_settled rows + 0
    settled = settled_after rows next Open (Taken w) here

    free_after : (v : ℕ) → v < workers → ((k : ℕ) → slice_get rows' k ≡ Some (Taken v) → ⊥)
        → slice_get after.workers v ≡ Some Free
    free_after v below none =
        let other : v ≢ w = λ e. none next (rw e (set_same rows next Open (Taken w) here)) in
        set_other h.world.workers w v (Busy next next) other
        ∙ h.free v below (λ k at. none k (set_apart rows next k Open (Taken v) (Taken w) here at (λ e. cc)))

    busy_after : (k v : ℕ) → slice_get rows' k ≡ Some (Taken v) → slice_get after.workers v ≡ Some (Busy k k)
    busy_after k v at = elim (after_set rows next k (Taken w) (Taken v) at) [
      | inl p ↦ let e : v ≡ w = cc in rw (e, p.0) (set_same h.world.workers w Free (Busy next next) free)
      | inr p ↦
          let other : v ≢ w = λ e. idle k (subst (λ u. slice_get rows k ≡ Some (Taken u)) e p.1) in
          set_other h.world.workers w v (Busy next next) other ∙ h.busy k v p.1
    ]

    opened_after : (j : ℕ) → next + 1 ≤ j → j < length rows' → slice_get rows' j ≡ Some Open
    opened_after j le below =
        let other : j ≢ next = λ e. absurd (omega (arith, e, le)) in
        set_other rows next j (Taken w) other ∙ h.opened j (omega (arith, le)) (omega (arith, below, same_length))

    only_after : (j : ℕ) → slice_get rows' j ≡ Some Open → next + 1 ≤ j
    only_after j at = elim (after_set rows next j (Taken w) Open at) [
      | inl p ↦ let z : Open ≡ Taken w = p.1 in cc
      | inr p ↦ let late : next ≤ j = h.only j p.1 in let other : j ≢ next = p.0 in omega (arith, late, other)
    ]

-- The row of a claim ends with this mark.
pub end_extends : (workers next : ℕ) (rows : List RowState) (history : List Stored) (w k : ℕ) (mark : RowState)
    (e : Stored) → is_settled mark ≡ true
    → ((s : World) → step_of s (event_of e) ≡ mark_of s w mark (slice_get s.workers w))
    → replayed (marks rows next) e ≡ Some (marks (slice_set rows k mark) next)
    → IsRun workers next rows history → slice_get rows k ≡ Some (Taken w)
    → Extends workers next rows history e next (slice_set rows k mark)
end_extends workers next rows history w k mark e ends does replays_one h mine = record {
  longer = record {
    replays = rw same_length (replay_snoc history (blank (length rows)) (marks rows next) (marks rows' next) e h.replays
        replays_one);
    world = after;
    runs = rw same_length is;
    same = ap (λ rs. slice_set rs k mark) h.same;
    free = free_after;
    busy = busy_after;
    within = omega (arith, h.within, same_length);
    opened = opened_after;
    only = only_after;
    count = omega (arith, count, settled, h.count);
  };
  before = h.world;
  after = after;
  answer = Freed;
  was = h.runs;
  step = step;
  is = is;
}
  where
    rows' : List RowState
    rows' = slice_set rows k mark

    busy : slice_get h.world.workers w ≡ Some (Busy k k)
    busy = h.busy k w mine

    after : World
    after = world (slice_set h.world.rows k mark) (slice_set h.world.workers w Free)

    step : step_of h.world (event_of e) ≡ Some (after, Freed)
    step = does h.world ∙ mark_step h.world w k k mark busy

    is : RunsAs (history ++ e ∷ []) (opening (length rows) workers) after
    is = runs_snoc history (opening (length rows) workers) h.world after Freed e h.runs step

    same_length : length rows' ≡ length rows
    same_length = length-set rows k mark

    count : length (history ++ e ∷ []) ≡ length history + 1
    count = length-append history (e ∷ [])

    settled : count_by is_settled rows' + 0 ≡ count_by is_settled rows + 1
    settled = rw ends at (settled_after rows k (Taken w) mark mine)

    not_open_mark : (Open ≡ mark) → ⊥
    not_open_mark same = let z : is_settled Open ≡ true = ap is_settled same ∙ ends in cc

    not_taken_mark : (v : ℕ) → (Taken v ≡ mark) → ⊥
    not_taken_mark v same = let z : is_settled (Taken v) ≡ true = ap is_settled same ∙ ends in cc

    free_after : (v : ℕ) → v < workers → ((j : ℕ) → slice_get rows' j ≡ Some (Taken v) → ⊥)
        → slice_get after.workers v ≡ Some Free
    free_after v below none = elim (cases_eq v w) [
      | inl same ↦ rw same (set_same h.world.workers w (Busy k k) Free busy)
      | inr other ↦
          let had : (j : ℕ) → slice_get rows j ≡ Some (Taken v) → ⊥ = λ j at.
          none j (set_apart rows k j (Taken w) (Taken v) mark mine at (λ q. let y : v ≡ w = cc in other y)) in
          set_other h.world.workers w v Free other ∙ h.free v below had
    ]

    busy_after : (j v : ℕ) → slice_get rows' j ≡ Some (Taken v) → slice_get after.workers v ≡ Some (Busy j j)
    busy_after j v at = elim (after_set rows k j mark (Taken v) at) [
      | inl p ↦ absurd (not_taken_mark v p.1)
      | inr p ↦ set_apart h.world.workers w v (Busy k k) (Busy j j) Free busy (h.busy j v p.1)
          (λ q. let y : j ≡ k = cc in p.0 y)
    ]

    opened_after : (j : ℕ) → next ≤ j → j < length rows' → slice_get rows' j ≡ Some Open
    opened_after j le below =
        set_apart rows k j (Taken w) Open mark mine (h.opened j le (omega (arith, below, same_length))) (λ q. cc)

    only_after : (j : ℕ) → slice_get rows' j ≡ Some Open → next ≤ j
    only_after j at = elim (after_set rows k j mark Open at) [
      | inl p ↦ absurd (not_open_mark p.1)
      | inr p ↦ h.only j p.1
    ]

replayed_by : (rows : List RowState) (w k : ℕ) → slice_get rows k ≡ Some (Taken w)
    → is_taken_by w (slice_get rows k) ≡ true
replayed_by rows w k mine = rw mine (eq-eqb w w refl)

-- The worker publishes its row.
pub publish_extends : (workers next : ℕ) (rows : List RowState) (history : List Stored) (w k : ℕ)
    → IsRun workers next rows history → slice_get rows k ≡ Some (Taken w)
    → Extends workers next rows history (Publish w k) next (slice_set rows k Done)
publish_extends workers next rows history w k h mine =
    end_extends workers next rows history w k Done (Publish w k) refl (λ s. refl)
    (rw (replayed_by rows w k mine) refl) h mine

-- The worker loses its row.
pub lose_extends : (workers next : ℕ) (rows : List RowState) (history : List Stored) (w k : ℕ)
    → IsRun workers next rows history → slice_get rows k ≡ Some (Taken w)
    → Extends workers next rows history (Lose w k) next (slice_set rows k Lost)
lose_extends workers next rows history w k h mine =
    end_extends workers next rows history w k Lost (Lose w k) refl (λ s. refl)
    (rw (replayed_by rows w k mine) refl) h mine

-- ---- room for one more entry

-- While a row is left to claim there is room for a claim.
pub room_to_claim : (workers next room : ℕ) (rows : List RowState) (history : List Stored)
    → IsRun workers next rows history → next < length rows → 2 * length rows ≤ room → length history < room
room_to_claim workers next room rows history h lt reserved =
    omega (arith, h.count, count_by-le-length is_settled rows, lt, reserved)

-- While a row is taken there is room for its end.
pub room_to_end : (workers next room : ℕ) (rows : List RowState) (history : List Stored) (w k : ℕ)
    → IsRun workers next rows history → slice_get rows k ≡ Some (Taken w) → 2 * length rows ≤ room
    → length history < room
room_to_end workers next room rows history w k h mine reserved =
    let settled : count_by is_settled (slice_set rows k Done) + 0 ≡ count_by is_settled rows + 1 =
    settled_after rows k (Taken w) Done mine in
    omega (
      arith,
      h.count,
      h.within,
      count_by-le-length is_settled (slice_set rows k Done),
      length-set rows k Done,
      settled,
      reserved,
    )
