-- Whom `can_go_on` names: the search for the busy worker with the least row, and that it always ends in one answer.
use Rattle.std.proofs.Common.{◌≡◌, ℕ, zero, suc, ◌+◌, ◌<◌, ◌≤◌, ◌⊎◌, ◌↔◌, List, length, get_or, slice_get, refl, sym}
use Rattle.std.proofs.Common.{◌∙◌, ap, subst, inl, inr, arith, MatchOption}
use Rattle.std.proofs.lemmas.Bool.{cases_lt}
use Rattle.std.proofs.lemmas.Option.{slice_get_within, slice_get-get_or}
use Rattle.std.specs.declared.option.Option.{Option}
use Rattle.std.specs.declared.option.Option.TheVariants.{None, Some}
use Rattle.sp_core.specs.declared.machine.WorkerState.{WorkerState}
use Rattle.sp_core.specs.declared.machine.WorkerState.TheVariants.{Free, Busy, Ended}
use Rattle.sp_core.specs.Law.{IsFirstLeastBusy, NoneBusy, NoneFree, IsLeastFree, AllEnded, GoesOn, first_busy}
use Rattle.sp_core.specs.Law.{first_free}
use Rattle.sp_core.specs.Search.{IsBetter}

-- ---- the best of the first workers

-- The best of the first n workers, with its row.
pub record IsBestOf (workers : List WorkerState) (n w row : ℕ) : Type 0 where
  pub last : ℕ
  pub is_busy : slice_get workers w ≡ Some (Busy row last)
  pub least : (v r l : ℕ) → v < n → slice_get workers v ≡ Some (Busy r l) → row ≤ r
  pub first : (v r l : ℕ) → v < w → slice_get workers v ≡ Some (Busy r l) → row < r

-- None of the first n workers is busy.
abbrev pub NoneBusyOf : List WorkerState → ℕ → Type 0
NoneBusyOf workers n = (v r l : ℕ) → v < n → slice_get workers v ≡ Some (Busy r l) → ⊥

-- What a walk over the first n workers has found: the first with the least row, or that none is busy.
abbrev pub BestSoFar : List WorkerState → ℕ → Option (ℕ × ℕ) → Type 0
BestSoFar workers n None = NoneBusyOf workers n
BestSoFar workers n (Some best) = IsBestOf workers n best.0 best.1

-- the best of all workers
pub best_of_all : (workers : List WorkerState) (w row : ℕ) → IsBestOf workers (length workers) w row
    → IsFirstLeastBusy workers w
best_of_all workers w row h = record {
  least = record {
    row = row;
    last = h.last;
    busy = h.is_busy;
    least = λ v r l at. h.least v r l (slice_get_within workers v (Busy r l) at) at;
  };
  first = λ v lt other.
      let above : row < other.row = h.first v other.row other.last lt other.busy in
      let below : other.row ≤ row = other.least w row h.last h.is_busy in
      omega arith;
}

-- none is busy where none of the first is, and these are all
pub none_of_all : (workers : List WorkerState) → NoneBusyOf workers (length workers) → NoneBusy workers
none_of_all workers h v r l at = h v r l (slice_get_within workers v (Busy r l) at) at

-- ---- one more worker

-- a worker below n + 1 and not below n is worker n
at_last : (workers : List WorkerState) (v n r l : ℕ) → v < n + 1 → n ≤ v → slice_get workers v ≡ Some (Busy r l)
    → slice_get workers n ≡ Some (Busy r l)
at_last workers v n r l lt le at = subst (λ u. slice_get workers u ≡ Some (Busy r l)) (omega arith) at

-- the next worker is not busy
idle_more : (workers : List WorkerState) (n : ℕ) (best : Option (ℕ × ℕ))
    → ((r l : ℕ) → slice_get workers n ≡ Some (Busy r l) → ⊥)
    → BestSoFar workers n best → BestSoFar workers (n + 1) best
idle_more workers n None idle h = λ v r l lt at. elim (cases_lt v n) [
  | inl below ↦ h v r l below at
  | inr above ↦ idle r l (at_last workers v n r l lt above at)
]
idle_more workers n (Some best) idle h = record {
  last = h.last;
  is_busy = h.is_busy;
  least = λ v r l lt at. elim (cases_lt v n) [
    | inl below ↦ h.least v r l below at
    | inr above ↦ absurd (idle r l (at_last workers v n r l lt above at))
  ];
  first = h.first;
}

row_of : (workers : List WorkerState) (v row last r l : ℕ) → slice_get workers v ≡ Some (Busy row last)
    → slice_get workers v ≡ Some (Busy r l) → row ≡ r
row_of workers v row last r l here there = let same : Some (Busy row last) ≡ Some (Busy r l) = sym here ∙ there in cc

-- the next worker is busy with the row, and the result is the better of it and the best so far
busy_more : (workers : List WorkerState) (n row last : ℕ) (best result : Option (ℕ × ℕ))
    → slice_get workers n ≡ Some (Busy row last)
    → IsBetter best n row result → BestSoFar workers n best → BestSoFar workers (n + 1) result
busy_more workers n row last None result here better h = rw better (record {
  last = last;
  is_busy = here;
  least = λ v r l lt at. elim (cases_lt v n) [
    | inl below ↦ absurd (h v r l below at)
    | inr above ↦
        let same : row ≡ r = row_of workers n row last r l here (at_last workers v n r l lt above at) in
        omega arith
  ];
  first = λ v r l lt at. absurd (h v r l lt at);
})
busy_more workers n row last (Some best) result here (inl (stays, le)) h = rw stays (record {
  last = h.last;
  is_busy = h.is_busy;
  least = λ v r l lt at. elim (cases_lt v n) [
    | inl below ↦ h.least v r l below at
    | inr above ↦
        let same : row ≡ r = row_of workers n row last r l here (at_last workers v n r l lt above at) in
        omega arith
  ];
  first = h.first;
})
busy_more workers n row last (Some best) result here (inr (changes, less)) h = rw changes (record {
  last = last;
  is_busy = here;
  least = λ v r l lt at. elim (cases_lt v n) [
    | inl below ↦ let before : best.1 ≤ r = h.least v r l below at in omega arith
    | inr above ↦
        let same : row ≡ r = row_of workers n row last r l here (at_last workers v n r l lt above at) in
        omega arith
  ];
  first = λ v r l lt at. let before : best.1 ≤ r = h.least v r l lt at in omega arith;
})

-- ---- who is named

-- at most one worker
pub one_named : (workers : List WorkerState) (v w : ℕ) → GoesOn workers v → GoesOn workers w → v ≡ w
one_named workers v w (first_busy p) (first_busy q) = elim (cases_lt v w) [
  | inl below ↦ absurd (q.first v below p.least)
  | inr above ↦ elim (cases_lt w v) [ inl below ↦ absurd (p.first w below q.least) | inr same ↦ omega arith ]
]
one_named workers v w (first_busy p) (first_free idle q) = absurd (idle v p.least.row p.least.last p.least.busy)
one_named workers v w (first_free idle p) (first_busy q) = absurd (idle w q.least.row q.least.last q.least.busy)
one_named workers v w (first_free idle p) (first_free _ q) = elim (cases_lt v w) [
  | inl below ↦ absurd (q.least v below p.free)
  | inr above ↦ elim (cases_lt w v) [ inl below ↦ absurd (p.least w below q.free) | inr same ↦ omega arith ]
]

-- and none once all have ended
pub named_or_ended : (workers : List WorkerState) (w : ℕ) → GoesOn workers w → AllEnded workers → ⊥
named_or_ended workers w (first_busy p) ended =
    let lt : w < length workers = slice_get_within workers w (Busy p.least.row p.least.last) p.least.busy in
    let same : Some (Busy p.least.row p.least.last) ≡ Some Ended = sym p.least.busy ∙ ended w lt in
    cc
named_or_ended workers w (first_free idle p) ended =
    let lt : w < length workers = slice_get_within workers w Free p.free in
    let same : Some Free ≡ Some Ended = sym p.free ∙ ended w lt in
    cc

state_of : (workers : List WorkerState) (v : ℕ) → v < length workers
    → (x : WorkerState) × (slice_get workers v ≡ Some x)
state_of workers v lt = (get_or workers v Ended, slice_get-get_or workers v Ended lt)

-- workers of whom none is busy and none is free have ended
pub none_left : (workers : List WorkerState) → NoneBusy workers → NoneFree workers → AllEnded workers
none_left workers idle bound v lt = by_state found.0 found.1
  where
    found : (x : WorkerState) × (slice_get workers v ≡ Some x)
    found = state_of workers v lt

    by_state : (x : WorkerState) → slice_get workers v ≡ Some x → slice_get workers v ≡ Some Ended
    by_state Free at = absurd (bound v at)
    by_state (Busy row last) at = absurd (idle v row last at)
    by_state Ended at = at

-- ---- one is always found

better_of : (best : Option (ℕ × ℕ)) (w row : ℕ) → (result : Option (ℕ × ℕ)) × IsBetter best w row result
better_of None w row = (Some (w, row), refl)
better_of (Some best) w row = elim (cases_lt row best.1) [
  | inl less ↦ (Some (w, row), inr (refl, less))
  | inr le ↦ (Some best, inl (refl, le))
]

best_more : (workers : List WorkerState) (n : ℕ) (best : Option (ℕ × ℕ)) (x : WorkerState)
    → slice_get workers n ≡ Some x
    → BestSoFar workers n best → (next : Option (ℕ × ℕ)) × BestSoFar workers (n + 1) next
best_more workers n best Free at h =
    (best, idle_more workers n best (λ r l b. let both : Some Free ≡ Some (Busy r l) = sym at ∙ b in cc) h)
best_more workers n best Ended at h =
    (best, idle_more workers n best (λ r l b. let both : Some Ended ≡ Some (Busy r l) = sym at ∙ b in cc) h)
best_more workers n best (Busy row last) at h =
    let next = better_of best n row in
    (next.0, busy_more workers n row last best next.0 at next.1 h)

search_busy : (workers : List WorkerState) (n : ℕ) → n ≤ length workers
    → (best : Option (ℕ × ℕ)) × BestSoFar workers n best
search_busy workers zero le = (None, λ v r l lt at. absurd (omega arith))
search_busy workers (suc n) le =
    let before = search_busy workers n (omega arith) in
    let found = state_of workers n (omega arith) in
    let next = best_more workers n before.0 found.0 found.1 before.1 in
    (next.0, subst (λ m. BestSoFar workers m next.0) (omega arith) next.1)

abbrev NoneFreeOf : List WorkerState → ℕ → Type 0
NoneFreeOf workers n = (v : ℕ) → v < n → slice_get workers v ≡ Some Free → ⊥

search_free : (workers : List WorkerState) (n : ℕ) → n ≤ length workers
    → NoneFreeOf workers n ⊎ ((w : ℕ) × IsLeastFree workers w)
search_free workers zero le = inl (λ v lt at. absurd (omega arith))
search_free workers (suc n) le = next (search_free workers n (omega arith))
  where
    found : (x : WorkerState) × (slice_get workers n ≡ Some x)
    found = state_of workers n (omega arith)

    bound_more : NoneFreeOf workers n → (slice_get workers n ≡ Some Free → ⊥) → NoneFreeOf workers (suc n)
    bound_more none here v lt at = elim (cases_lt v n) [
      | inl below ↦ none v below at
      | inr above ↦ here (subst (λ u. slice_get workers u ≡ Some Free) (omega arith) at)
    ]

    next : NoneFreeOf workers n ⊎ ((w : ℕ) × IsLeastFree workers w)
        → NoneFreeOf workers (suc n) ⊎ ((w : ℕ) × IsLeastFree workers w)
    next (inr one) = inr one
    next (inl none) = by_state found.0 found.1
      where
        by_state : (x : WorkerState) → slice_get workers n ≡ Some x
            → NoneFreeOf workers (suc n) ⊎ ((w : ℕ) × IsLeastFree workers w)
        by_state Free at = inr (n, record { free = at; least = none })
        by_state (Busy row last) at =
            inl (bound_more none (λ f. let both : Some (Busy row last) ≡ Some Free = sym at ∙ f in cc))
        by_state Ended at = inl (bound_more none (λ f. let both : Some Ended ≡ Some Free = sym at ∙ f in cc))

-- a worker is named, or all have ended
pub someone_or_ended : (workers : List WorkerState) → ((w : ℕ) × GoesOn workers w) ⊎ AllEnded workers
someone_or_ended workers = by_best best.0 best.1
  where
    best : (best : Option (ℕ × ℕ)) × BestSoFar workers (length workers) best
    best = search_busy workers (length workers) (omega arith)

    by_free : NoneBusy workers → NoneFreeOf workers (length workers) ⊎ ((w : ℕ) × IsLeastFree workers w)
        → ((w : ℕ) × GoesOn workers w) ⊎ AllEnded workers
    by_free idle (inl none) = inr (none_left workers idle (λ v at. none v (slice_get_within workers v Free at) at))
    by_free idle (inr (w, one)) = inl (w, first_free idle one)

    by_best : (best : Option (ℕ × ℕ)) → BestSoFar workers (length workers) best
        → ((w : ℕ) × GoesOn workers w) ⊎ AllEnded workers
    by_best (Some (w, row)) h = inl (w, first_busy (best_of_all workers w row h))
    by_best None h = by_free (none_of_all workers h) (search_free workers (length workers) (omega arith))

-- ---- what the search says of the answer

-- An answer that names exactly the worker that goes on.
pub record Names (workers : List WorkerState) (result : Option ℕ) : Type 0 where
  pub named : (w : ℕ) → (result ≡ Some w) ↔ GoesOn workers w
  pub none : (result ≡ None) ↔ AllEnded workers

named_one : (workers : List WorkerState) (v : ℕ) → GoesOn workers v → Names workers (Some v)
named_one workers v h = record {
  named = λ w. (
    (λ e. let same : v ≡ w = cc in subst (GoesOn workers) same h),
    (λ other. ap (λ u. Some u) (one_named workers v w h other)),
  );
  none = ((λ e. cc), (λ ended. absurd (named_or_ended workers v h ended)));
}

named_none : (workers : List WorkerState) → AllEnded workers → Names workers None
named_none workers ended = record {
  named = λ w. ((λ e. cc), (λ h. absurd (named_or_ended workers w h ended)));
  none = ((λ _. ended), (λ _. refl));
}

-- the first busy worker with the least row is named
pub named_by_busy : (workers : List WorkerState) (w : ℕ) → IsFirstLeastBusy workers w → Names workers (Some w)
named_by_busy workers w h = named_one workers w (first_busy h)

-- where none is busy, the least free one is named, or nobody
pub named_by_free : (workers : List WorkerState) (result : Option ℕ) → NoneBusy workers
    → MatchOption result (NoneFree workers) (IsLeastFree workers) → Names workers result
named_by_free workers None idle none = named_none workers (none_left workers idle none)
named_by_free workers (Some w) idle one = named_one workers w (first_free idle one)
