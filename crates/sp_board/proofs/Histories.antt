-- Histories that can be replayed: each row is claimed once, and ended at most once.
use Rattle.std.proofs.Common.{◌≡◌, ℕ, zero, suc, ◌+◌, ◌<◌, ◌⊎◌, Bool, true, false, cond, List, [], ◌∷◌, length}
use Rattle.std.proofs.Common.{slice_get, slice_set, take, nat_lt, refl, sym, ◌∙◌, ap, subst, inl, inr, arith}
use Rattle.std.proofs.Common.{if◌then◌else◌}
use Rattle.std.specs.List.{count_by}
use Rattle.std.proofs.lemmas.Option.{same_Some}
use Rattle.std.proofs.lemmas.List.Sums.{sum_by-cons}
use Rattle.std.proofs.lemmas.Bool.{eqb-true}
use Rattle.std.specs.declared.option.Option.{Option}
use Rattle.std.specs.declared.option.Option.TheVariants.{None, Some}
use Rattle.sp_core.specs.declared.machine.RowState.{RowState}
use Rattle.sp_core.specs.declared.machine.RowState.TheVariants.{Open, Taken, Done, Lost}
use Rattle.sp_core.proofs.Sets.{after_set}
use Rattle.sp_board.specs.declared.stored.Stored.{Stored}
use Rattle.sp_board.specs.declared.stored.Stored.TheVariants.{Claim, Publish, Lose}
use Rattle.sp_board.specs.History.{Marks, marks, blank, replayed, then_replay, replay, is_taken_by}
use Rattle.sp_board.specs.Law.{is_claim, ClaimsRow, IsEndOf, EndsRow, EachIsClaimedOnce, OthersAreAbsent}
use Rattle.sp_core.proofs.Runs.{replicated}

-- ---- one entry, replayed

record ClaimsNext (m : Marks) (e : Stored) (q : Marks) : Type 0 where
  pub w : ℕ
  pub entry : e ≡ Claim w
  pub next : q ≡ marks (slice_set m.rows m.next (Taken w)) (m.next + 1)

record EndsOne (m : Marks) (e : Stored) (q : Marks) : Type 0 where
  pub w : ℕ
  pub k : ℕ
  pub mark : RowState
  pub entry : is_claim e ≡ false
  pub row : (j : ℕ) → IsEndOf e j → k ≡ j
  pub taken : slice_get m.rows k ≡ Some (Taken w)
  pub left : (v : ℕ) → Taken v ≡ mark → ⊥
  pub next : q ≡ marks (slice_set m.rows k mark) m.next

abbrev Does : Marks → Stored → Marks → Type 0
Does m e q = ClaimsNext m e q ⊎ EndsOne m e q

passed : (b : Bool) (x q : Marks) → (if b then Some x else None) ≡ Some q → (b ≡ true) × (q ≡ x)
passed true x q h = (refl, sym (same_Some x q h))
passed false x q h = cc

taken_is : (w : ℕ) (o : Option RowState) → is_taken_by w o ≡ true → o ≡ Some (Taken w)
taken_is w (Some (Taken v)) h = ap (λ (u : ℕ). Some (Taken u)) (eqb-true v w h)
taken_is w (Some Open) h = cc
taken_is w (Some Done) h = cc
taken_is w (Some Lost) h = cc
taken_is w None h = cc

does : (m : Marks) (e : Stored) (q : Marks) → replayed m e ≡ Some q → Does m e q
does m (Claim w) q h = inl (record { w = w; entry = refl; next = (passed (nat_lt m.next (length m.rows)) _ q h).1 })
does m (Publish w k) q h =
    let p = passed (is_taken_by w (slice_get m.rows k)) _ q h in
    inr (record {
      w = w;
      k = k;
      mark = Done;
      entry = refl;
      row = λ j e. e;
      taken = taken_is w (slice_get m.rows k) p.0;
      left = λ v e. cc;
      next = p.1;
    })
does m (Lose w k) q h =
    let p = passed (is_taken_by w (slice_get m.rows k)) _ q h in
    inr (record {
      w = w;
      k = k;
      mark = Lost;
      entry = refl;
      row = λ j e. e;
      taken = taken_is w (slice_get m.rows k) p.0;
      left = λ v e. cc;
      next = p.1;
    })

-- the first entry of a replay, and the others
record Splits (m : Marks) (e : Stored) (es : List Stored) (o : Marks) : Type 0 where
  pub mid : Marks
  pub one : Does m e mid
  pub rest : replay es mid ≡ Some o

splits : (m : Marks) (e : Stored) (es : List Stored) (o : Marks) → replay (e ∷ es) m ≡ Some o → Splits m e es o
splits m e es o h = split (replayed m e) (does m e) h
  where
    split : (r : Option Marks) → ((q : Marks) → r ≡ Some q → Does m e q) → then_replay r (replay es) ≡ Some o
        → Splits m e es o
    split None one h = cc
    split (Some q) one h = record { mid = q; one = one q refl; rest = h }

-- an entry that ends row k finds it taken
end_finds : (m : Marks) (e : Stored) (q : Marks) (k : ℕ) → Does m e q → IsEndOf e k
    → (w : ℕ) × (slice_get m.rows k ≡ Some (Taken w))
end_finds m e q k (inl d) ends = absurd (subst (λ x. IsEndOf x k) d.entry ends)
end_finds m e q k (inr d) ends = (d.w, subst (λ j. slice_get m.rows j ≡ Some (Taken d.w)) (d.row k ends) d.taken)

counts_one : (m : Marks) (e : Stored) (q : Marks) → Does m e q → q.next ≡ m.next + cond (is_claim e) 1 0
counts_one m e q (inl d) = rw (d.next, d.entry) refl
counts_one m e q (inr d) = rw (d.next, d.entry) (omega arith)

-- ---- the rows behind the next one

abbrev TakenAreBehind : Marks → Type 0
TakenAreBehind m = (k w : ℕ) → slice_get m.rows k ≡ Some (Taken w) → k < m.next

-- row k was claimed, and nobody has it any more
abbrev IsPast : Marks → ℕ → Type 0
IsPast m k = (k < m.next) × ((w : ℕ) → slice_get m.rows k ≡ Some (Taken w) → ⊥)

opening_behind : (n : ℕ) → TakenAreBehind (blank n)
opening_behind n k w at = let z : Taken w ≡ Open = replicated n k Open (Taken w) at in cc

stays_behind : (m : Marks) (e : Stored) (q : Marks) → Does m e q → TakenAreBehind m → TakenAreBehind q
stays_behind m e q (inl d) h = subst TakenAreBehind (sym d.next) claimed
  where
    claimed : TakenAreBehind (marks (slice_set m.rows m.next (Taken d.w)) (m.next + 1))
    claimed k v at = elim (after_set m.rows m.next k (Taken d.w) (Taken v) at) [
      | inl p ↦ omega (arith, p.0)
      | inr p ↦ omega (arith, h k v p.1)
    ]
stays_behind m e q (inr d) h = subst TakenAreBehind (sym d.next) ended
  where
    ended : TakenAreBehind (marks (slice_set m.rows d.k d.mark) m.next)
    ended k v at = elim (after_set m.rows d.k k d.mark (Taken v) at) [
      | inl p ↦ absurd (d.left v p.1)
      | inr p ↦ h k v p.1
    ]

stays_past : (m : Marks) (e : Stored) (q : Marks) (k : ℕ) → Does m e q → IsPast m k → IsPast q k
stays_past m e q k (inl d) h = subst (λ r. IsPast r k) (sym d.next) (omega (arith, h.0), nobody)
  where
    nobody : (v : ℕ) → slice_get (slice_set m.rows m.next (Taken d.w)) k ≡ Some (Taken v) → ⊥
    nobody v at = elim (after_set m.rows m.next k (Taken d.w) (Taken v) at) [
      | inl p ↦ omega (arith, h.0, p.0)
      | inr p ↦ h.1 v p.1
    ]
stays_past m e q k (inr d) h = subst (λ r. IsPast r k) (sym d.next) (h.0, nobody)
  where
    nobody : (v : ℕ) → slice_get (slice_set m.rows d.k d.mark) k ≡ Some (Taken v) → ⊥
    nobody v at = elim (after_set m.rows d.k k d.mark (Taken v) at) [
      | inl p ↦ d.left v p.1
      | inr p ↦ h.1 v p.1
    ]

-- once it is ended, a row is past
end_is_past : (m : Marks) (e : Stored) (q : Marks) (k : ℕ) → Does m e q → IsEndOf e k → TakenAreBehind m → IsPast q k
end_is_past m e q k (inl d) ends h = absurd (subst (λ x. IsEndOf x k) d.entry ends)
end_is_past m e q k (inr d) ends h = subst (λ r. IsPast r k) (sym d.next) (behind, nobody)
  where
    same : d.k ≡ k
    same = d.row k ends

    behind : k < m.next
    behind = subst (λ j. j < m.next) same (h d.k d.w d.taken)

    nobody : (v : ℕ) → slice_get (slice_set m.rows d.k d.mark) k ≡ Some (Taken v) → ⊥
    nobody v at = elim (after_set m.rows d.k k d.mark (Taken v) at) [
      | inl p ↦ d.left v p.1
      | inr p ↦ p.0 (sym same)
    ]

-- ---- ends

-- a row that is past is not ended again
never_again : (es : List Stored) (m o : Marks) (k j : ℕ) → replay es m ≡ Some o → IsPast m k → EndsRow es j k → ⊥
never_again [] m o k j h past ends = cc
never_again (x ∷ xs) m o k zero h past ends =
    let is : x ≡ ends.0 = same_Some x ends.0 ends.1 in
    let here : IsEndOf x k = subst (λ e. IsEndOf e k) (sym is) ends.2 in
    let s = splits m x xs o h in
    let found = end_finds m x s.mid k s.one here in
    past.1 found.0 found.1
never_again (x ∷ xs) m o k (suc j) h past ends =
    let s = splits m x xs o h in
    never_again xs s.mid o k j s.rest (stays_past m x s.mid k s.one past) ends

-- the end at the front is the only one
front_end : (x : Stored) (xs : List Stored) (m o : Marks) (k j : ℕ) → replay (x ∷ xs) m ≡ Some o → TakenAreBehind m
    → EndsRow (x ∷ xs) zero k → EndsRow xs j k → ⊥
front_end x xs m o k j h behind front later =
    let is : x ≡ front.0 = same_Some x front.0 front.1 in
    let here : IsEndOf x k = subst (λ e. IsEndOf e k) (sym is) front.2 in
    let s = splits m x xs o h in
    never_again xs s.mid o k j s.rest (end_is_past m x s.mid k s.one here behind) later

one_end : (es : List Stored) (m o : Marks) (k i j : ℕ) → replay es m ≡ Some o → TakenAreBehind m → EndsRow es i k
    → EndsRow es j k → i ≡ j
one_end [] m o k i j h behind one two = cc
one_end (x ∷ xs) m o k zero zero h behind one two = refl
one_end (x ∷ xs) m o k zero (suc j) h behind one two = absurd (front_end x xs m o k j h behind one two)
one_end (x ∷ xs) m o k (suc i) zero h behind one two = absurd (front_end x xs m o k i h behind two one)
one_end (x ∷ xs) m o k (suc i) (suc j) h behind one two =
    let s = splits m x xs o h in
    ap suc (one_end xs s.mid o k i j s.rest (stays_behind m x s.mid s.one behind) one two)

-- ---- claims

claims_cons : (x : Stored) (xs : List Stored)
    → count_by is_claim (x ∷ xs) ≡ cond (is_claim x) 1 0 + count_by is_claim xs
claims_cons x xs = sum_by-cons (λ e. cond (is_claim e) 1 0) x xs

-- a claim past the front, among the other entries
record InTail (x : Stored) (xs : List Stored) (i k : ℕ) : Type 0 where
  pub before : ℕ
  pub count : k ≡ cond (is_claim x) 1 0 + before
  pub claim : ClaimsRow xs i before

in_tail : (x : Stored) (xs : List Stored) (i k : ℕ) → ClaimsRow (x ∷ xs) (suc i) k → InTail x xs i k
in_tail x xs i k c = record {
  before = count_by is_claim (take i xs);
  count = sym c.before ∙ claims_cons x (take i xs);
  claim = record { worker = c.worker; here = c.here; before = refl };
}

front_is_claim : (x : Stored) (xs : List Stored) (k : ℕ) → ClaimsRow (x ∷ xs) zero k → is_claim x ≡ true
front_is_claim x xs k c = ap is_claim (same_Some x (Claim c.worker) c.here)

claim_of_row : (es : List Stored) (k : ℕ) → k < count_by is_claim es → (i : ℕ) × ClaimsRow es i k
claim_of_row [] k lt = absurd (omega (arith, lt))
claim_of_row (Claim w ∷ es) zero lt = (zero, record { worker = w; here = refl; before = refl })
claim_of_row (Claim w ∷ es) (suc k) lt =
    let c = claim_of_row es k (omega (arith, lt, claims_cons (Claim w) es)) in
    let before = claims_cons (Claim w) (take c.0 es) in
    (suc c.0, record { worker = c.1.worker; here = c.1.here; before = omega (arith, before, c.1.before) })
claim_of_row (Publish w j ∷ es) k lt =
    let c = claim_of_row es k (omega (arith, lt, claims_cons (Publish w j) es)) in
    let before = claims_cons (Publish w j) (take c.0 es) in
    (suc c.0, record { worker = c.1.worker; here = c.1.here; before = omega (arith, before, c.1.before) })
claim_of_row (Lose w j ∷ es) k lt =
    let c = claim_of_row es k (omega (arith, lt, claims_cons (Lose w j) es)) in
    let before = claims_cons (Lose w j) (take c.0 es) in
    (suc c.0, record { worker = c.1.worker; here = c.1.here; before = omega (arith, before, c.1.before) })

-- a claim at the front is of row 0, and no later one is
front_claim : (x : Stored) (xs : List Stored) (i k : ℕ) → ClaimsRow (x ∷ xs) zero k → ClaimsRow (x ∷ xs) (suc i) k → ⊥
front_claim x xs i k front later =
    let t = in_tail x xs i k later in
    let count : k ≡ 1 + t.before = rw (front_is_claim x xs k front) at t.count in
    let none : 0 ≡ k = front.before in
    omega (arith, count, none)

one_claim : (es : List Stored) (i j k : ℕ) → ClaimsRow es i k → ClaimsRow es j k → i ≡ j
one_claim [] i j k one two = let z = one.here in cc
one_claim (x ∷ xs) zero zero k one two = refl
one_claim (x ∷ xs) zero (suc j) k one two = absurd (front_claim x xs j k one two)
one_claim (x ∷ xs) (suc i) zero k one two = absurd (front_claim x xs i k two one)
one_claim (x ∷ xs) (suc i) (suc j) k one two =
    let s = in_tail x xs i k one in
    let t = in_tail x xs j k two in
    let same : t.before ≡ s.before = omega (arith, s.count, t.count) in
    ap suc (one_claim xs i j s.before s.claim (subst (ClaimsRow xs j) same t.claim))

claim_within : (es : List Stored) (i k : ℕ) → ClaimsRow es i k → k < count_by is_claim es
claim_within [] i k c = let z = c.here in cc
claim_within (x ∷ xs) zero k c =
    let none : 0 ≡ k = c.before in
    let count : count_by is_claim (x ∷ xs) ≡ 1 + count_by is_claim xs =
    claims_cons x xs ∙ ap (λ (b : Bool). cond b 1 0 + count_by is_claim xs) (front_is_claim x xs k c) in
    omega (arith, none, count)
claim_within (x ∷ xs) (suc i) k c =
    let t = in_tail x xs i k c in
    omega (arith, t.count, claims_cons x xs, claim_within xs i t.before t.claim)

next_counts : (es : List Stored) (m o : Marks) → replay es m ≡ Some o → o.next ≡ m.next + count_by is_claim es
next_counts [] m o h = let same : m ≡ o = same_Some m o h in rw same (omega arith)
next_counts (x ∷ xs) m o h =
    let s = splits m x xs o h in
    omega (arith, claims_cons x xs, counts_one m x s.mid s.one, next_counts xs s.mid o s.rest)

-- ---- a claim and its end

-- the claim of a row comes before its end
claim_first : (es : List Stored) (m o : Marks) (i j k l : ℕ) → replay es m ≡ Some o → TakenAreBehind m
    → k ≡ m.next + l → ClaimsRow es i l → EndsRow es j k → i < j
claim_first [] m o i j k l h behind at claim ends = let z = claim.here in cc
claim_first (x ∷ xs) m o i zero k l h behind at claim ends =
    let is : x ≡ ends.0 = same_Some x ends.0 ends.1 in
    let s = splits m x xs o h in
    let found = end_finds m x s.mid k s.one (subst (λ e. IsEndOf e k) (sym is) ends.2) in
    let early : k < m.next = behind k found.0 found.1 in
    absurd (omega (arith, early, at))
claim_first (x ∷ xs) m o zero (suc j) k l h behind at claim ends = omega arith
claim_first (x ∷ xs) m o (suc i) (suc j) k l h behind at claim ends =
    let s = splits m x xs o h in
    let t = in_tail x xs i l claim in
    let at' : k ≡ s.mid.next + t.before = omega (arith, at, t.count, counts_one m x s.mid s.one) in
    let behind' : TakenAreBehind s.mid = stays_behind m x s.mid s.one behind in
    let lt : i < j = claim_first xs s.mid o i j k t.before s.rest behind' at' t.claim ends in
    omega (arith, lt)

-- a row that is ended was claimed
end_within : (es : List Stored) (m o : Marks) (j k : ℕ) → replay es m ≡ Some o → TakenAreBehind m → EndsRow es j k
    → k < o.next
end_within [] m o j k h behind ends = let z = ends.1 in cc
end_within (x ∷ xs) m o zero k h behind ends =
    let is : x ≡ ends.0 = same_Some x ends.0 ends.1 in
    let s = splits m x xs o h in
    let found = end_finds m x s.mid k s.one (subst (λ e. IsEndOf e k) (sym is) ends.2) in
    let early : k < m.next = behind k found.0 found.1 in
    omega (arith, early, next_counts (x ∷ xs) m o h)
end_within (x ∷ xs) m o (suc j) k h behind ends =
    let s = splits m x xs o h in
    end_within xs s.mid o j k s.rest (stays_behind m x s.mid s.one behind) ends

-- ---- the law

-- Each row below the next one is claimed once, and ended at most once, after the claim.
pub each_is_claimed_once : EachIsClaimedOnce
each_is_claimed_once rows history m h k lt = record {
  place = claim.0;
  claim = claim.1;
  only = λ i other. one_claim history i claim.0 k other claim.1;
  after = λ i ends. claim_first history (blank rows) m claim.0 i k k h behind (omega arith) claim.1 ends;
  ends = λ i j one two. one_end history (blank rows) m k i j h behind one two;
}
  where
    behind : TakenAreBehind (blank rows)
    behind = opening_behind rows

    claim : (i : ℕ) × ClaimsRow history i k
    claim = claim_of_row history k (omega (arith, lt, next_counts history (blank rows) m h))

-- No other row is in a history.
pub others_are_absent : OthersAreAbsent
others_are_absent rows history m h k i (inl claim) =
    omega (arith, claim_within history i k claim, next_counts history (blank rows) m h)
others_are_absent rows history m h k i (inr ends) =
    end_within history (blank rows) m i k h (opening_behind rows) ends
