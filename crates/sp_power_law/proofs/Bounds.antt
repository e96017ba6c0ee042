-- How far the exponent of a move lies from 0, and so the powers that a divided power brings.
use Rattle.std.proofs.Common.{◌≡◌, ℕ, zero, suc, ◌+◌, ◌*◌, ◌≤◌, Bool, true, false, cond, List, [], ◌∷◌, ◌++◌, map}
use Rattle.std.proofs.Common.{filter, flat_map, length}
use Rattle.std.proofs.Common.{refl, sym, ap, subst, arith, append_assoc, length-append, ℤ, pos, ◌+ℤ◌, ◌-ℤ◌}
use Rattle.std.proofs.lemmas.Int.{ints}
use Rattle.std.specs.Int.RustNames.{unsigned_abs}
use Rattle.std.specs.List.{AllByRecursion, range_with_len}
use Rattle.sp_defs.specs.Partition.{part, IsPartitionOf}
use Rattle.sp_defs.specs.Laurent.{power}
use Rattle.sp_defs.specs.Power.{Entries, vector_of, entries, divided_power}
use Rattle.sp_defs.specs.Signature.{Addable, Removable, Mark, row_marks, signature, add_node}
use Rattle.sp_defs.specs.Within.{PowersWithin}
use Rattle.sp_lists.proofs.Elements.{all_append, all_map, all_filter}
use Rattle.sp_algebra.proofs.Sizes.{within_sum, within_times, product_within, sum_near}
use Rattle.sp_shapes.proofs.Degrees.{length-degree}
use Rattle.sp_lists.proofs.Places.{all_weaken}
use Rattle.std.proofs.Math.Seq.{get_or-append_seam}
use Rattle.sp_power_law.specs.Walk.{Reached, moves_through, moves}
use Rattle.sp_power_law.specs.Runs.{is_at, Arrival, arrivals, polynomial_at, share_of}
use Rattle.sp_power_law.proofs.Gains.{addable_at, removable_at, not_both}
use Rattle.sp_power_law.proofs.Rows.{row_marks_are}
use Rattle.sp_power_law.proofs.Exchange.{sum_of_arrivals}

-- ---- on the way down

abbrev Near : ℕ → Reached → Type 0
Near b t = unsigned_abs t.1 ≤ b

-- Each node chosen adds the difference, which is within the marks passed.
pub near_through : (b : ℕ) (marks : List Mark) (m : ℕ) (parts : List ℕ) (d x : ℤ) →
    unsigned_abs d + length marks ≤ b →
    AllByRecursion (Near (unsigned_abs x + m * b)) (moves_through marks m parts d x)
unfolding moves_through
near_through b marks zero parts d x h = (omega arith, tt)
near_through b [] (suc m) parts d x h = tt
near_through b ((Addable, y) ∷ marks) (suc m) parts d x h =
    all_append (Near (unsigned_abs x + suc m * b)) (moves_through marks m (add_node parts y) d (x +ℤ d))
    (moves_through marks (suc m) parts (d +ℤ pos 1) x)
    (all_weaken (Near (unsigned_abs (x +ℤ d) + m * b)) (Near (unsigned_abs x + suc m * b))
    (moves_through marks m (add_node parts y) d (x +ℤ d))
    (λ t g. further (unsigned_abs t.1) m g) (near_through b marks m (add_node parts y) d (x +ℤ d) (omega arith)))
    (near_through b marks (suc m) parts (d +ℤ pos 1) x (omega (arith, one_up d)))
  where
    one_up : (d : ℤ) → unsigned_abs (d +ℤ pos 1) ≤ unsigned_abs d + 1
    one_up d = omega (arith, ints)

    further : (z m : ℕ) → z ≤ unsigned_abs (x +ℤ d) + m * b → z ≤ unsigned_abs x + suc m * b
    further z m g = omega (arith, sum_near x d)
near_through b ((Removable, y) ∷ marks) (suc m) parts d x h =
    near_through b marks (suc m) parts (d -ℤ pos 1) x (omega (arith, one_down d))
  where
    one_down : (d : ℤ) → unsigned_abs (d -ℤ pos 1) ≤ unsigned_abs d + 1
    one_down d = omega (arith, ints)

-- ---- a signature has at most one mark for a row

one_mark : (e i : ℕ) (parts : List ℕ) (r : ℕ) → 2 ≤ e → length (row_marks e i parts r) ≤ 1
one_mark e i parts r he =
    subst (λ l. length l ≤ 1) (sym (row_marks_are e i parts r))
    (by_case (addable_at e i parts r) (removable_at e i parts r) (not_both e i parts r he))
  where
    by_case : (a b : Bool) → (a ≡ true → b ≡ true → ⊥) →
        length {A = Mark}
        (cond b ((Removable, (r, part parts r)) ∷ []) [] ++ cond a ((Addable, (r, part parts r + 1)) ∷ []) []) ≤ 1
    by_case true true f = absurd (f refl refl)
    by_case true false f = omega arith
    by_case false true f = omega arith
    by_case false false f = omega arith

few_marks : (e i : ℕ) (parts : List ℕ) (r n : ℕ) → 2 ≤ e →
    length (flat_map (row_marks e i parts) (range_with_len r n)) ≤ n
few_marks e i parts r zero he = omega arith
few_marks e i parts r (suc n) he =
    omega (
      arith,
      length-append (row_marks e i parts r) (flat_map (row_marks e i parts) (range_with_len (r + 1) n)),
      one_mark e i parts r he,
      few_marks e i parts (r + 1) n he,
    )

-- A signature has at most one mark for each row, and one for the row below the last.
pub length-signature : (e i : ℕ) (parts : List ℕ) → 2 ≤ e → length (signature e i parts) ≤ length parts + 1
unfolding signature
length-signature e i parts he = few_marks e i parts 1 (length parts + 1) he

-- An exponent lies within the number of nodes times one more than the degree.
pub near_moves : (e i m n : ℕ) (parts : List ℕ) → 2 ≤ e → IsPartitionOf n parts →
    AllByRecursion (λ t. unsigned_abs t.1 ≤ m * (n + 1)) (moves e i m parts)
unfolding moves
near_moves e i m n parts he h =
    all_weaken (Near (0 + m * (n + 1))) (Near (m * (n + 1)))
    (moves_through (signature e i parts) m parts (pos 0) (pos 0)) (λ t g. omega arith)
    (near_through (n + 1) (signature e i parts) m parts (pos 0) (pos 0)
    (omega (arith, length-signature e i parts he, length-degree parts h.partition, h.total)))

-- ---- powers

-- Each arrival brings powers within `far` more than those of its entry.
pub near_shares : (e i m n b : ℕ) (front es : Entries) → 2 ≤ e → AllByRecursion (λ s. IsPartitionOf n s.0) es →
    AllByRecursion (λ s. PowersWithin b s.1) es →
    AllByRecursion (λ t. (unsigned_abs t.2 ≤ m * (n + 1)) × PowersWithin b (polynomial_at (front ++ es) t.1))
    (arrivals e i m (length front) es)
unfolding arrivals
near_shares e i m n b front [] he h k = tt
near_shares e i m n b front (s ∷ es) he (h, hs) (k, ks) =
    all_append (λ t. (unsigned_abs t.2 ≤ m * (n + 1)) × PowersWithin b (polynomial_at (front ++ (s ∷ es)) t.1))
    (map (λ t. (t.0, length front, t.1)) (moves e i m s.0)) (arrivals e i m (length front + 1) es)
    (all_map (λ t. (unsigned_abs t.2 ≤ m * (n + 1)) × PowersWithin b (polynomial_at (front ++ (s ∷ es)) t.1))
    (λ t. (t.0, length front, t.1)) (moves e i m s.0)
    (all_weaken (λ t. unsigned_abs t.1 ≤ m * (n + 1))
    (λ t. (unsigned_abs t.1 ≤ m * (n + 1)) × PowersWithin b (polynomial_at (front ++ (s ∷ es)) (length front)))
    (moves e i m s.0)
    (λ t g. (g, subst (λ l. PowersWithin b l) (sym (ap (λ x. x.1) (get_or-append_seam front s es ([], [])))) k))
    (near_moves e i m n s.0 he h)))
    (subst (λ l. AllByRecursion (λ t. (unsigned_abs t.2 ≤ m * (n + 1)) × PowersWithin b (polynomial_at l t.1))
    (arrivals e i m (length front + 1) es)) (append_assoc front (s ∷ []) es)
    (subst (λ j. AllByRecursion
    (λ t. (unsigned_abs t.2 ≤ m * (n + 1)) × PowersWithin b (polynomial_at ((front ++ (s ∷ [])) ++ es) t.1))
    (arrivals e i m j es)) (length-append front (s ∷ []))
    (near_shares e i m n b (front ++ (s ∷ [])) es he hs ks)))

-- What an arrival brings is near where its exponent and the polynomial of its entry are.
pub near_share : (far b : ℕ) (es : Entries) (t : Arrival) → unsigned_abs t.2 ≤ far →
    PowersWithin b (polynomial_at es t.1) → PowersWithin (far + b) (share_of es t)
near_share far b es t h k =
    within_times (far + b) (power t.2) (polynomial_at es t.1)
    (product_within far b (far + b) (power t.2) (polynomial_at es t.1) (omega arith) (h, tt) k)

-- The powers of a divided power are at most m * (n + 1) further than those of the vector.
pub near_power : (e i m n b : ℕ) (es : Entries) (nu : List ℕ) → 2 ≤ e → AllByRecursion (λ s. IsPartitionOf n s.0) es →
    entries n (vector_of es) ≡ es → AllByRecursion (λ s. PowersWithin b s.1) es → IsPartitionOf (n + m) nu →
    PowersWithin (m * (n + 1) + b) (divided_power e i m (vector_of es) nu)
near_power e i m n b es nu he all same near h =
    subst (λ p. PowersWithin (m * (n + 1) + b) p) (sum_of_arrivals e i m he nu h.partition n h.total es all same)
    (within_sum (m * (n + 1) + b) (share_of es) (filter (is_at nu) (arrivals e i m 0 es))
    (all_filter (λ t. PowersWithin (m * (n + 1) + b) (share_of es t)) (is_at nu) (arrivals e i m 0 es)
    (all_weaken (λ t. (unsigned_abs t.2 ≤ m * (n + 1)) × PowersWithin b (polynomial_at es t.1))
    (λ t. is_at nu t ≡ true → PowersWithin (m * (n + 1) + b) (share_of es t)) (arrivals e i m 0 es)
    (λ t g _. near_share (m * (n + 1)) b es t g.0 g.1) (near_shares e i m n b [] es he all near))))
