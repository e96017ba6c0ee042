-- The addable minus the removable i-nodes above a row, as a sum over the rows that needs no look at their neighbours.
use Rattle.std.proofs.Common.{◌≡◌, ◌≢◌, ℕ, zero, suc, ◌+◌, ◌-◌, ◌<◌, ◌≤◌, Bool, true, false, cond, ◌&&◌, nat_eq, nat_lt}
use Rattle.std.proofs.Common.{List, [], ◌∷◌, length, refl, sym, ◌∙◌, ap, ap₂, subst, arith, slice_index, count_by, ◌⊎◌}
use Rattle.std.proofs.Common.{inl, inr, ℤ, pos, ◌+ℤ◌, ◌-ℤ◌, lt-ltb}
use Rattle.std.proofs.lemmas.Int.{ints}
use Rattle.std.proofs.lemmas.Bool.{false_from_ne_true}
use Rattle.std.proofs.lemmas.Bool.Decides.{nat_tests}
use Rattle.std.proofs.Math.Bool.{and-true}
use Rattle.std.specs.List.{AllByRecursion}
use Rattle.sp_defs.specs.Partition.{part, from_one_to, IsPartition}
use Rattle.sp_defs.specs.Node.{Node, residue, nodes, is_addable, is_removable, addable, removable, row_ends}
use Rattle.sp_defs.specs.Power.{above}
use Rattle.sp_lists.proofs.Counts.{count-cons, count-alike}
use Rattle.sp_lists.proofs.Elements.{le_or_lt, all_filter, all_map, range_all}
use Rattle.sp_lists.proofs.Places.{all_weaken}
use Rattle.sp_shapes.proofs.Corners.{row_addable, addable_row, row_removable, removable_row}
use Rattle.sp_shapes.proofs.Diagram.{nodes_all}
use Rattle.sp_shapes.proofs.Regular.{index_short}
use Rattle.sp_power_law.proofs.Gains.{addable_at, removable_at, addable_facts, gain_near}
use Rattle.sp_power_law.proofs.Rows.{above_addable-next, above_removable-next, above_addable-first}
use Rattle.sp_power_law.proofs.Rows.{above_removable-first}
use Rattle.sp_sl2_law.specs.Restriction.{below}
use Rattle.sp_sl2_law.specs.Balanced.{corner_difference}
use Rattle.sp_sl2_law.proofs.Neighbours.{diagonal}

-- 1 where a test is passed, and 0 else.
abbrev pub one_if : Bool → ℤ
one_if b = pos (cond b 1 0)

-- The addable minus the removable i-nodes above row r.
abbrev pub lean : ℕ → ℕ → List ℕ → ℕ → ℤ
lean e i parts r = pos (above e i r (addable parts)) -ℤ pos (above e i r (removable parts))

-- What a row of this length adds to the sum: 1 if the place after it has residue i, -1 if its last node has.
abbrev pub turn : ℕ → ℕ → ℕ → ℕ → ℤ
turn e i r p = one_if (nat_eq (residue e (r, p + 1)) i) -ℤ one_if (nat_eq (residue e (r, p)) i)

-- The sum over the first k rows.
unfoldable pub tilt : ℕ → ℕ → List ℕ → ℕ → ℤ
tilt e i parts zero = pos 0
tilt e i parts (suc k) = tilt e i parts k +ℤ turn e i (suc k) (part parts (suc k))

-- ---- where two partitions differ in one row at most

-- Partitions with the same first k rows have the same sum.
pub tilt-alike : (e i : ℕ) (x y : List ℕ) (k : ℕ) → ((r : ℕ) → 1 ≤ r → r ≤ k → part x r ≡ part y r) →
    tilt e i x k ≡ tilt e i y k
unfolding tilt
tilt-alike e i x y zero same = refl
tilt-alike e i x y (suc k) same =
    ap₂ (λ a p. a +ℤ turn e i (suc k) p) (tilt-alike e i x y k (λ r lo hi. same r lo (omega arith)))
    (same (suc k) (omega arith) (omega arith))

-- Where row r alone differs, the sums differ by what that row adds.
pub tilt-change : (e i : ℕ) (x y : List ℕ) (r k : ℕ) → 1 ≤ r → r ≤ k →
    ((s : ℕ) → 1 ≤ s → s ≢ r → part x s ≡ part y s) →
    tilt e i x k +ℤ turn e i r (part y r) ≡ tilt e i y k +ℤ turn e i r (part x r)
unfolding tilt
tilt-change e i x y r zero lo hi same = absurd (omega arith)
tilt-change e i x y r (suc k) lo hi same = settle (le_or_lt r k) (tilt-change e i x y r k)
  where
    settle : (r ≤ k) ⊎ (k < r) → (1 ≤ r → r ≤ k → ((s : ℕ) → 1 ≤ s → s ≢ r → part x s ≡ part y s) →
        tilt e i x k +ℤ turn e i r (part y r) ≡ tilt e i y k +ℤ turn e i r (part x r)) →
        (tilt e i x k +ℤ turn e i (suc k) (part x (suc k))) +ℤ turn e i r (part y r) ≡
        (tilt e i y k +ℤ turn e i (suc k) (part y (suc k))) +ℤ turn e i r (part x r)
    settle (inl le) rest =
        swapped (tilt e i x k) (tilt e i y k) (turn e i r (part y r)) (turn e i r (part x r))
        (turn e i (suc k) (part x (suc k))) (turn e i (suc k) (part y (suc k))) (rest lo le same)
        (ap (turn e i (suc k)) (same (suc k) (omega arith) (λ e. omega arith)))
      where
        swapped : (a b c d t u : ℤ) → a +ℤ c ≡ b +ℤ d → t ≡ u → (a +ℤ t) +ℤ c ≡ (b +ℤ u) +ℤ d
        swapped a b c d t u h k = omega (arith, ints)
    settle (inr gt) rest =
        let last : suc k ≡ r = omega arith in
        subst (λ n. (tilt e i x k +ℤ turn e i (suc k) (part x (suc k))) +ℤ turn e i n (part y n) ≡
        (tilt e i y k +ℤ turn e i (suc k) (part y (suc k))) +ℤ turn e i n (part x n)) last
        (swapped (tilt e i x k) (tilt e i y k) (turn e i (suc k) (part x (suc k))) (turn e i (suc k) (part y (suc k)))
        (tilt-alike e i x y k (λ s l h. same s l (λ e. omega arith))))
      where
        swapped : (a b t u : ℤ) → a ≡ b → (a +ℤ t) +ℤ u ≡ (b +ℤ u) +ℤ t
        swapped a b t u h = omega (arith, ints)

-- ---- the count above a row

-- The place after a row counts above the next row: as an addable node, or else with the last node of the row above.
corner_step : (e i : ℕ) (parts : List ℕ) (r : ℕ) → 2 ≤ e → 1 ≤ r → IsPartition parts →
    (one_if (nat_eq (residue e (r, part parts r)) i) -ℤ one_if (removable_at e i parts r)) +ℤ one_if
    (addable_at e i parts (r + 1)) ≡ one_if (nat_eq (residue e (r + 1, part parts (r + 1) + 1)) i)
corner_step e i parts r he hr pp = settle (le_or_lt (part parts r) (part parts (r + 1)))
  where
    cancelled : (a b : Bool) → (one_if a -ℤ one_if (true && a)) +ℤ one_if (true && b) ≡ one_if b
    cancelled a b = omega (arith, ints)

    carried : (a b : Bool) → a ≡ b → (one_if a -ℤ one_if (false && a)) +ℤ one_if (false && b) ≡ one_if b
    carried a b h = omega (arith, ints, ap one_if h)

    settle : (part parts r ≤ part parts (r + 1)) ⊎ (part parts (r + 1) < part parts r) →
        (one_if (nat_eq (residue e (r, part parts r)) i) -ℤ one_if (removable_at e i parts r)) +ℤ one_if
        (addable_at e i parts (r + 1)) ≡ one_if (nat_eq (residue e (r + 1, part parts (r + 1) + 1)) i)
    settle (inr less) =
        ap₂ (λ b c. (one_if (nat_eq (residue e (r, part parts r)) i) -ℤ one_if
        (b && nat_eq (residue e (r, part parts r)) i)) +ℤ one_if
        (c && nat_eq (residue e (r + 1, part parts (r + 1) + 1)) i))
        (row_removable parts r hr less) (row_addable parts (r + 1) (omega arith) (λ more. above_it))
        ∙ cancelled (nat_eq (residue e (r, part parts r)) i) (nat_eq (residue e (r + 1, part parts (r + 1) + 1)) i)
      where
        above_it : part parts (r + 1) < part parts (r + 1 - 1)
        above_it = let back : r ≡ r + 1 - 1 = omega arith in subst (λ n. part parts (r + 1) < part parts n) back less
    settle (inl le) =
        ap₂ (λ b c. (one_if (nat_eq (residue e (r, part parts r)) i) -ℤ one_if
        (b && nat_eq (residue e (r, part parts r)) i)) +ℤ one_if
        (c && nat_eq (residue e (r + 1, part parts (r + 1) + 1)) i))
        (false_from_ne_true (is_removable parts (r, part parts r))
        (λ h. let c : part parts (r + 1) < part parts r = removable_row parts r h in omega arith))
        (false_from_ne_true (is_addable parts (r + 1, part parts (r + 1) + 1))
        (λ h. let c : part parts (r + 1) < part parts (r + 1 - 1) = addable_row parts (r + 1) h (omega arith) in
        let back : r + 1 - 1 ≡ r = omega arith in
        let d : part parts (r + 1) < part parts r = subst (λ n. part parts
        (r + 1) < part parts n) back c in omega arith))
        ∙ carried (nat_eq (residue e (r, part parts r)) i) (nat_eq (residue e (r + 1, part parts (r + 1) + 1)) i)
        (ap (λ n. nat_eq n i) (sym (diagonal e r (part parts r) he)
        ∙ ap (λ p. residue e (r + 1, p + 1)) level))
      where
        descends : part parts (r + 1) ≤ part parts r
        descends = subst (λ n. slice_index parts n ≤ slice_index parts (r - 1)) back (pp.descending (r - 1))
          where
            back : r - 1 + 1 ≡ r + 1 - 1
            back = omega arith

        level : part parts r ≡ part parts (r + 1)
        level = omega (arith, descends)

-- Above row r, and with the node that this row can gain, the difference is the sum over the rows above, and 1 where the
-- place after row r has the residue.
pub lean_is : (e i : ℕ) (parts : List ℕ) → 2 ≤ e → IsPartition parts → (k r : ℕ) → r ≡ k + 1 →
    lean e i parts r +ℤ one_if (addable_at e i parts r) ≡ tilt e i parts k +ℤ one_if
    (nat_eq (residue e (r, part parts r + 1)) i)
unfolding tilt
lean_is e i parts he pp zero r is =
    subst (λ n. lean e i parts n +ℤ one_if (addable_at e i parts n) ≡ pos 0 +ℤ one_if
    (nat_eq (residue e (n, part parts n + 1)) i)) (sym is)
    (ap₂ (λ a b. (pos a -ℤ pos b) +ℤ one_if (addable_at e i parts 1)) (above_addable-first e i parts)
    (above_removable-first e i parts)
    ∙ ap (λ b. (pos 0 -ℤ pos 0) +ℤ one_if (b && nat_eq (residue e (1, part parts 1 + 1)) i))
    (row_addable parts 1 (omega arith) (λ more. absurd (omega arith)))
    ∙ none (nat_eq (residue e (1, part parts 1 + 1)) i))
  where
    none : (b : Bool) → (pos 0 -ℤ pos 0) +ℤ one_if (true && b) ≡ pos 0 +ℤ one_if b
    none b = omega (arith, ints)
lean_is e i parts he pp (suc k) r is =
    subst (λ n. lean e i parts n +ℤ one_if (addable_at e i parts n) ≡
    (tilt e i parts k +ℤ turn e i (suc k) (part parts (suc k))) +ℤ one_if (nat_eq (residue e (n, part parts n + 1)) i))
    (sym is)
    (next (above e i (suc k) (addable parts)) (above e i (suc k) (removable parts)) _ _ (addable_at e i parts (suc k))
    (removable_at e i parts (suc k)) (tilt e i parts k)
    (one_if (nat_eq (residue e (suc k, part parts (suc k) + 1)) i))
    (one_if (nat_eq (residue e (suc k, part parts (suc k))) i)) (one_if (addable_at e i parts (suc k + 1)))
    (one_if (nat_eq (residue e (suc k + 1, part parts (suc k + 1) + 1)) i))
    (above_addable-next e i parts (suc k) (omega arith)) (above_removable-next e i parts (suc k) (omega arith))
    (lean_is e i parts he pp k (suc k) (omega arith)) (corner_step e i parts (suc k) he (omega arith) pp))
  where
    next : (m n m' n' : ℕ) (a b : Bool) (t p q c d : ℤ) → m' ≡ m + cond a 1 0 → n' ≡ n + cond b 1 0 →
        (pos m -ℤ pos n) +ℤ one_if a ≡ t +ℤ p → (q -ℤ one_if b) +ℤ c ≡ d →
        (pos m' -ℤ pos n') +ℤ c ≡ (t +ℤ (p -ℤ q)) +ℤ d
    next m n m' n' a b t p q c d h k l s = omega (arith, ints)

-- Above a row that can gain an i-node, the difference is the sum over the rows above.
pub lean_gains : (e i : ℕ) (parts : List ℕ) (r : ℕ) → 2 ≤ e → 1 ≤ r → IsPartition parts →
    addable_at e i parts r ≡ true → lean e i parts r ≡ tilt e i parts (r - 1)
lean_gains e i parts r he hr pp can =
    cancel (lean e i parts r) (tilt e i parts (r - 1)) (addable_at e i parts r)
    (nat_eq (residue e (r, part parts r + 1)) i) can
    (ap (λ n. nat_eq n i) (addable_facts e i parts r can).residue_is ∙ same i)
    (lean_is e i parts he pp (r - 1) r (omega arith))
  where
    same : (i : ℕ) → nat_eq i i ≡ true
    same i = grind (arith, nat_tests)

    cancel : (x y : ℤ) (a b : Bool) → a ≡ true → b ≡ true → x +ℤ one_if a ≡ y +ℤ one_if b → x ≡ y
    cancel x y a b ha hb h = omega (arith, ints, ap one_if ha, ap one_if hb)

-- ---- the whole count

one_side : (n r : ℕ) (q : Bool) →
    cond q 1 0 ≡ cond (q && nat_lt n (r + 1)) 1 0 + cond (q && nat_lt r n) 1 0
one_side n r true = grind (arith, nat_tests)
one_side n r false = refl

-- The i-nodes of a list are those above the next row and those below this one.
pub above_below : (e i r : ℕ) (xs : List Node) →
    count_by (λ x. nat_eq (residue e x) i) xs ≡ above e i (r + 1) xs + below e i r xs
above_below e i r [] = refl
above_below e i r (x ∷ xs) =
    omega (
      arith,
      count-cons (λ x. nat_eq (residue e x) i) x xs,
      count-cons (λ x. nat_eq (residue e x) i && nat_lt x.0 (r + 1)) x xs,
      count-cons (λ x. nat_eq (residue e x) i && nat_lt r x.0) x xs,
      one_side x.0 r (nat_eq (residue e x) i),
      above_below e i r xs,
    )

all_above : (e i r : ℕ) (xs : List Node) → AllByRecursion (λ x. x.0 < r) xs →
    above e i r xs ≡ count_by (λ x. nat_eq (residue e x) i) xs
all_above e i r xs h =
    count-alike (λ x. nat_eq (residue e x) i && nat_lt x.0 r) (λ x. nat_eq (residue e x) i) xs
    (all_weaken (λ x. x.0 < r) (λ x. (nat_eq (residue e x) i && nat_lt x.0 r) ≡ nat_eq (residue e x) i) xs
    (λ x lt. ap (λ b. nat_eq (residue e x) i && b) (lt-ltb x.0 r lt) ∙ and-true (nat_eq (residue e x) i)) h)

-- All addable and removable nodes stand above row n + 1, where n is more than the number of rows.
pub whole_count : (e i : ℕ) (parts : List ℕ) (n : ℕ) → length parts + 1 ≤ n →
    corner_difference e i parts ≡ lean e i parts (n + 1)
whole_count e i parts n far =
    sym (ap₂ (λ a b. pos a -ℤ pos b) (all_above e i (n + 1) (addable parts) adds) (all_above e i (n + 1)
    (removable parts) rems))
  where
    adds : AllByRecursion (λ x. x.0 < n + 1) (addable parts)
    adds = all_filter (λ x. x.0 < n + 1) (is_addable parts) (row_ends parts)
        (all_map (λ x. is_addable parts x ≡ true →
        x.0 < n + 1) (λ s. (s, part parts s + 1)) (from_one_to (length parts + 1))
        (range_all (λ s. is_addable parts (s, part parts s + 1) ≡ true → s < n + 1) 1 (length parts + 1)
        (λ s lo hi _. omega arith)))

    rems : AllByRecursion (λ x. x.0 < n + 1) (removable parts)
    rems = all_filter (λ x. x.0 < n + 1) (is_removable parts) (nodes parts)
        (nodes_all (λ x. is_removable parts x ≡ true → x.0 < n + 1) 1 parts
        (λ k c lo hi _. let short : k < length parts = index_short parts k (omega arith) in omega arith))

-- The difference of all addable and removable i-nodes is the sum over the first n rows, and 1 where the first place of
-- the next row has residue i.
pub corner_tilt : (e i : ℕ) (parts : List ℕ) (n : ℕ) → 2 ≤ e → IsPartition parts → length parts + 1 ≤ n →
    corner_difference e i parts ≡ tilt e i parts n +ℤ one_if (nat_eq (residue e (n + 1, 1)) i)
corner_tilt e i parts n he pp far =
    whole_count e i parts n far
    ∙ last (lean e i parts (n + 1)) (tilt e i parts n) (addable_at e i parts (n + 1))
    (one_if (nat_eq (residue e (n + 1, part parts (n + 1) + 1)) i)) (one_if (nat_eq (residue e (n + 1, 1)) i))
    (lean_is e i parts he pp n (n + 1) refl) none
    (ap (λ p. one_if (nat_eq (residue e (n + 1, p + 1)) i)) short)
  where
    last : (x t : ℤ) (b : Bool) (c d : ℤ) → x +ℤ one_if b ≡ t +ℤ c → b ≡ false → c ≡ d → x ≡ t +ℤ d
    last x t b c d h k l = omega (arith, ints, ap one_if k)

    none : addable_at e i parts (n + 1) ≡ false
    none = false_from_ne_true (addable_at e i parts (n + 1))
        (λ h. let near : n + 1 ≤ length parts + 1 = gain_near e i parts (n + 1) (addable_facts e i parts (n + 1) h) in
        omega arith)

    short : part parts (n + 1) ≡ 0
    short = by_size (le_or_lt (part parts (n + 1)) 0)
      where
        by_size : (part parts (n + 1) ≤ 0) ⊎ (0 < part parts (n + 1)) → part parts (n + 1) ≡ 0
        by_size (inl z) = omega arith
        by_size (inr some) = absurd (let s : n + 1 - 1 < length parts = index_short parts
            (n + 1 - 1) some in omega arith)
