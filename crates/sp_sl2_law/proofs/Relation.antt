-- The relation between restriction and induction: what is left of the two products in a row, and the sum over the rows.
use Rattle.std.proofs.Common.{◌≡◌, ◌≢◌, ℕ, zero, suc, ◌+◌, ◌-◌, ◌≤◌, Bool, true, false, cond, nat_eq, List, [], length}
use Rattle.std.proofs.Common.{refl, sym, ◌∙◌, ap, ap₂, subst, arith, ℤ, pos, ◌+ℤ◌, ◌-ℤ◌, neg_ℤ, true≢false, eqb-true}
use Rattle.std.proofs.Common.{eq-eqb}
use Rattle.std.proofs.lemmas.Int.{ints}
use Rattle.std.proofs.lemmas.Bool.{false_from_ne_true}
use Rattle.sp_defs.specs.Partition.{part, from_one_to, IsPartition}
use Rattle.sp_defs.specs.Node.{residue}
use Rattle.sp_defs.specs.Laurent.{coefficient, negate, times, collect}
use Rattle.sp_defs.specs.Power.{Vector, divided_power}
use Rattle.sp_defs.specs.Signature.{grow, shrink}
use Rattle.sp_lists.proofs.Elements.{range_all}
use Rattle.sp_algebra.proofs.Coefficients.{same_laurent}
use Rattle.sp_algebra.proofs.Laws.{IsLaurent-plus, IsLaurent-times, coefficient-plus, coefficient-negate}
use Rattle.sp_shapes.proofs.Residues.{right_differs}
use Rattle.sp_shapes.proofs.Shrink.{length-shrink}
use Rattle.sp_power_law.proofs.Gains.{addable_at, removable_at, Gains, addable_facts, facts_addable, not_both}
use Rattle.sp_sl2_law.specs.Restriction.{restriction}
use Rattle.sp_sl2_law.specs.Balanced.{balanced, corner_difference}
use Rattle.sp_sl2_law.specs.Commutator.{commutator, corner_multiple, CommutatorLaw}
use Rattle.sp_sl2_law.proofs.Totals.{total, total-alike, total-minus, total-swap, total-zeros, total-range_one}
use Rattle.sp_sl2_law.proofs.OneNode.{Loses, removable_facts, facts_removable, grows, Shrunk, shrinks, gains_back}
use Rattle.sp_sl2_law.proofs.OneNode.{grown_back, loses_back, shrunk_back, corner_of}
use Rattle.sp_sl2_law.proofs.Tilts.{one_if, lean, turn, tilt, tilt-alike, tilt-change, lean_is, lean_gains, whole_count}
use Rattle.sp_sl2_law.proofs.Tilts.{corner_tilt}
use Rattle.sp_sl2_law.proofs.ByRows.{taken_exponent}
use Rattle.sp_sl2_law.proofs.Cross.{first_up, first_down, up_rows, down_rows, cross}
use Rattle.sp_sl2_law.proofs.Descent.{lean_next, lean_first}
use Rattle.sp_sl2_law.proofs.Stairs.{climb, climb-next, step, climb-balanced, total-range_last}

-- Two tests that are never passed together leave nothing.
pub never_both : (a b : Bool) (x : ℤ) → (a ≡ true → b ≡ true → ⊥) → cond a (cond b x (pos 0)) (pos 0) ≡ pos 0
never_both true true x h = absurd (h refl refl)
never_both true false x h = refl
never_both false b x h = refl

-- A second test that is passed wherever the first one is.
first_decides : (a b : Bool) (x y : ℤ) → (a ≡ true → b ≡ true) → (a ≡ true → x ≡ y) →
    cond a (cond b x (pos 0)) (pos 0) ≡ cond a y (pos 0)
first_decides true b x y h same = ap (λ c. cond c x (pos 0)) (h refl) ∙ same refl
first_decides false b x y h same = refl

module _ (e i : ℕ) (he : 2 ≤ e) (lambda : List ℕ) (pl : IsPartition lambda) (n : ℕ) (far : length lambda + 1 ≤ n)
    (w : Vector) (z : ℤ) where
  -- ---- one row, where the residues differ

  up_other : (j s : ℕ) → i ≢ j → 1 ≤ s → first_up e i j he lambda pl n far w z s s ≡ pos 0
  unfolding first_up
  up_other j s ne hs = never_both (addable_at e i lambda s) (removable_at e j (grow (s - 1) lambda) s) _
      (λ a b. ne (sym (loses_back e i lambda s hs pl (addable_facts e i lambda s a)).residue_is
      ∙ (removable_facts e j (grow (s - 1) lambda) s b).residue_is))

  down_other : (j s : ℕ) → i ≢ j → 1 ≤ s → first_down e i j he lambda pl n far w z s s ≡ pos 0
  unfolding first_down
  down_other j s ne hs = never_both (removable_at e j lambda s) (addable_at e i (shrink (s - 1) lambda) s) _
      (λ a b. let l : Loses e j lambda s = removable_facts e j lambda s a in
      ne (sym (addable_facts e i (shrink (s - 1) lambda) s b).residue_is
      ∙ (gains_back e j lambda s hs pl l).residue_is))

  -- ---- one row, where they are equal

  here : ℤ → ℤ
  here u = coefficient (w lambda) (z -ℤ step (corner_difference e i lambda) u)

  up_same : (s : ℕ) → 1 ≤ s →
      first_up e i i he lambda pl n far w z s s ≡ cond (addable_at e i lambda s) (here (lean e i lambda s)) (pos 0)
  unfolding first_up here
  up_same s hs = first_decides (addable_at e i lambda s) (removable_at e i (grow (s - 1) lambda) s) _ _
      (λ a. facts_removable e i (grow (s - 1) lambda) s hs
      (loses_back e i lambda s hs pl (addable_facts e i lambda s a)))
      (λ a. let g : Gains e i lambda s = addable_facts e i lambda s a in
      ap₂ (λ x k. coefficient (w x) k) (shrunk_back e i lambda s hs pl g)
      (moved z (tilt e i lambda (s - 1)) (corner_difference e i lambda) (tilt e i (grow (s - 1) lambda) (s - 1))
      (lean e i lambda s)
      (tilt-alike e i (grow (s - 1) lambda) lambda (s - 1)
      (λ k lo hi. (grows e i lambda s hs pl g).elsewhere k lo (λ x. omega arith)))
      (lean_gains e i lambda s he hs pl a)))
    where
      moved : (z t d t' l : ℤ) → t' ≡ t → l ≡ t → (z -ℤ ((t +ℤ pos 1) -ℤ d)) -ℤ t' ≡ z -ℤ (((l +ℤ l) +ℤ pos 1) -ℤ d)
      moved z t d t' l h k = omega (arith, ints)

  down_same : (s : ℕ) → 1 ≤ s → s ≤ n →
      first_down e i i he lambda pl n far w z s s ≡ cond (removable_at e i lambda s) (here (lean e i lambda s -ℤ pos 1))
      (pos 0)
  unfolding first_down here
  down_same s hs hn = first_decides (removable_at e i lambda s) (addable_at e i (shrink (s - 1) lambda) s) _ _
      (λ b. facts_addable e i (shrink (s - 1) lambda) s hs
      (gains_back e i lambda s hs pl (removable_facts e i lambda s b)))
      (λ b. at b (removable_facts e i lambda s b))
    where
      smaller : List ℕ
      smaller = shrink (s - 1) lambda

      moved : (z t d t' d' l m m' k u v : ℤ) → t' ≡ t → l ≡ t → d ≡ m +ℤ k → d' ≡ m' +ℤ k → m +ℤ u ≡ m' +ℤ v →
          u ≡ pos 1 → v ≡ pos 0 -ℤ pos 1 →
          (z -ℤ t) -ℤ ((t' +ℤ pos 1) -ℤ d') ≡ z -ℤ ((((l -ℤ pos 1) +ℤ (l -ℤ pos 1)) +ℤ pos 1) -ℤ d)
      moved z t d t' d' l m m' k u v ht hl hd hd' hm hu hv = omega (arith, ints)

      at : removable_at e i lambda s ≡ true → Loses e i lambda s →
          coefficient (w (grow (s - 1) smaller)) ((z -ℤ tilt e i lambda (s - 1)) -ℤ taken_exponent e i smaller s) ≡
          coefficient (w lambda) (z -ℤ step (corner_difference e i lambda) (lean e i lambda s -ℤ pos 1))
      at b l =
          let d : Shrunk lambda s smaller = shrinks e i lambda s hs pl l in
          ap₂ (λ x k. coefficient (w x) k) (grown_back e i lambda s hs pl l)
          (moved z (tilt e i lambda (s - 1)) (corner_difference e i lambda) (tilt e i smaller (s - 1))
          (corner_difference e i smaller) (lean e i lambda s) (tilt e i lambda n) (tilt e i smaller n)
          (one_if (nat_eq (residue e (n + 1, 1)) i)) (turn e i s (part smaller s)) (turn e i s (part lambda s))
          (tilt-alike e i smaller lambda (s - 1) (λ k lo hi. d.elsewhere k lo (λ x. omega arith)))
          (level (lean e i lambda s) (tilt e i lambda (s - 1)) (addable_at e i lambda s)
          (nat_eq (residue e (s, part lambda s + 1)) i) no_gain no_right
          (lean_is e i lambda he pl (s - 1) s (omega arith)))
          (corner_tilt e i lambda n he pl far) (corner_tilt e i smaller n he d.partition short)
          (tilt-change e i lambda smaller s n hs hn (λ k hk nk. sym (d.elsewhere k hk nk)))
          (less d) more)
        where
          no_gain : addable_at e i lambda s ≡ false
          no_gain = false_from_ne_true (addable_at e i lambda s) (λ a. not_both e i lambda s he a b)

          no_right : nat_eq (residue e (s, part lambda s + 1)) i ≡ false
          no_right = false_from_ne_true (nat_eq (residue e (s, part lambda s + 1)) i)
              (λ h. right_differs e s (part lambda s) he
              (eqb-true (residue e (s, part lambda s + 1)) i h ∙ sym l.residue_is))

          level : (x t : ℤ) (a c : Bool) → a ≡ false → c ≡ false → x +ℤ one_if a ≡ t +ℤ one_if c → x ≡ t
          level x t a c ha hc h = omega (arith, ints, ap one_if ha, ap one_if hc)

          short : length smaller + 1 ≤ n
          short = omega (arith, length-shrink (s - 1) lambda pl (corner_of e i lambda s hs l))

          yes : nat_eq (residue e (s, part lambda s)) i ≡ true
          yes = eq-eqb (residue e (s, part lambda s)) i l.residue_is

          more : turn e i s (part lambda s) ≡ pos 0 -ℤ pos 1
          more = ap₂ (λ a c. one_if a -ℤ one_if c) no_right yes

          less : Shrunk lambda s smaller → turn e i s (part smaller s) ≡ pos 1
          less d = ap₂ (λ a c. one_if a -ℤ one_if c)
              (ap (λ p. nat_eq (residue e (s, p)) i) d.here ∙ yes) no_left
            where
              no_left : nat_eq (residue e (s, part smaller s)) i ≡ false
              no_left = false_from_ne_true (nat_eq (residue e (s, part smaller s)) i)
                  (λ h. right_differs e s (part smaller s) he
                  (ap (λ p. residue e (s, p)) d.here ∙ l.residue_is
                  ∙ sym (eqb-true (residue e (s, part smaller s)) i h)))

  -- ---- all rows, where the residues are equal

  row_difference : ℕ → ℤ
  row_difference s =
      cond (addable_at e i lambda s) (here (lean e i lambda s)) (pos 0) -ℤ cond (removable_at e i lambda s)
      (here (lean e i lambda s -ℤ pos 1)) (pos 0)

  -- A row goes a step up at an addable node and a step down at a removable one.
  one_step : (r : ℕ) → 1 ≤ r → climb here (lean e i lambda r) +ℤ row_difference r ≡ climb here (lean e i lambda (r + 1))
  unfolding row_difference
  one_step r hr =
      by_case (addable_at e i lambda r) (removable_at e i lambda r) (lean e i lambda r) (lean e i lambda (r + 1))
      (not_both e i lambda r he) (lean_next e i lambda r hr)
    where
      up : (x y : ℤ) → y ≡ x +ℤ pos 1 → climb here x +ℤ (here x -ℤ pos 0) ≡ climb here y
      up x y h = omega (arith, ints, climb-next here x y h)

      down : (x y : ℤ) → x ≡ y +ℤ pos 1 → x -ℤ pos 1 ≡ y → climb here x +ℤ (pos 0 -ℤ here (x -ℤ pos 1)) ≡ climb here y
      down x y h k = omega (arith, ints, climb-next here y x h, ap here k)

      level : (x y : ℤ) → x ≡ y → climb here x +ℤ (pos 0 -ℤ pos 0) ≡ climb here y
      level x y h = omega (arith, ints, ap (climb here) h)

      by_case : (a b : Bool) (x y : ℤ) → (a ≡ true → b ≡ true → ⊥) → y ≡ (x +ℤ one_if a) -ℤ one_if b →
          climb here x +ℤ (cond a (here x) (pos 0) -ℤ cond b (here (x -ℤ pos 1)) (pos 0)) ≡ climb here y
      by_case true true x y never h = absurd (never refl refl)
      by_case true false x y never h = up x y (omega (arith, ints))
      by_case false true x y never h = down x y (omega (arith, ints)) (omega (arith, ints))
      by_case false false x y never h = level x y (omega (arith, ints))

  all_steps : (k : ℕ) → total (from_one_to k) row_difference ≡ climb here (lean e i lambda (k + 1))
  unfolding climb total
  all_steps zero =
      sym (ap (climb here) (lean_first e i lambda))
  all_steps (suc k) =
      total-range_last row_difference 1 k
      ∙ ap (λ x. x +ℤ row_difference (1 + k)) (all_steps k ∙ ap (λ r. climb here (lean e i lambda r)) (turned k))
      ∙ one_step (1 + k) (omega arith) ∙ ap (λ r. climb here (lean e i lambda r)) (moved k)
    where
      turned : (k : ℕ) → k + 1 ≡ 1 + k
      turned k = omega arith

      moved : (k : ℕ) → 1 + k + 1 ≡ suc k + 1
      moved k = omega arith

  same_rows : total (from_one_to n)
      (λ s. first_up e i i he lambda pl n far w z s s -ℤ first_down e i i he lambda pl n far w z s s) ≡
      coefficient (times (balanced (corner_difference e i lambda)) (w lambda)) z
  unfolding here row_difference
  same_rows =
      total-alike (from_one_to n) _ row_difference
      (range_all _ 1 n (λ s lo hi. ap₂ (λ a b. a -ℤ b) (up_same s lo) (down_same s lo (omega arith))))
      ∙ all_steps n
      ∙ ap (climb here) (sym (whole_count e i lambda n far))
      ∙ climb-balanced (corner_difference e i lambda) (w lambda) z

  other_rows : (j : ℕ) → i ≢ j → total (from_one_to n)
      (λ s. first_up e i j he lambda pl n far w z s s -ℤ first_down e i j he lambda pl n far w z s s) ≡ pos 0
  other_rows j ne = total-zeros (from_one_to n) _
      (range_all _ 1 n (λ s lo hi. ap₂ (λ a b. a -ℤ b) (up_other j s ne lo) (down_other j s ne lo)))

  -- ---- both rows

  diagonal_left : (j : ℕ) → coefficient (commutator e i j w lambda) z ≡ total (from_one_to n)
      (λ s. first_up e i j he lambda pl n far w z s s -ℤ first_down e i j he lambda pl n far w z s s)
  unfolding commutator
  diagonal_left j =
      coefficient-plus (restriction e i (divided_power e j 1 w) lambda)
      (negate (divided_power e j 1 (restriction e i w) lambda)) z
      ∙ ap (λ x. coefficient (restriction e i (divided_power e j 1 w) lambda) z +ℤ x)
      (coefficient-negate (divided_power e j 1 (restriction e i w) lambda) z)
      ∙ differ _ _ (total (from_one_to n) (λ s. total (from_one_to n) (up s)))
      (total (from_one_to n) (λ s. total (from_one_to n) (down s)))
      (up_rows e i j he lambda pl n far w z)
      (down_rows e i j he lambda pl n far w z ∙ total-swap (from_one_to n) (from_one_to n) (λ t s. down s t))
      ∙ sym (total-minus (from_one_to n) (λ s. total (from_one_to n) (up s)) (λ s. total (from_one_to n) (down s)))
      ∙ total-alike (from_one_to n) _ (λ s. up s s -ℤ down s s)
      (range_all _ 1 n (λ s lo hi. sym (total-minus (from_one_to n) (up s) (down s))
      ∙ total-range_one (λ t. up s t -ℤ down s t) s 1 n lo hi
      (λ t lo' hi' ne. zero_from (up s t) (down s t)
      (cross e i j he lambda pl n far w z s t lo lo' (omega arith) (omega arith) (λ x. ne (sym x))))))
    where
      up : ℕ → ℕ → ℤ
      up = first_up e i j he lambda pl n far w z

      down : ℕ → ℕ → ℤ
      down = first_down e i j he lambda pl n far w z

      differ : (a b x y : ℤ) → a ≡ x → b ≡ y → a +ℤ neg_ℤ b ≡ x -ℤ y
      differ a b x y h k = omega (arith, ints)

      zero_from : (x y : ℤ) → x ≡ y → x -ℤ y ≡ pos 0
      zero_from x y h = omega (arith, ints)

-- The commutator is 0 where the residues differ, and multiplies by balanced integers where they are equal.
pub relation : CommutatorLaw
unfolding commutator corner_multiple collect coefficient
relation e i j he w lambda pl = by_test (nat_eq i j) refl
  where
    by_test : (b : Bool) → nat_eq i j ≡ b →
        commutator e i j w lambda ≡ cond b (corner_multiple e i w lambda) []
    by_test true is =
        subst (λ k. commutator e i k w lambda ≡ times (balanced (corner_difference e i lambda)) (w lambda))
        (eqb-true i j is)
        (same_laurent _ _ (IsLaurent-plus _ _) (IsLaurent-times (balanced (corner_difference e i lambda)) (w lambda))
        (λ z. diagonal_left e i he lambda pl (length lambda + 1) (omega arith) w z i
        ∙ same_rows e i he lambda pl (length lambda + 1) (omega arith) w z))
    by_test false is =
        same_laurent _ [] (IsLaurent-plus _ _) refl
        (λ z. diagonal_left e i he lambda pl (length lambda + 1) (omega arith) w z j
        ∙ other_rows e i he lambda pl (length lambda + 1) (omega arith) w z j
        (λ same. true≢false (sym (eq-eqb i j same) ∙ is)))
