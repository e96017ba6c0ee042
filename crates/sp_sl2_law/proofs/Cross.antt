-- A node is added in one row and one is taken from another: the order of both does not matter, and neither do the
-- exponents.
use Rattle.std.proofs.Common.{◌≡◌, ◌≢◌, ℕ, ◌+◌, ◌-◌, ◌<◌, ◌≤◌, Bool, true, false, cond, nat_eq, List, length, refl, sym}
use Rattle.std.proofs.Common.{◌∙◌, ap, ap₂, subst, arith, ◌⊎◌, inl, inr, ℤ, pos, ◌+ℤ◌, ◌-ℤ◌}
use Rattle.std.proofs.Common.{true≢false, eqb-true, eq-eqb}
use Rattle.std.proofs.lemmas.Int.{ints}
use Rattle.sp_defs.specs.Partition.{part, from_one_to, IsPartition}
use Rattle.sp_defs.specs.Node.{residue}
use Rattle.sp_defs.specs.Laurent.{coefficient}
use Rattle.sp_defs.specs.Power.{Vector, divided_power}
use Rattle.sp_defs.specs.Signature.{grow, shrink}
use Rattle.sp_lists.proofs.Elements.{le_or_lt, range_all, same_tests}
use Rattle.sp_shapes.proofs.Grow.{length-grow}
use Rattle.sp_shapes.proofs.Shrink.{length-shrink}
use Rattle.sp_power_law.proofs.Gains.{addable_at, removable_at, Gains, addable_facts, facts_addable}
use Rattle.sp_sl2_law.specs.Restriction.{restriction}
use Rattle.sp_sl2_law.specs.Balanced.{corner_difference}
use Rattle.sp_sl2_law.proofs.Totals.{total, total-alike, total-cond}
use Rattle.sp_sl2_law.proofs.OneNode.{Loses, removable_facts, facts_removable, Grown, grows, room_of, Shrunk, shrinks}
use Rattle.sp_sl2_law.proofs.OneNode.{same_parts, corner_of}
use Rattle.sp_sl2_law.proofs.Neighbours.{right_test}
use Rattle.sp_sl2_law.proofs.Tilts.{one_if, turn, tilt, tilt-alike, tilt-change, corner_tilt}
use Rattle.sp_sl2_law.proofs.ByRows.{taken_exponent, taken, given, cond-alike, restriction_rows, induction_rows}

-- Two numbers are equal or not.
pub same_or_other : (m n : ℕ) → (m ≡ n) ⊎ (m ≢ n)
same_or_other m n = settle (le_or_lt m n) (le_or_lt n m)
  where
    settle : (m ≤ n) ⊎ (n < m) → (n ≤ m) ⊎ (m < n) → (m ≡ n) ⊎ (m ≢ n)
    settle (inl a) (inl b) = inl (omega arith)
    settle (inr a) b = inr (λ e. omega arith)
    settle a (inr b) = inr (λ e. omega arith)

-- Two tests, and two others that are passed just where the first are, with numbers that are then equal.
two_tests : (a b c d : Bool) (x y : ℤ) → (a ≡ true → b ≡ true → (c ≡ true) × (d ≡ true)) →
    (c ≡ true → d ≡ true → (a ≡ true) × (b ≡ true)) → (a ≡ true → b ≡ true → x ≡ y) →
    cond a (cond b x (pos 0)) (pos 0) ≡ cond c (cond d y (pos 0)) (pos 0)
two_tests true true c d x y to from same =
    same refl refl ∙ ap₂ (λ p q. cond p (cond q y (pos 0)) (pos 0)) (sym (to refl refl).0) (sym (to refl refl).1)
two_tests true false true true x y to from same = absurd (true≢false (sym (from refl refl).1))
two_tests true false true false x y to from same = refl
two_tests true false false d x y to from same = refl
two_tests false b true true x y to from same = absurd (true≢false (sym (from refl refl).0))
two_tests false b true false x y to from same = refl
two_tests false b false d x y to from same = refl

-- What two rows add to the sums, where each has a node less or more: the two sides of the symmetric Cartan matrix.
cartan : (e s p t q i j : ℕ) → 2 ≤ e → residue e (s, p + 1) ≡ i → residue e (t, q + 1) ≡ j →
    turn e j s (p + 1) +ℤ turn e i t q ≡ turn e i t (q + 1) +ℤ turn e j s p
cartan e s p t q i j he hi hj =
    subst (λ a. turn e j s (p + 1) +ℤ turn e a t q ≡ turn e a t (q + 1) +ℤ turn e j s p) hi
    (subst (λ b. turn e b s (p + 1) +ℤ turn e (residue e (s, p + 1)) t q ≡
    turn e (residue e (s, p + 1)) t (q + 1) +ℤ turn e b s p) hj
    (cancelled _ _ _ _ _ _
    (ap one_if (right_test e s (p + 1) t q he)) (ap one_if (right_test e t (q + 1) s p he))
    (ap one_if (turned (residue e (s, p + 1)) (residue e (t, q + 1))))))
  where
    cancelled : (a b c d m n : ℤ) → a ≡ b → c ≡ d → m ≡ n → (a -ℤ m) +ℤ (n -ℤ b) ≡ (c -ℤ n) +ℤ (m -ℤ d)
    cancelled a b c d m n h k l = omega (arith, ints)

    turned : (x y : ℕ) → nat_eq x y ≡ nat_eq y x
    turned x y = same_tests (nat_eq x y) (nat_eq y x) (λ h. eq-eqb y x (sym (eqb-true x y h)))
        (λ h. eq-eqb x y (sym (eqb-true y x h)))

module _ (e i j : ℕ) (he : 2 ≤ e) (lambda : List ℕ) (pl : IsPartition lambda) (n : ℕ) (far : length lambda + 1 ≤ n)
    (w : Vector) (z : ℤ) where
  -- What e_i f_j has from the rows s and t, and what f_j e_i has.
  unfoldable pub first_up : ℕ → ℕ → ℤ
  first_up s t =
      cond (addable_at e i lambda s) (given e j w (grow (s - 1) lambda) (z -ℤ taken_exponent e i lambda s) t) (pos 0)

  unfoldable pub first_down : ℕ → ℕ → ℤ
  first_down s t =
      cond (removable_at e j lambda t) (taken e i w (shrink (t - 1) lambda) (z -ℤ tilt e j lambda (t - 1)) s) (pos 0)

  -- e_i f_j is the sum over both rows.
  pub up_rows : coefficient (restriction e i (divided_power e j 1 w) lambda) z ≡ total (from_one_to n)
      (λ s. total (from_one_to n) (first_up s))
  unfolding first_up
  up_rows =
      restriction_rows e i he lambda pl n (divided_power e j 1 w) z far
      ∙ total-alike (from_one_to n) (taken e i (divided_power e j 1 w) lambda z)
      (λ s. total (from_one_to n) (first_up s))
      (range_all (λ s. taken e i (divided_power e j 1 w) lambda z s ≡ total (from_one_to n) (first_up s)) 1 n
      (λ s lo hi. cond-alike (addable_at e i lambda s) _ _ (λ can. row s lo (omega arith) can)
      ∙ total-cond (addable_at e i lambda s) (from_one_to n)
      (given e j w (grow (s - 1) lambda) (z -ℤ taken_exponent e i lambda s))))
    where
      row : (s : ℕ) → 1 ≤ s → s ≤ n → addable_at e i lambda s ≡ true →
          coefficient (divided_power e j 1 w (grow (s - 1) lambda)) (z -ℤ taken_exponent e i lambda s) ≡
          total (from_one_to n) (given e j w (grow (s - 1) lambda) (z -ℤ taken_exponent e i lambda s))
      row s lo hi can =
          let g : Gains e i lambda s = addable_facts e i lambda s can in
          induction_rows e j he (grow (s - 1) lambda) (grows e i lambda s lo pl g).partition n w
          (z -ℤ taken_exponent e i lambda s)
          (omega (arith, length-grow lambda (s - 1) (room_of e i lambda s lo g).there))

  -- So is f_j e_i.
  pub down_rows : coefficient (divided_power e j 1 (restriction e i w) lambda) z ≡ total (from_one_to n)
      (λ t. total (from_one_to n) (λ s. first_down s t))
  unfolding first_down
  down_rows =
      induction_rows e j he lambda pl n (restriction e i w) z (omega arith)
      ∙ total-alike (from_one_to n) (given e j (restriction e i w) lambda z)
      (λ t. total (from_one_to n) (λ s. first_down s t))
      (range_all (λ t. given e j (restriction e i w) lambda z t ≡ total (from_one_to n) (λ s. first_down s t)) 1 n
      (λ t lo hi. cond-alike (removable_at e j lambda t) _ _ (λ can. row t lo can)
      ∙ total-cond (removable_at e j lambda t) (from_one_to n)
      (taken e i w (shrink (t - 1) lambda) (z -ℤ tilt e j lambda (t - 1)))))
    where
      row : (t : ℕ) → 1 ≤ t → removable_at e j lambda t ≡ true →
          coefficient (restriction e i w (shrink (t - 1) lambda)) (z -ℤ tilt e j lambda (t - 1)) ≡
          total (from_one_to n) (taken e i w (shrink (t - 1) lambda) (z -ℤ tilt e j lambda (t - 1)))
      row t lo can =
          let l : Loses e j lambda t = removable_facts e j lambda t can in
          restriction_rows e i he (shrink (t - 1) lambda) (shrinks e j lambda t lo pl l).partition n w
          (z -ℤ tilt e j lambda (t - 1))
          (omega (arith, length-shrink (t - 1) lambda pl (corner_of e j lambda t lo l)))

  -- ---- two different rows

  module _ (s t : ℕ) (hs : 1 ≤ s) (ht : 1 ≤ t) (sn : s ≤ n) (tn : t ≤ n) (ne : s ≢ t) where
    larger : List ℕ
    larger = grow (s - 1) lambda

    smaller : List ℕ
    smaller = shrink (t - 1) lambda

    -- Both nodes are there in either order.
    record Both : Type 0 where
      gains : Gains e i lambda s
      loses_then : Loses e j larger t
      loses : Loses e j lambda t
      gains_then : Gains e i smaller s

    from_up : Gains e i lambda s → Loses e j larger t → Both
    unfolding larger smaller
    from_up g l' =
        let w : Grown lambda s larger = grows e i lambda s hs pl g in
        let at_t : part larger t ≡ part lambda t = w.elsewhere t ht (λ e. ne (sym e)) in
        let over : part lambda (t + 1) ≤ part larger (t + 1) = more w (le_or_lt s (t + 1)) (le_or_lt (t + 1) s) in
        let l : Loses e j lambda t = record {
          corner = omega (arith, l'.corner, at_t, over);
          residue_is = ap (λ p. residue e (t, p)) (sym at_t) ∙ l'.residue_is;
        } in
        let d : Shrunk lambda t smaller = shrinks e j lambda t ht pl l in
        let at_s : part smaller s ≡ part lambda s = d.elsewhere s hs ne in
        record {
          gains = g;
          loses_then = l';
          loses = l;
          gains_then = record {
            room = λ more. above_it w d l' g more at_s at_t (le_or_lt (s - 1) t) (le_or_lt t (s - 1));
            residue_is = ap (λ p. residue e (s, p + 1)) at_s ∙ g.residue_is;
          };
        }
      where
        more : Grown lambda s larger → (s ≤ t + 1) ⊎ (t + 1 < s) → (t + 1 ≤ s) ⊎ (s < t + 1) →
            part lambda (t + 1) ≤ part larger (t + 1)
        more w (inl a) (inl b) =
            let same : s ≡ t + 1 = omega arith in
            subst (λ k. part lambda k ≤ part larger k) same (omega (arith, w.here))
        more w (inr a) b = omega (arith, w.elsewhere (t + 1) (omega arith) (λ e. omega arith))
        more w a (inr b) = omega (arith, w.elsewhere (t + 1) (omega arith) (λ e. omega arith))

        above_it : Grown lambda s larger → Shrunk lambda t smaller → Loses e j larger t → Gains e i lambda s → 1 < s →
            part smaller s ≡ part lambda s → part larger t ≡ part lambda t → (s - 1 ≤ t) ⊎ (t < s - 1) →
            (t ≤ s - 1) ⊎ (s - 1 < t) → part smaller s < part smaller (s - 1)
        above_it w d l' g more at_s at_t (inl a) (inl b) =
            let same : t ≡ s - 1 = omega arith in
            let next : t + 1 ≡ s = omega arith in
            let c : part larger s < part larger t = subst (λ k. part larger k < part larger t) next l'.corner in
            let f : part smaller t + 1 ≡ part lambda t = d.here in
            subst (λ k. part smaller s < part smaller k) same (omega (arith, w.here, at_s, at_t))
        above_it w d l' g more at_s at_t (inr a) b =
            omega (arith, at_s, d.elsewhere (s - 1) (omega arith) (λ e. omega arith), g.room more)
        above_it w d l' g more at_s at_t a (inr b) =
            omega (arith, at_s, d.elsewhere (s - 1) (omega arith) (λ e. omega arith), g.room more)

    from_down : Loses e j lambda t → Gains e i smaller s → Both
    unfolding larger smaller
    from_down l g' =
        let d : Shrunk lambda t smaller = shrinks e j lambda t ht pl l in
        let at_s : part smaller s ≡ part lambda s = d.elsewhere s hs ne in
        let g : Gains e i lambda s = record {
          room = λ more. omega (arith, g'.room more, at_s, under d more (le_or_lt (s - 1) t) (le_or_lt t (s - 1)));
          residue_is = ap (λ p. residue e (s, p + 1)) (sym at_s) ∙ g'.residue_is;
        } in
        let w : Grown lambda s larger = grows e i lambda s hs pl g in
        let at_t : part larger t ≡ part lambda t = w.elsewhere t ht (λ e. ne (sym e)) in
        record {
          gains = g;
          loses_then = record {
            corner = below_it w d l g' at_s at_t (le_or_lt (t + 1) s) (le_or_lt s (t + 1));
            residue_is = ap (λ p. residue e (t, p)) at_t ∙ l.residue_is;
          };
          loses = l;
          gains_then = g';
        }
      where
        under : Shrunk lambda t smaller → 1 < s → (s - 1 ≤ t) ⊎ (t < s - 1) → (t ≤ s - 1) ⊎ (s - 1 < t) →
            part smaller (s - 1) ≤ part lambda (s - 1)
        under d more (inl a) (inl b) =
            let same : t ≡ s - 1 = omega arith in
            subst (λ k. part smaller k ≤ part lambda k) same (omega (arith, d.here))
        under d more (inr a) b = omega (arith, d.elsewhere (s - 1) (omega arith) (λ e. omega arith))
        under d more a (inr b) = omega (arith, d.elsewhere (s - 1) (omega arith) (λ e. omega arith))

        below_it : Grown lambda s larger → Shrunk lambda t smaller → Loses e j lambda t → Gains e i smaller s →
            part smaller s ≡ part lambda s → part larger t ≡ part lambda t → (t + 1 ≤ s) ⊎ (s < t + 1) →
            (s ≤ t + 1) ⊎ (t + 1 < s) → part larger (t + 1) < part larger t
        below_it w d l g' at_s at_t (inl a) (inl b) =
            let same : s ≡ t + 1 = omega arith in
            let back : s - 1 ≡ t = omega arith in
            let c : part smaller s < part smaller t =
            subst (λ k. part smaller s < part smaller k) back (g'.room (omega arith)) in
            subst (λ k. part larger k < part larger t) same (omega (arith, w.here, d.here, at_s, at_t))
        below_it w d l g' at_s at_t (inr a) b =
            omega (arith, w.elsewhere (t + 1) (omega arith) (λ e. omega arith), l.corner, at_t)
        below_it w d l g' at_s at_t a (inr b) =
            omega (arith, w.elsewhere (t + 1) (omega arith) (λ e. omega arith), l.corner, at_t)

    -- The partition is the same.
    same_end : Both → shrink (t - 1) larger ≡ grow (s - 1) smaller
    unfolding larger smaller
    same_end b =
        let w : Grown lambda s larger = grows e i lambda s hs pl b.gains in
        let d : Shrunk lambda t smaller = shrinks e j lambda t ht pl b.loses in
        let d' : Shrunk larger t (shrink (t - 1) larger) = shrinks e j larger t ht w.partition b.loses_then in
        let w' : Grown smaller s (grow (s - 1) smaller) = grows e i smaller s hs d.partition b.gains_then in
        same_parts (shrink (t - 1) larger) (grow (s - 1) smaller) d'.partition w'.partition
        (λ k hk. at w d d' w' k hk (same_or_other s k) (same_or_other t k))
      where
        at : Grown lambda s larger → Shrunk lambda t smaller → Shrunk larger t (shrink (t - 1) larger) →
            Grown smaller s (grow (s - 1) smaller) → (k : ℕ) → 1 ≤ k → (s ≡ k) ⊎ (s ≢ k) → (t ≡ k) ⊎ (t ≢ k) →
            part (shrink (t - 1) larger) k ≡ part (grow (s - 1) smaller) k
        at w d d' w' k hk (inl same) c =
            subst (λ m. part (shrink (t - 1) larger) m ≡ part (grow (s - 1) smaller) m) same
            (d'.elsewhere s hs ne ∙ w.here ∙ sym (w'.here ∙ ap (λ m. m + 1) (d.elsewhere s hs ne)))
        at w d d' w' k hk (inr ns) (inl same) =
            subst (λ m. part (shrink (t - 1) larger) m ≡ part (grow (s - 1) smaller) m) same
            (omega (arith, d'.here, w.elsewhere t ht (λ e. ne (sym e)), w'.elsewhere t ht (λ e. ne (sym e)), d.here))
        at w d d' w' k hk (inr ns) (inr nt) =
            d'.elsewhere k hk (λ e. nt (sym e)) ∙ w.elsewhere k hk (λ e. ns (sym e))
            ∙ sym (w'.elsewhere k hk (λ e. ns (sym e)) ∙ d.elsewhere k hk (λ e. nt (sym e)))

    -- And so is the sum of the exponents.
    same_exponents : Both →
        taken_exponent e i lambda s +ℤ tilt e j larger (t - 1) ≡
        tilt e j lambda (t - 1) +ℤ taken_exponent e i smaller s
    unfolding larger smaller
    same_exponents b =
        let w : Grown lambda s larger = grows e i lambda s hs pl b.gains in
        let d : Shrunk lambda t smaller = shrinks e j lambda t ht pl b.loses in
        by_rows w d (le_or_lt s t)
      where
        short : length smaller + 1 ≤ n
        short = omega (arith, length-shrink (t - 1) lambda pl (corner_of e j lambda t ht b.loses))

        whole : corner_difference e i lambda ≡ tilt e i lambda n +ℤ one_if (nat_eq (residue e (n + 1, 1)) i)
        whole = corner_tilt e i lambda n he pl far

        whole_less : Shrunk lambda t smaller →
            corner_difference e i smaller ≡ tilt e i smaller n +ℤ one_if (nat_eq (residue e (n + 1, 1)) i)
        whole_less d = corner_tilt e i smaller n he d.partition short

        by_rows : Grown lambda s larger → Shrunk lambda t smaller → (s ≤ t) ⊎ (t < s) →
            taken_exponent e i lambda s +ℤ tilt e j larger (t - 1) ≡
            tilt e j lambda (t - 1) +ℤ taken_exponent e i smaller s
        by_rows w d (inr below) =
            below_case (tilt e i lambda (s - 1)) (tilt e i smaller (s - 1)) (corner_difference e i lambda)
            (corner_difference e i smaller) (tilt e i lambda n) (tilt e i smaller n)
            (one_if (nat_eq (residue e (n + 1, 1)) i)) (tilt e j larger (t - 1)) (tilt e j lambda (t - 1))
            (turn e i t (part smaller t)) (turn e i t (part lambda t)) whole (whole_less d)
            (tilt-change e i lambda smaller t n ht tn (λ k hk nk. sym (d.elsewhere k hk nk)))
            (tilt-change e i lambda smaller t (s - 1) ht (omega arith) (λ k hk nk. sym (d.elsewhere k hk nk)))
            (tilt-alike e j larger lambda (t - 1) (λ k lo hi. w.elsewhere k lo (λ e. omega arith)))
          where
            below_case : (a a' c c' m m' k f f' u v : ℤ) → c ≡ m +ℤ k → c' ≡ m' +ℤ k → m +ℤ u ≡ m' +ℤ v →
                a +ℤ u ≡ a' +ℤ v → f ≡ f' → ((a +ℤ pos 1) -ℤ c) +ℤ f ≡ f' +ℤ ((a' +ℤ pos 1) -ℤ c')
            below_case a a' c c' m m' k f f' u v hc hc' hm ha hf = omega (arith, ints)
        by_rows w d (inl le) =
            above_case (tilt e i lambda (s - 1)) (tilt e i smaller (s - 1)) (corner_difference e i lambda)
            (corner_difference e i smaller) (tilt e i lambda n) (tilt e i smaller n)
            (one_if (nat_eq (residue e (n + 1, 1)) i)) (tilt e j larger (t - 1)) (tilt e j lambda (t - 1))
            (turn e i t (part smaller t)) (turn e i t (part lambda t)) (turn e j s (part lambda s))
            (turn e j s (part larger s)) whole (whole_less d)
            (tilt-change e i lambda smaller t n ht tn (λ k hk nk. sym (d.elsewhere k hk nk)))
            (tilt-alike e i lambda smaller (s - 1) (λ k lo hi. sym (d.elsewhere k lo (λ e. omega arith))))
            (tilt-change e j larger lambda s (t - 1) hs (less_than le) (λ k hk nk. w.elsewhere k hk nk))
            (subst (λ p. turn e j s p +ℤ turn e i t (part smaller t) ≡
            turn e i t (part lambda t) +ℤ turn e j s (part lambda s)) (sym w.here)
            (subst (λ q. turn e j s (part lambda s + 1) +ℤ turn e i t (part smaller t) ≡
            turn e i t q +ℤ turn e j s (part lambda s)) d.here
            (cartan e s (part lambda s) t (part smaller t) i j he b.gains.residue_is
            (ap (λ q. residue e (t, q)) d.here ∙ b.loses.residue_is))))
          where
            less_than : s ≤ t → s ≤ t - 1
            less_than h = by_test (le_or_lt s (t - 1))
              where
                by_test : (s ≤ t - 1) ⊎ (t - 1 < s) → s ≤ t - 1
                by_test (inl le) = le
                by_test (inr gt) = absurd (ne (omega arith))

            above_case : (a a' c c' m m' k f f' u v x y : ℤ) → c ≡ m +ℤ k → c' ≡ m' +ℤ k → m +ℤ u ≡ m' +ℤ v →
                a ≡ a' → f +ℤ x ≡ f' +ℤ y → y +ℤ u ≡ v +ℤ x →
                ((a +ℤ pos 1) -ℤ c) +ℤ f ≡ f' +ℤ ((a' +ℤ pos 1) -ℤ c')
            above_case a a' c c' m m' k f f' u v x y hc hc' hm ha hf hk = omega (arith, ints)

    -- So both orders have the same from two different rows.
    pub cross : first_up s t ≡ first_down s t
    unfolding first_up first_down larger smaller
    cross = two_tests (addable_at e i lambda s) (removable_at e j larger t) (removable_at e j lambda t)
        (addable_at e i smaller s) _ _
        (λ a b'. let b : Both = up a b' in
        (facts_removable e j lambda t ht b.loses, facts_addable e i smaller s hs b.gains_then))
        (λ c d. let b : Both = from_down (removable_facts e j lambda t c) (addable_facts e i smaller s d) in
        (facts_addable e i lambda s hs b.gains, facts_removable e j larger t ht b.loses_then))
        (λ a b'. let b : Both = up a b' in
        ap₂ (λ x k. coefficient (w x) k) (same_end b)
        (moved z (taken_exponent e i lambda s) (tilt e j larger (t - 1)) (tilt e j lambda (t - 1))
        (taken_exponent e i smaller s) (same_exponents b)))
      where
        up : addable_at e i lambda s ≡ true → removable_at e j larger t ≡ true → Both
        up a b = from_up (addable_facts e i lambda s a) (removable_facts e j larger t b)

        moved : (z a b c d : ℤ) → a +ℤ b ≡ c +ℤ d → (z -ℤ a) -ℤ b ≡ (z -ℤ c) -ℤ d
        moved z a b c d h = omega (arith, ints)
