-- On the way down the rows: what holds of the partition so far, of the running difference and of the sum of
-- exponents, and that passing a row and choosing its node keep it.
use Rattle.std.proofs.Common.{◌≡◌, ◌≢◌, ℕ, zero, suc, ◌+◌, ◌-◌, ◌<◌, ◌≤◌, Bool, true, false, cond, not, List, [], ◌∷◌}
use Rattle.std.proofs.Common.{◌++◌, map, filter, length, refl, sym, ◌∙◌, ap, ap₂, subst, arith, slice_index, ◌⊎◌, inl}
use Rattle.std.proofs.Common.{inr, ℤ, pos, ◌+ℤ◌, ◌-ℤ◌, true≢false}
use Rattle.std.proofs.lemmas.Int.{ints}
use Rattle.std.specs.List.{AllByRecursion}
use Rattle.std.proofs.lemmas.Bool.{false_from_ne_true}
use Rattle.std.proofs.lemmas.List.{map-append, nil_from_length}
use Rattle.sp_defs.specs.Partition.{part, degree, IsPartition}
use Rattle.sp_defs.specs.Node.{Node, in_diagram, nodes, residue, addable, removable}
use Rattle.sp_defs.specs.Laurent.{int_sum}
use Rattle.sp_defs.specs.Power.{added, above, exponent}
use Rattle.sp_defs.specs.Signature.{grow}
use Rattle.sp_lists.proofs.Elements.{le_or_lt, filter_append, all_left, all_right, same_tests}
use Rattle.sp_shapes.proofs.Diagram.{all_nodes, in_node}
use Rattle.sp_shapes.proofs.Grow.{Room, grow_other, grow_same, degree-grow, IsPartition-grow, OneMore, nodes-grow}
use Rattle.sp_shapes.proofs.Moves.{Move, degree_added, out_node}
use Rattle.sp_shapes.proofs.Regular.{index_short}
use Rattle.sp_shapes.proofs.Residues.{right_differs, below_differs}
use Rattle.sp_power_law.proofs.Gains.{addable_at, removable_at, Gains, addable_facts, facts_addable}
use Rattle.sp_power_law.proofs.Gains.{addable_at-alike, not_both}
use Rattle.sp_power_law.proofs.Rows.{above_addable-next, above_removable-next, above_addable-first}
use Rattle.sp_power_law.proofs.Rows.{above_removable-first}

-- Before row r: `now` is reached from `parts` by a move of k nodes, all above that row.
pub record Before (e i : ℕ) (parts : List ℕ) (r k : ℕ) (now : List ℕ) (difference sum : ℤ) : Type 0 where
  pub partition : IsPartition now
  pub move : Move e i k parts now
  pub later : (s : ℕ) → r ≤ s → part now s ≡ part parts s
  pub difference_is : difference ≡ pos (above e i r (addable now)) -ℤ pos (above e i r (removable parts))
  pub sum_is : sum ≡ exponent e i parts now

-- ---- the start

none_added : (parts : List ℕ) → IsPartition parts → length (added parts parts) ≡ 0
none_added parts pp = let d : degree parts ≡ degree parts + length (added parts parts) =
    degree_added parts parts pp (λ k. omega arith) in omega (arith, d)

-- Before the first row no node is chosen.
pub start : (e i : ℕ) (parts : List ℕ) → IsPartition parts → Before e i parts 1 0 parts (pos 0) (pos 0)
unfolding exponent int_sum
start e i parts pp = record {
  partition = pp;
  move = record {
    rows = λ k. omega arith;
    residues = λ r c hr hc w out. absurd (omega arith);
    count =
        none_added parts pp;
  };
  later = λ s lo. refl;
  difference_is = sym (ap₂ (λ m n. pos m -ℤ pos n) (above_addable-first e i parts) (above_removable-first e i parts));
  sum_is = sym (ap
      (λ xs. int_sum (map (λ x. pos (above e i x.0 (addable parts)) -ℤ pos (above e i x.0 (removable parts))) xs))
      (nil_from_length (added parts parts) (none_added parts pp)));
}

-- ---- two partitions that agree above a row have the same addable nodes there

above-alike : (e i : ℕ) (xs ys : List ℕ) (n : ℕ) → ((s : ℕ) → 1 ≤ s → s < n + 1 → part xs s ≡ part ys s) →
    above e i (n + 1) (addable xs) ≡ above e i (n + 1) (addable ys)
above-alike e i xs ys zero f = above_addable-first e i xs ∙ sym (above_addable-first e i ys)
above-alike e i xs ys (suc n) f =
    above_addable-next e i xs (suc n) (omega arith)
    ∙ ap₂ (λ m b. m + cond b 1 0)
    (subst (λ r. above e i r (addable xs) ≡ above e i r (addable ys)) (moved n)
    (above-alike e i xs ys n (λ s lo hi. f s lo (omega arith))))
    (addable_at-alike e i xs ys (suc n) (omega arith) (f (suc n) (omega arith) (omega arith))
    (λ more. f (suc n - 1) (omega arith) (omega arith)))
    ∙ sym (above_addable-next e i ys (suc n) (omega arith))
  where
    moved : (n : ℕ) → n + 1 ≡ suc n
    moved n = omega arith

above_addable-alike : (e i : ℕ) (xs ys : List ℕ) (r : ℕ) → 1 ≤ r → ((s : ℕ) → 1 ≤ s → s < r → part xs s ≡ part ys s) →
    above e i r (addable xs) ≡ above e i r (addable ys)
above_addable-alike e i xs ys r hr f =
    subst (λ n. above e i n (addable xs) ≡ above e i n (addable ys)) (back hr)
    (above-alike e i xs ys (r - 1) (λ s lo hi. f s lo (omega arith)))
  where
    back : 1 ≤ r → r - 1 + 1 ≡ r
    back h = omega arith

-- ---- sums with one more term

int_sum-append : (xs ys : List ℤ) → int_sum (xs ++ ys) ≡ int_sum xs +ℤ int_sum ys
unfolding int_sum
int_sum-append [] ys = omega (arith, ints)
int_sum-append (x ∷ xs) ys = omega (arith, ints, int_sum-append xs ys)

kept_sum : (t : Node → Bool) (f : Node → ℤ) (xs ys : List Node) →
    int_sum (map f (filter t (xs ++ ys))) ≡ int_sum (map f (filter t xs)) +ℤ int_sum (map f (filter t ys))
kept_sum t f xs ys = ap (λ l. int_sum (map f l)) (filter_append t xs ys)
    ∙ ap int_sum (map-append f (filter t xs) (filter t ys))
    ∙ int_sum-append (map f (filter t xs)) (map f (filter t ys))

sum-alike : (t : Node → Bool) (f g : Node → ℤ) (xs : List Node) → AllByRecursion (λ x. t x ≡ true → g x ≡ f x) xs →
    int_sum (map g (filter t xs)) ≡ int_sum (map f (filter t xs))
unfolding int_sum
sum-alike t f g [] h = refl
sum-alike t f g (x ∷ xs) (h, hs) =
    elim (t x) as (λ b. t x ≡ b →
    int_sum (map g (cond b (x ∷ filter t xs) (filter t xs))) ≡ int_sum
    (map f (cond b (x ∷ filter t xs) (filter t xs)))) [
      | true ↦ λ e. ap₂ (λ a b. a +ℤ b) (h e) (sum-alike t f g xs hs)
      | false ↦ λ e. sum-alike t f g xs hs
    ] refl

one_more_term : (t : Node → Bool) (f g : Node → ℤ) (x : Node) (smaller larger : List Node) →
    OneMore x smaller larger → t x ≡ true → AllByRecursion (λ y. t y ≡ true → g y ≡ f y) smaller →
    int_sum (map g (filter t larger)) ≡ int_sum (map f (filter t smaller)) +ℤ g x
unfolding int_sum
one_more_term t f g x smaller larger o tx h =
    ap (λ l. int_sum (map g (filter t l))) o.larger_is
    ∙ kept_sum t g o.front (x ∷ o.back)
    ∙ ap (λ b. int_sum (map g (filter t o.front)) +ℤ int_sum (map g (cond b (x ∷ filter t o.back) (filter t o.back))))
    tx
    ∙ ap₂ (λ a b. a +ℤ (g x +ℤ b))
    (sum-alike t f g o.front (all_left (λ y. t y ≡ true → g y ≡ f y) o.front o.back kept))
    (sum-alike t f g o.back (all_right (λ y. t y ≡ true → g y ≡ f y) o.front o.back kept))
    ∙ turned (int_sum (map f (filter t o.front))) (g x) (int_sum (map f (filter t o.back)))
    ∙ ap (λ s. s +ℤ g x) (sym (kept_sum t f o.front o.back) ∙ ap (λ l. int_sum (map f (filter t l))) (sym o.smaller_is))
  where
    kept : AllByRecursion (λ y. t y ≡ true → g y ≡ f y) (o.front ++ o.back)
    kept = subst (λ l. AllByRecursion (λ y. t y ≡ true → g y ≡ f y) l) o.smaller_is h

    turned : (a b c : ℤ) → a +ℤ (b +ℤ c) ≡ (a +ℤ c) +ℤ b
    turned a b c = omega (arith, ints)

-- ---- one row down

module _ (e i : ℕ) (he : 2 ≤ e) (parts : List ℕ) (pp : IsPartition parts) where
  -- the node that a row could gain is addable in the partition so far just where it is in the first
  pub same_addable : (r k : ℕ) (now : List ℕ) (d x : ℤ) → 1 ≤ r → Before e i parts r k now d x →
      addable_at e i now r ≡ addable_at e i parts r
  same_addable r k now d x hr st = same_tests (addable_at e i now r) (addable_at e i parts r)
      (λ a. facts_addable e i parts r hr (earlier (addable_facts e i now r a)))
      (λ a. facts_addable e i now r hr (grown (addable_facts e i parts r a)))
    where
      here : part now r ≡ part parts r
      here = st.later r (omega arith)

      over : part parts (r - 1) ≤ part now (r - 1)
      over = st.move.rows (r - 1 - 1)

      grown : Gains e i parts r → Gains e i now r
      grown g = record {
        room = λ more. omega (arith, g.room more, here, over);
        residue_is =
            ap (λ p. residue e (r, p + 1)) here ∙ g.residue_is;
      }

      earlier : Gains e i now r → Gains e i parts r
      earlier g = record { room = λ more. settle more (le_or_lt (part parts (r - 1)) (part parts r)); residue_is = res }
        where
          res : residue e (r, part parts r + 1) ≡ i
          res = ap (λ p. residue e (r, p + 1)) (sym here) ∙ g.residue_is

          settle : 1 < r → (part parts (r - 1) ≤ part parts r) ⊎ (part parts r < part parts (r - 1)) →
              part parts r < part parts (r - 1)
          settle more (inr lt) = lt
          settle more (inl le) =
              absurd (below_differs e (r - 1) (part parts r + 1) he
              (ap (λ n. residue e (n, part parts r + 1)) back ∙ res ∙ sym above_it))
            where
              back : r - 1 + 1 ≡ r
              back = omega arith

              above_it : residue e (r - 1, part parts r + 1) ≡ i
              above_it = st.move.residues (r - 1) (part parts r + 1) (omega arith) (omega arith)
                  (omega (arith, g.room more, here)) (omega arith)

  -- A row is passed: the difference goes up by its addable node and down by its removable one.
  pub pass : (r k : ℕ) (now : List ℕ) (d x : ℤ) → 1 ≤ r → Before e i parts r k now d x →
      Before e i parts (r + 1) k now
      ((d +ℤ pos (cond (addable_at e i parts r) 1 0)) -ℤ pos (cond (removable_at e i parts r) 1 0)) x
  pass r k now d x hr st = record {
    partition = st.partition;
    move = st.move;
    later = λ s lo. st.later s (omega arith);
    difference_is =
        let a : above e i (r + 1) (addable now) ≡ above e i r (addable now) + cond (addable_at e i parts r) 1 0 =
        above_addable-next e i now r hr
        ∙ ap (λ b. above e i r (addable now) + cond b 1 0) (same_addable r k now d x hr st) in
        sides d (above e i r (addable now)) (above e i r (removable parts)) (cond (addable_at e i parts r) 1 0)
        (cond (removable_at e i parts r) 1 0) _ _ st.difference_is a (above_removable-next e i parts r hr);
    sum_is = st.sum_is;
  }
    where
      sides : (d : ℤ) (m n a b m' n' : ℕ) → d ≡ pos m -ℤ pos n → m' ≡ m + a → n' ≡ n + b →
          (d +ℤ pos a) -ℤ pos b ≡ pos m' -ℤ pos n'
      sides d m n a b m' n' p q s = omega (arith, ints)

  module _ (r k : ℕ) (now : List ℕ) (d x : ℤ) (hr : 1 ≤ r) (st : Before e i parts r k now d x)
      (can : addable_at e i parts r ≡ true) where
    grown : List ℕ
    grown = grow (r - 1) now

    gains : Gains e i now r
    gains = addable_facts e i now r (same_addable r k now d x hr st ∙ can)

    room : Room now (r - 1)
    room = record { there = near (le_or_lt r 1); less = λ more. gains.room (omega arith) }
      where
        near : (r ≤ 1) ⊎ (1 < r) → r - 1 ≤ length now
        near (inl first) = omega arith
        near (inr more) = let short : r - 1 - 1 < length now =
            index_short now (r - 1 - 1) (omega (arith, gains.room more)) in omega arith

    -- The row of the chosen node has one node more.
    pub grown_here : part (grow (r - 1) now) r ≡ part now r + 1
    grown_here = grow_same now (r - 1) room.there

    -- All other rows are as they were.
    pub grown_elsewhere : (s : ℕ) → 1 ≤ s → s ≢ r → part (grow (r - 1) now) s ≡ part now s
    grown_elsewhere s hs ne = grow_other now (r - 1) (s - 1) (λ same. ne (omega arith))

    grown_partition : IsPartition (grow (r - 1) now)
    grown_partition = IsPartition-grow now (r - 1) st.partition room

    grown_rows : (j : ℕ) → slice_index parts j ≤ slice_index (grow (r - 1) now) j
    grown_rows j = settle (le_or_lt j (r - 1)) (le_or_lt (r - 1) j)
      where
        other : j ≢ r - 1 → slice_index parts j ≤ slice_index (grow (r - 1) now) j
        other ne = omega (arith, st.move.rows j, grow_other now (r - 1) j ne)

        settle : (j ≤ r - 1) ⊎ (r - 1 < j) → (r - 1 ≤ j) ⊎ (j < r - 1) →
            slice_index parts j ≤ slice_index (grow (r - 1) now) j
        settle (inl a) (inl b) =
            let same : r - 1 ≡ j = omega arith in
            let more : slice_index (grow (r - 1) now) j ≡ slice_index now j + 1 =
            subst (λ n. slice_index (grow (r - 1) now) n ≡ slice_index now n + 1) same
            (grow_same now (r - 1) room.there) in
            omega (arith, st.move.rows j, more)
        settle (inr a) b = other (λ same. omega arith)
        settle a (inr b) = other (λ same. omega arith)

    grown_residues : (s c : ℕ) → 1 ≤ s → 1 ≤ c → c ≤ part (grow (r - 1) now) s → part parts s < c → residue e (s, c) ≡ i
    grown_residues s c hs hc w out = settle (le_or_lt s r) (le_or_lt r s)
      where
        other : s ≢ r → residue e (s, c) ≡ i
        other ne = st.move.residues s c hs hc (omega (arith, grown_elsewhere s hs ne)) out

        settle : (s ≤ r) ⊎ (r < s) → (r ≤ s) ⊎ (s < r) → residue e (s, c) ≡ i
        settle (inl a) (inl b) = ap₂ (λ m n. residue e (m, n)) same column ∙ gains.residue_is
          where
            same : s ≡ r
            same = omega arith

            column : c ≡ part now r + 1
            column =
                let w' : c ≤ part (grow (r - 1) now) r = subst (λ n. c ≤ part (grow (r - 1) now) n) same w in
                let out' : part parts r < c = subst (λ n. part parts n < c) same out in
                omega (arith, grown_here, st.later r (omega arith))
        settle (inr a) b = other (λ same. omega arith)
        settle a (inr b) = other (λ same. omega arith)

    grown_count : length (added parts (grow (r - 1) now)) ≡ k + 1
    grown_count = omega (
      arith,
      degree_added parts (grow (r - 1) now) pp grown_rows,
      degree_added parts now pp st.move.rows,
      degree-grow now (r - 1) room.there,
      st.move.count,
    )

    -- above row r nothing has changed, and neither has the count
    same_above : (s : ℕ) → 1 ≤ s → s ≤ r → above e i s (addable (grow (r - 1) now)) ≡ above e i s (addable now)
    same_above s hs le =
        above_addable-alike e i (grow (r - 1) now) now s hs (λ t lo hi. grown_elsewhere t lo (λ same. omega arith))

    none_here : addable_at e i (grow (r - 1) now) r ≡ false
    none_here = false_from_ne_true (addable_at e i (grow (r - 1) now) r)
        (λ a. right_differs e r (part now r + 1) he
        (ap (λ p. residue e (r, p + 1)) (sym grown_here) ∙ (addable_facts e i (grow (r - 1) now) r a).residue_is
        ∙ sym gains.residue_is))

    grown_difference : d ≡ pos (above e i (r + 1) (addable (grow (r - 1) now))) -ℤ pos
        (above e i (r + 1) (removable parts))
    grown_difference =
        st.difference_is ∙ ap₂ (λ m n. pos m -ℤ pos n)
        (sym (above_addable-next e i (grow (r - 1) now) r hr
        ∙ ap₂ (λ m b. m + cond b 1 0) (same_above r hr (omega arith)) none_here
        ∙ nothing (above e i r (addable now))))
        (sym (above_removable-next e i parts r hr
        ∙ ap (λ b. above e i r (removable parts) + cond b 1 0)
        (false_from_ne_true (removable_at e i parts r) (not_both e i parts r he can))
        ∙ nothing (above e i r (removable parts))))
      where
        nothing : (n : ℕ) → n + 0 ≡ n
        nothing n = omega arith

    term : List ℕ → Node → ℤ
    term after x = pos (above e i x.0 (addable after)) -ℤ pos (above e i x.0 (removable parts))

    grown_sum : x +ℤ d ≡ exponent e i parts (grow (r - 1) now)
    unfolding exponent term
    grown_sum =
        ap₂ (λ a b. a +ℤ b) st.sum_is (st.difference_is ∙ sym new_term)
        ∙ sym (one_more_term (λ y. not (in_diagram parts y)) (term now) (term (grow (r - 1) now))
        (1 + (r - 1), part now r + 1) (nodes now) (nodes (grow (r - 1) now))
        (nodes-grow 1 now (r - 1) room.there) outside old_terms)
      where
        row : 1 + (r - 1) ≡ r
        row = omega arith

        new_term : term (grow (r - 1) now) (1 + (r - 1), part now r + 1) ≡ pos (above e i r (addable now)) -ℤ pos
            (above e i r (removable parts))
        new_term = ap (λ n. pos (above e i n (addable (grow (r - 1) now))) -ℤ pos (above e i n (removable parts))) row
            ∙ ap (λ m. pos m -ℤ pos (above e i r (removable parts))) (same_above r hr (omega arith))

        outside : not (in_diagram parts (1 + (r - 1), part now r + 1)) ≡ true
        outside = ap (λ n. not (in_diagram parts (n, part now r + 1))) row
            ∙ ap not (out_node parts r (part now r + 1) hr (omega arith) (omega (arith, st.later r (omega arith))))

        old_terms : AllByRecursion (λ y. not (in_diagram parts y) ≡ true → term (grow (r - 1) now) y ≡ term now y)
            (nodes now)
        old_terms = all_nodes (λ y. not (in_diagram parts y) ≡ true → term (grow (r - 1) now) y ≡ term now y) now
            (λ s c hs hc w out. ap (λ m. pos m -ℤ pos (above e i s (removable parts)))
            (same_above s hs (high s c hs hc w out (le_or_lt s r))))
          where
            high : (s c : ℕ) → 1 ≤ s → 1 ≤ c → c ≤ part now s → not (in_diagram parts (s, c)) ≡ true →
                (s ≤ r) ⊎ (r < s) → s ≤ r
            high s c hs hc w out (inl le) = le
            high s c hs hc w out (inr lt) =
                absurd (true≢false
                (sym out ∙ ap not (in_node parts s c hs hc (omega (arith, st.later s (omega arith))))))

    -- The node of a row is chosen: the difference goes onto the sum.
    pub choose : Before e i parts (r + 1) (k + 1) (grow (r - 1) now) d (x +ℤ d)
    choose = record {
      partition = grown_partition;
      move = record { rows = grown_rows; residues = grown_residues; count = grown_count };
      later = λ s lo. grown_elsewhere s (omega arith) (λ same. omega arith) ∙ st.later s (omega arith);
      difference_is = grown_difference;
      sum_is = grown_sum;
    }
