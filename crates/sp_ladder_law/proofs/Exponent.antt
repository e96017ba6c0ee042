-- On the one chain to mu no addable or removable node of the residue stands above an added node, so each exponent is 0.
use Rattle.std.proofs.Common.{◌≡◌, ℕ, suc, ◌+◌, ◌-◌, ◌*◌, ◌<◌, ◌≤◌, Bool, true, false, not, ◌&&◌, nat_eq, nat_lt}
use Rattle.std.proofs.Common.{List, [], ◌∷◌, map, refl, sym, ◌∙◌, ap, ap₂, arith, ◌⊎◌, inl, inr, eqb-true, ltb-true}
use Rattle.std.proofs.Common.{true≢false, ℤ, pos, ◌+ℤ◌, ◌-ℤ◌, mul-le-mul_left}
use Rattle.std.specs.List.{AllByRecursion}
use Rattle.sp_defs.specs.Partition.{part, IsPartition, is_regular}
use Rattle.sp_defs.specs.Node.{Node, in_diagram, nodes, residue, is_addable, is_removable, addable, removable, row_ends}
use Rattle.sp_defs.specs.Laurent.{int_sum}
use Rattle.sp_defs.specs.Power.{added, above, exponent}
use Rattle.sp_defs.specs.Ladder.{ladder_of, ladder_residue}
use Rattle.sp_lists.proofs.Elements.{and_split, le_or_lt, all_every, all_filter, all_map, count_zero}
use Rattle.sp_shapes.proofs.Corners.{IsAddable, addable_facts, IsRemovable, removable_facts}
use Rattle.sp_shapes.proofs.Diagram.{Inside, in_node, node_in, all_nodes}
use Rattle.sp_shapes.proofs.Residues.{residue_ladder, ladder_step}
use Rattle.sp_shapes.proofs.Regular.{lower_earlier}
use Rattle.sp_ladder_law.proofs.Reach.{left_ladder}
use Rattle.sp_ladder_law.proofs.Truncated.{upto, upto_in, upto_out, on_next}

zero_sum : (xs : List ℤ) → AllByRecursion (λ z. z ≡ pos 0) xs → int_sum xs ≡ pos 0
unfolding int_sum
zero_sum [] h = refl
zero_sum (x ∷ xs) (h, hs) = ap₂ (λ a b. a +ℤ b) h (zero_sum xs hs)

-- a node that is no i-node above row r
not_above : (e i r : ℕ) (y : Node) → (residue e y ≡ i → y.0 < r → ⊥) → (nat_eq (residue e y) i && nat_lt y.0 r) ≡ false
not_above e i r y f = tested (nat_eq (residue e y) i && nat_lt y.0 r) refl
  where
    tested : (b : Bool) → (nat_eq (residue e y) i && nat_lt y.0 r) ≡ b → b ≡ false
    tested true h =
        let p = and_split (nat_eq (residue e y) i) (nat_lt y.0 r) h in
        absurd (f (eqb-true (residue e y) i p.0) (ltb-true y.0 r p.1))
    tested false h = refl

module _ (e : ℕ) (he : 2 ≤ e) (mu : List ℕ) (pm : IsPartition mu) (reg : is_regular e mu ≡ true) where
  -- the nodes of mu on the ladders up to l
  abbrev cut_at : ℕ → List ℕ
  cut_at l = upto e he mu pm l

  -- a node of mu stands on an earlier ladder than a place right of mu in a higher row
  right_of : (r c s d : ℕ) → 1 ≤ s → s < r → 1 ≤ c → c ≤ part mu r → 1 ≤ d → part mu s < d →
      ladder_of e (r, c) < ladder_of e (s, d)
  right_of r c s d hs lt hc w hd out = omega (arith, first_place, further)
    where
      first_place : 1 + (r - 1) + (e - 1) * (c - 1) < 1 + (s - 1) + (e - 1) * part mu s
      first_place = lower_earlier e mu he pm reg (s - 1) (r - 1) c (omega arith) hc w

      further : (e - 1) * part mu s ≤ (e - 1) * (d - 1)
      further = mul-le-mul_left (e - 1) (omega arith)

  -- ---- no addable node of the next cut

  -- A node added by ladder n + 1 has no addable node of its residue above it. The addable node's left or upper
  -- neighbour is in the cut, so its ladder is less than e past n + 1; having the residue, it is at most n + 1. In mu
  -- such a node would be in the cut, and outside mu it would stand on a later ladder.
  no_addable : (n r c : ℕ) → 1 ≤ r → 1 ≤ c → c ≤ part mu r → ladder_of e (r, c) ≡ suc n → (y : Node) →
      is_addable (upto e he mu pm (suc n)) y ≡ true → residue e y ≡ ladder_residue e (suc n) → y.0 < r → ⊥
  no_addable n r c hr hc w on (s, d) h same lt = by_neighbours facts.left facts.up
    where
      l : ℕ
      l = suc n

      facts : IsAddable (cut_at l) s d
      facts = addable_facts (cut_at l) s d h

      near_is_absurd : 1 ≤ s → 1 ≤ d → ladder_of e (s, d) < l + e → ⊥
      near_is_absurd hs hd near = settle (le_or_lt d (part mu s))
        where
          low : ladder_of e (s, d) ≤ l
          low = ladder_step e (ladder_of e (s, d)) l he (sym (residue_ladder e s d he hd) ∙ same) near

          settle : (d ≤ part mu s) ⊎ (part mu s < d) → ⊥
          settle (inl v) =
              true≢false
              (sym (in_node (cut_at l) s d hs hd (upto_in e he mu pm l s d hs hd v low)) ∙ facts.outside)
          settle (inr v) =
              let k : ladder_of e (r, c) < ladder_of e (s, d) = right_of r c s d hs lt hc w hd v in
              omega (arith, k, low, on)

      by_neighbours : (d ≡ 1) ⊎ (in_diagram (cut_at l) (s, d - 1) ≡ true) →
          (s ≡ 1) ⊎ (in_diagram (cut_at l) (s - 1, d) ≡ true) → ⊥
      by_neighbours (inr i) up =
          let v = node_in (cut_at l) s (d - 1) i in
          let k = upto_out e he mu pm l s (d - 1) v.row v.column v.within in
          near_is_absurd v.row (omega (arith, v.column)) (omega (arith, k.1, beside v.column))
        where
          beside : 1 ≤ d - 1 → ladder_of e (s, d) ≡ ladder_of e (s, d - 1) + (e - 1)
          beside hd =
              ap (λ m. ladder_of e (s, m)) (two hd)
              ∙ left_ladder e s (d - 2)
              ∙ ap (λ m. ladder_of e (s, m) + (e - 1)) (one hd)
            where
              two : 1 ≤ d - 1 → d ≡ d - 2 + 2
              two h = omega arith

              one : 1 ≤ d - 1 → d - 2 + 1 ≡ d - 1
              one h = omega arith
      by_neighbours (inl d1) (inl s1) =
          let g : ladder_of e (s, d) ≡ s + (e - 1) * 0 = ap (λ m. s + (e - 1) * (m - 1)) d1 in
          near_is_absurd (omega arith) (omega arith) (omega (arith, g))
      by_neighbours (inl d1) (inr j) =
          let v = node_in (cut_at l) (s - 1) d j in
          let k = upto_out e he mu pm l (s - 1) d v.row v.column v.within in
          let hs : 1 ≤ s - 1 = v.row in
          let g : ladder_of e (s, d) ≡ s + (e - 1) * 0 = ap (λ m. s + (e - 1) * (m - 1)) d1 in
          let g' : ladder_of e (s - 1, d) ≡ s - 1 + (e - 1) * 0 = ap (λ m. s - 1 + (e - 1) * (m - 1)) d1 in
          near_is_absurd (omega (arith, hs)) (omega arith) (omega (arith, k.1, g, g', hs))

  -- ---- no removable node of the last cut

  -- A removable node of the residue above it stands e or more ladders earlier. So its right neighbour is on an earlier
  -- ladder too: in mu it would be in the cut, and outside mu it would stand on a later one.
  no_removable : (n r c : ℕ) → 1 ≤ r → 1 ≤ c → c ≤ part mu r → ladder_of e (r, c) ≡ suc n → (y : Node) →
      is_removable (upto e he mu pm n) y ≡ true → residue e y ≡ ladder_residue e (suc n) → y.0 < r → ⊥
  no_removable n r c hr hc w on (s, d) h same lt =
      at_node_of v.row v.column low (le_or_lt (ladder_of e (s, d) + e) (suc n))
    where
      facts : IsRemovable (cut_at n) s d
      facts = removable_facts (cut_at n) s d h

      v : Inside (cut_at n) s d
      v = node_in (cut_at n) s d facts.inside

      low : ladder_of e (s, d) ≤ n
      low = (upto_out e he mu pm n s d v.row v.column v.within).1

      at_node_of : 1 ≤ s → 1 ≤ d → ladder_of e (s, d) ≤ n →
          (ladder_of e (s, d) + e ≤ suc n) ⊎ (suc n < ladder_of e (s, d) + e) → ⊥
      at_node_of hs hd low (inr near) =
          let k : suc n ≤ ladder_of e (s, d) = ladder_step e (suc n) (ladder_of e (s, d)) he
          (sym (sym (residue_ladder e s d he hd) ∙ same)) near in
          omega arith
      at_node_of hs hd low (inl far) = settle (le_or_lt (d + 1) (part mu s))
        where
          next : ladder_of e (s, d + 1) ≡ ladder_of e (s, d) + (e - 1)
          next =
              ap (λ m. ladder_of e (s, m)) (two d hd)
              ∙ left_ladder e s (d - 1)
              ∙ ap (λ m. ladder_of e (s, m) + (e - 1)) (one d hd)
            where
              two : (d : ℕ) → 1 ≤ d → d + 1 ≡ d - 1 + 2
              two d h = omega arith

              one : (d : ℕ) → 1 ≤ d → d - 1 + 1 ≡ d
              one d h = omega arith

          settle : (d + 1 ≤ part mu s) ⊎ (part mu s < d + 1) → ⊥
          settle (inl v) =
              let u : d + 1 ≤ part (cut_at n) s =
              upto_in e he mu pm n s (d + 1) hs (omega arith) v (omega (arith, next, far)) in
              true≢false (sym (in_node (cut_at n) s (d + 1) hs (omega arith) u) ∙ facts.right)
          settle (inr v) =
              let k : ladder_of e (r, c) < ladder_of e (s, d + 1) = right_of r c s (d + 1) hs lt hc w (omega arith) v in
              omega (arith, k, next, far, on)

  -- ---- the exponent

  -- The move from one cut to the next has exponent 0.
  pub zero_exponent : (n : ℕ) →
      exponent e (ladder_residue e (suc n)) (upto e he mu pm n) (upto e he mu pm (suc n)) ≡ pos 0
  unfolding exponent
  zero_exponent n = zero_sum (map term (added before after)) (all_map (λ z. z ≡ pos 0) term (added before after)
      (all_filter (λ x. term x ≡ pos 0) (λ x. not (in_diagram before x)) (nodes after)
      (all_nodes (λ x. not (in_diagram before x) ≡ true → term x ≡ pos 0) after each)))
    where
      before : List ℕ
      before = cut_at n

      after : List ℕ
      after = cut_at (suc n)

      i : ℕ
      i = ladder_residue e (suc n)

      term : Node → ℤ
      term x = pos (above e i x.0 (addable after)) -ℤ pos (above e i x.0 (removable before))

      NotAbove : ℕ → Node → Type 0
      NotAbove r y = (nat_eq (residue e y) i && nat_lt y.0 r) ≡ false

      no_addables : (r c : ℕ) → 1 ≤ r → 1 ≤ c → c ≤ part mu r → ladder_of e (r, c) ≡ suc n →
          above e i r (addable after) ≡ 0
      no_addables r c hr hc w on = count_zero (λ y. nat_eq (residue e y) i && nat_lt y.0 r) (addable after)
          (all_filter (NotAbove r) (is_addable after) (row_ends after)
          (all_every (λ y. is_addable after y ≡ true → NotAbove r y) (row_ends after)
          (λ y a. not_above e i r y (no_addable n r c hr hc w on y a))))

      no_removables : (r c : ℕ) → 1 ≤ r → 1 ≤ c → c ≤ part mu r → ladder_of e (r, c) ≡ suc n →
          above e i r (removable before) ≡ 0
      no_removables r c hr hc w on = count_zero (λ y. nat_eq (residue e y) i && nat_lt y.0 r) (removable before)
          (all_filter (NotAbove r) (is_removable before) (nodes before)
          (all_every (λ y. is_removable before y ≡ true → NotAbove r y) (nodes before)
          (λ y a. not_above e i r y (no_removable n r c hr hc w on y a))))

      each : (r c : ℕ) → 1 ≤ r → 1 ≤ c → c ≤ part after r → not (in_diagram before (r, c)) ≡ true → term (r, c) ≡ pos 0
      each r c hr hc w out =
          let f = on_next e he mu pm n r c hr hc w (outside (le_or_lt c (part before r))) in
          ap₂ (λ x y. pos x -ℤ pos y) (no_addables r c hr hc f.1 f.0) (no_removables r c hr hc f.1 f.0)
        where
          outside : (c ≤ part before r) ⊎ (part before r < c) → part before r < c
          outside (inl v) = absurd (true≢false (sym out ∙ ap not (in_node before r c hr hc v)))
          outside (inr v) = v
