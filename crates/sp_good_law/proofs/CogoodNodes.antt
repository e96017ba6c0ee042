-- Adding the cogood node keeps e-regularity.
-- It could break regularity only where the e - 1 rows above are all one node longer. But then the first of them can
-- gain a node of the same residue, and no mark stands between: so the lower node isn't the highest A left.
use Rattle.std.proofs.Common.{◌≡◌, ◌≢◌, ℕ, ◌+◌, ◌-◌, ◌<◌, ◌≤◌, true, List, [], ◌∷◌, ◌++◌, length, refl, sym}
use Rattle.std.proofs.Common.{◌∙◌, ap, ap₂, subst, arith, slice_index, Option, Some, None}
use Rattle.std.specs.List.{AllByRecursion}
use Rattle.sp_defs.specs.Partition.{part, IsPartition, is_regular}
use Rattle.sp_defs.specs.Node.{Node, residue, is_addable}
use Rattle.sp_defs.specs.Signature.{Addable, Removable, Mark, row_marks, signature, joined, reduced, addables, first}
use Rattle.sp_defs.specs.Signature.{cogood, add_node, grow}
use Rattle.sp_shapes.proofs.Corners.{part_is, row_addable, addable_row}
use Rattle.sp_shapes.proofs.Grow.{Room, IsPartition-grow}
use Rattle.sp_shapes.proofs.Regular.{regular_gap}
use Rattle.sp_shapes.proofs.Residues.{full_turn}
use Rattle.sp_shapes.proofs.RowRegular.{RowRegular, rows_regular}
use Rattle.sp_good_law.proofs.Kept.{grow_regular}
use Rattle.sp_good_law.proofs.Marks.{all_reduced, IsMark, row_A, marks_from, rows_facts}
use Rattle.sp_good_law.proofs.Marks.{signature_rows}
use Rattle.sp_lists.proofs.Places.{all_weaken}
use Rattle.sp_good_law.proofs.Parted.{IsAbout, about_two, descends_to, none_above}

-- ---- two A with nothing to part them: the lower is not the first A left

joined_first : (x : Node) (m : Mark) (ms : List Mark) → m ≢ (Addable, x) → first (addables ms) ≢ Some x →
    first (addables (joined m ms)) ≢ Some x
unfolding addables
joined_first x (Removable, y) ms ne f = f
joined_first x (Addable, y) [] ne f = λ e. ne (ap (λ z. (Addable, z)) (out e))
  where
    out : Some y ≡ Some x → y ≡ x
    out e = cc
joined_first x (Addable, y) ((Removable, z) ∷ ms) ne f = f
joined_first x (Addable, y) ((Addable, z) ∷ ms) ne f = λ e. ne (ap (λ z. (Addable, z)) (out e))
  where
    out : Some y ≡ Some x → y ≡ x
    out e = cc

-- marks in front that are not A at x change nothing
reduced_first : (x : Node) (pre ms : List Mark) → AllByRecursion (λ m. m ≢ (Addable, x)) pre →
    first (addables (reduced ms)) ≢ Some x → first (addables (reduced (pre ++ ms))) ≢ Some x
unfolding reduced
reduced_first x [] ms h f = f
reduced_first x (m ∷ pre) ms (h, hs) f = joined_first x m (reduced (pre ++ ms)) h (reduced_first x pre ms hs f)

-- a fact of each A in the list holds of the first A left
abbrev OnA : (Node → Type 0) → Mark → Type 0
OnA P (Addable, x) = P x
OnA P (Removable, x) = Unit {0}

first_fact : (P : Node → Type 0) (ms : List Mark) (x : Node) → AllByRecursion (OnA P) ms →
    first (addables ms) ≡ Some x → P x
unfolding addables
first_fact P [] x h e = absurd (let z : ◌≡◌ {A = Option Node} None (Some x) = e in cc)
first_fact P ((Removable, y) ∷ ms) x (h, hs) e = first_fact P ms x hs e
first_fact P ((Addable, y) ∷ ms) x (h, hs) e = let s : y ≡ x = cc in subst P s h

-- either the lower of two A goes out with an R below, or the upper one comes first
two_addable : (y x : Node) (post : List Mark) → y ≢ x → AllByRecursion (λ m. m ≢ (Addable, x)) post →
    first (addables (reduced ((Addable, y) ∷ (Addable, x) ∷ post))) ≢ Some x
unfolding reduced addables
two_addable y x post ne hp = settle (reduced post) (all_reduced (λ m. m ≢ (Addable, x)) post hp)
  where
    apart : ◌≡◌ {A = Mark} (Addable, y) (Addable, x) → ⊥
    apart e = ne (ap (λ m. m.1) e)

    out : Some y ≡ Some x → y ≡ x
    out e = cc

    settle : (u : List Mark) → AllByRecursion (λ m. m ≢ (Addable, x)) u →
        first (addables (joined (Addable, y) (joined (Addable, x) u))) ≢ Some x
    settle [] h = λ e. ne (out e)
    settle ((Addable, z) ∷ u) h = λ e. ne (out e)
    settle ((Removable, z) ∷ u) h = joined_first x (Addable, y) u apart
        (λ e. first_fact (λ z. z ≢ x) u x (all_weaken (λ m. m ≢ (Addable, x)) (OnA (λ z. z ≢ x)) u on_A h.1) e refl)
      where
        on_A : (m : Mark) → m ≢ (Addable, x) → OnA (λ z. z ≢ x) m
        on_A (Addable, z) n = λ s. n (ap (λ z. (Addable, z)) s)
        on_A (Removable, z) n = tt

module _ (e : ℕ) (he : 2 ≤ e) (i : ℕ) (parts : List ℕ) (pp : IsPartition parts) where
  -- ---- the cogood node, and when a node isn't cogood

  -- an A, and its row is one of those in the signature
  abbrev InRange : Node → Type 0
  InRange x = IsMark e i parts (Addable, x) × (1 ≤ x.0) × (x.0 < 1 + (length parts + 1))

  -- The cogood node is addable, right of its row, of residue i, and in one of the rows of the signature.
  pub cogood_fact : (x : Node) → cogood e i parts ≡ Some x →
      (is_addable parts x ≡ true) × (residue e x ≡ i) × (x.1 ≡ part parts x.0 + 1) × (1 ≤ x.0) ×
      (x.0 < 1 + (length parts + 1))
  cogood_fact x g =
      let f = first_fact InRange (reduced (signature e i parts)) x
      (all_reduced (OnA InRange) (signature e i parts) facts) g in
      (f.0.0, f.0.1, f.0.2, f.1, f.2)
    where
      on_A : (m : Mark) → (1 ≤ m.1.0) × (m.1.0 < 1 + (length parts + 1)) × IsMark e i parts m → OnA InRange m
      on_A (Addable, x) f = (f.2, f.0, f.1)
      on_A (Removable, x) f = tt

      facts : AllByRecursion (OnA InRange) (signature e i parts)
      facts = subst (AllByRecursion (OnA InRange)) (sym (signature_rows e i parts (length parts + 1) refl))
          (all_weaken (λ m. (1 ≤ m.1.0) × (m.1.0 < 1 + (length parts + 1)) × IsMark e i parts m) (OnA InRange)
          (marks_from e i parts 1 (length parts + 1)) on_A (rows_facts e i parts 1 (length parts + 1)))

  -- where the last row with a mark above has an A too, the lower A isn't the first left
  preceded : (y x : Node) → y.0 < x.0 → IsAbout e i parts (Addable, y) (Addable, x) → cogood e i parts ≢ Some x
  preceded y x lt t g =
      reduced_first x t.pre ((Addable, y) ∷ (Addable, x) ∷ t.post) (t.before (Addable, x) (omega arith))
      (two_addable y x t.post apart (t.after (Addable, x) (omega arith)))
      (ap (λ s. first (addables (reduced s))) (sym t.whole) ∙ g)
    where
      apart : y ≢ x
      apart s = let q : y.0 ≡ x.0 = ap (λ z. z.0) s in omega (arith, q, lt)

  -- ---- adding the cogood node keeps regularity

  module _ (reg : is_regular e parts ≡ true) where
    room_of : (k : ℕ) → k ≤ length parts → is_addable parts (1 + k, part parts (1 + k) + 1) ≡ true → Room parts k
    room_of k there add = record { there = there; less = above }
      where
        above : 0 < k → slice_index parts k < slice_index parts (k - 1)
        above w = omega (
          arith,
          addable_row parts (1 + k) add (omega arith),
          part_is parts (1 + k) k (omega arith),
          part_is parts (1 + k - 1) (k - 1) (omega arith),
        )

    kept_at : (k : ℕ) → k ≤ length parts → is_addable parts (1 + k, part parts (1 + k) + 1) ≡ true →
        residue e (1 + k, part parts (1 + k) + 1) ≡ i → cogood e i parts ≡ Some (1 + k, part parts (1 + k) + 1) →
        RowRegular e (grow k parts)
    kept_at k there add res g =
        grow_regular e parts k he pp (regular_gap e parts (omega arith) pp reg) (room_of k there add) clash
      where
        c : ℕ
        c = slice_index parts k + 1

        part_x : part parts (1 + k) ≡ slice_index parts k
        part_x = part_is parts (1 + k) k (omega arith)

        clash : (j : ℕ) → j + (e - 1) ≡ k → slice_index parts j ≢ slice_index parts k + 1
        clash j at eq =
            preceded (1 + j, part parts (1 + j) + 1) (row_x, part parts row_x + 1) (omega arith)
            (about_two e i parts j (e - 2) (Addable, (1 + j, part parts (1 + j) + 1))
            (Addable, (row_x, part parts row_x + 1)) (omega (arith, there)) refl refl
            (row_A e i parts he (1 + j) add_y res_y) (row_A e i parts he row_x add_x res_x) none)
            (g ∙ ap (λ r. Some (r, part parts r + 1)) turn)
          where
            row_x : ℕ
            row_x = 1 + j + 1 + (e - 2)

            turn : 1 + k ≡ row_x
            turn = omega arith

            add_x : is_addable parts (row_x, part parts row_x + 1) ≡ true
            add_x = subst (λ r. is_addable parts (r, part parts r + 1) ≡ true) turn add

            res_x : residue e (row_x, part parts row_x + 1) ≡ i
            res_x = subst (λ r. residue e (r, part parts r + 1) ≡ i) turn res

            -- from row j to the row before k all parts are c
            value : (s : ℕ) → j ≤ s → s < k → slice_index parts s ≡ c
            value s lo hi = omega (
              arith,
              descends_to parts pp j s lo,
              descends_to parts pp s (k - 1) (omega arith),
              eq,
              (room_of k there add).less (omega arith),
            )

            part_y : part parts (1 + j) ≡ c
            part_y = part_is parts (1 + j) j (omega arith) ∙ value j (omega arith) (omega arith)

            -- row 1 + j can gain a node, since the row above it is longer by regularity
            add_y : is_addable parts (1 + j, part parts (1 + j) + 1) ≡ true
            add_y = row_addable parts (1 + j) (omega arith) (λ w. over (omega arith))
              where
                over : 0 < j → part parts (1 + j) < part parts (1 + j - 1)
                over w = omega (
                  arith,
                  last_is,
                  regular_gap e parts (omega arith) pp reg (j - 1) (omega (arith, last_is)),
                  part_y,
                  part_is parts (1 + j - 1) (j - 1) (omega arith),
                )
                  where
                    place : j - 1 + (e - 1) ≡ k - 1
                    place = omega arith

                    last_is : slice_index parts (j - 1 + (e - 1)) ≡ c
                    last_is = ap (slice_index parts) place ∙ value (k - 1) (omega arith) (omega arith)

            res_y : residue e (1 + j, part parts (1 + j) + 1) ≡ i
            res_y =
                sym (full_turn e (1 + j) (part parts (1 + j) + 1) he (omega arith))
                ∙ ap₂ (λ r d. residue e (r, d)) down (omega (arith, part_y, part_x))
                ∙ res
              where
                down : 1 + j + (e - 1) ≡ 1 + k
                down = omega arith

            none : (r : ℕ) → 1 + j + 1 ≤ r → r < 1 + j + 1 + (e - 2) → row_marks e i parts r ≡ []
            none r lo hi = none_above e i parts r (1 + k - r) (1 + k) (part parts (1 + k) + 1) he res (omega arith)
                (omega arith) (omega arith)
                (part_is parts r (r - 1) (omega arith)
                ∙ value (r - 1) (omega arith) (omega arith)
                ∙ ap (λ n. n + 1) (sym part_x))

    -- adding the cogood node gives a regular partition
    pub cogood_keeps : (x : Node) → cogood e i parts ≡ Some x →
        IsPartition (add_node parts x) × (is_regular e (add_node parts x) ≡ true)
    cogood_keeps (r, c) g =
        (grown, rows_regular e (grow (r - 1) parts) he grown (kept_at (r - 1) there add res cogood_here))
      where
        fact : (is_addable parts (r, c) ≡ true) × (residue e (r, c) ≡ i) × (c ≡ part parts r + 1) × (1 ≤ r) ×
            (r < 1 + (length parts + 1))
        fact = cogood_fact (r, c) g

        there : r - 1 ≤ length parts
        there = omega (arith, fact.3, fact.4)

        here : ◌≡◌ {A = Node} (r, c) (1 + (r - 1), part parts (1 + (r - 1)) + 1)
        here = ap₂ (λ a b. (a, b)) (back fact.3) (fact.2 ∙ ap (λ n. part parts n + 1) (back fact.3))
          where
            back : 1 ≤ r → r ≡ 1 + (r - 1)
            back h = omega arith

        add : is_addable parts (1 + (r - 1), part parts (1 + (r - 1)) + 1) ≡ true
        add = subst (λ x. is_addable parts x ≡ true) here fact.0

        res : residue e (1 + (r - 1), part parts (1 + (r - 1)) + 1) ≡ i
        res = subst (λ x. residue e x ≡ i) here fact.1

        cogood_here : cogood e i parts ≡ Some (1 + (r - 1), part parts (1 + (r - 1)) + 1)
        cogood_here = g ∙ ap Some here

        grown : IsPartition (grow (r - 1) parts)
        grown = IsPartition-grow parts (r - 1) pp (room_of (r - 1) there add)
