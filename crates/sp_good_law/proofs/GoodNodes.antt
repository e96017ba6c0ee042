-- Good moves keep e-regularity, and an e-regular partition that isn't empty has a good node.
-- Removing a node could break regularity only where the next e - 1 rows are one node shorter. But then the node e - 1
-- rows further down is removable too, has the same residue, and no mark stands between: so the upper node isn't the
-- good one.
use Rattle.std.proofs.Common.{◌≡◌, ◌≢◌, ℕ, zero, suc, ◌+◌, ◌-◌, ◌<◌, ◌≤◌, true, List, [], ◌∷◌, ◌++◌, length, refl}
use Rattle.std.proofs.Common.{sym, ◌∙◌, ap, ap₂, subst, arith, slice_index, ◌⊎◌, inl, inr, Option, Some, None}
use Rattle.std.proofs.Common.{append-nil}
use native.Mathlib.Nat.{mod-lt}
use Rattle.std.specs.List.{AllByRecursion}
use Rattle.sp_defs.specs.Partition.{part, IsPartition, is_regular}
use Rattle.sp_defs.specs.Node.{Node, residue, is_removable}
use Rattle.sp_defs.specs.Signature.{Addable, Removable, Mark, row_marks, signature, joined, reduced, removables, last}
use Rattle.sp_defs.specs.Signature.{good, remove_node, shrink}
use Rattle.sp_lists.proofs.Elements.{le_or_lt}
use Rattle.sp_shapes.proofs.Diagram.{node_in, IsPartition-tail}
use Rattle.sp_shapes.proofs.Corners.{part_is, removable_facts, row_removable, removable_row}
use Rattle.sp_shapes.proofs.Regular.{regular_gap, index_short}
use Rattle.sp_shapes.proofs.Residues.{same_column, column_before, full_turn}
use Rattle.sp_shapes.proofs.RowRegular.{RowRegular, rows_regular}
use Rattle.sp_shapes.proofs.Shrink.{Corner, IsPartition-shrink}
use Rattle.sp_good_law.proofs.Kept.{shrink_regular}
use Rattle.sp_good_law.proofs.Marks.{all_reduced, IsMark, row_R, row_none, marks_from, rows_facts, none_of, split_at}
use Rattle.sp_good_law.proofs.Marks.{signature_rows}
use Rattle.sp_lists.proofs.Places.{all_weaken}
use Rattle.sp_good_law.proofs.Parted.{IsAbout, about_two, descends_to, none_above}

-- ---- two R with nothing to part them: the upper is not the last R left

-- some R is in the list
HasR : List Mark → Type 0
HasR [] = ⊥
HasR ((Removable, x) ∷ ms) = Unit {0}
HasR ((Addable, x) ∷ ms) = HasR ms

-- wherever R at x stands, another R stands further down
Fine : Node → List Mark → Type 0
Fine x [] = Unit {0}
Fine x (m ∷ ms) = (m ≡ (Removable, x) → HasR ms) × Fine x ms

joined_fine : (x : Node) (m : Mark) (ms : List Mark) → m ≢ (Removable, x) → Fine x ms → Fine x (joined m ms)
unfolding Fine
joined_fine x (Removable, y) ms ne f = ((λ e. absurd (ne e)), f)
joined_fine x (Addable, y) [] ne f = ((λ e. absurd (ne e)), f)
joined_fine x (Addable, y) ((Removable, z) ∷ ms) ne f = f.1
joined_fine x (Addable, y) ((Addable, z) ∷ ms) ne f = ((λ e. absurd (ne e)), f)

-- marks in front that are not R at x change nothing
reduced_fine : (x : Node) (pre ms : List Mark) → AllByRecursion (λ m. m ≢ (Removable, x)) pre → Fine x (reduced ms) →
    Fine x (reduced (pre ++ ms))
unfolding reduced
reduced_fine x [] ms h f = f
reduced_fine x (m ∷ pre) ms (h, hs) f = joined_fine x m (reduced (pre ++ ms)) h (reduced_fine x pre ms hs f)

has_some : (ms : List Mark) → HasR ms → removables ms ≢ []
unfolding HasR removables
has_some [] h e = absurd h
has_some ((Removable, x) ∷ ms) h e = cc
has_some ((Addable, x) ∷ ms) h e = has_some ms h e

not_last : (x : Node) (ms : List Mark) → Fine x ms → last (removables ms) ≢ Some x
unfolding Fine removables last
not_last x [] f e = cc
not_last x ((Addable, y) ∷ ms) f e = not_last x ms f.1 e
not_last x ((Removable, y) ∷ ms) f e = settle (removables ms) refl (not_last x ms f.1) e
  where
    settle : (q : List Node) → removables ms ≡ q → (last (removables ms) ≢ Some x) → last (y ∷ q) ≡ Some x → ⊥
    settle [] eq ih e = let s : y ≡ x = cc in has_some ms (f.0 (ap (λ z. (Removable, z)) s)) eq
    settle (z ∷ q) eq ih e = ih (ap last eq ∙ e)

two_removable : (x y : Node) (pre post : List Mark) → AllByRecursion (λ m. m ≢ (Removable, x)) pre → y ≢ x →
    AllByRecursion (λ m. m ≢ (Removable, x)) post →
    last (removables (reduced (pre ++ ((Removable, x) ∷ (Removable, y) ∷ post)))) ≢ Some x
unfolding reduced Fine HasR
two_removable x y pre post hp ne hq = not_last x (reduced (pre ++ ((Removable, x) ∷ (Removable, y) ∷ post)))
    (reduced_fine x pre ((Removable, x) ∷ (Removable, y) ∷ post) hp (
      (λ _. tt),
      (
        (λ e. absurd (ne (second e))),
        subst (λ l. Fine x (reduced l)) (append-nil post) (reduced_fine x post [] hq tt),
      ),
    ))
  where
    second : ◌≡◌ {A = Mark} (Removable, y) (Removable, x) → y ≡ x
    second e = ap (λ m. m.1) e

-- a fact of each R in the list holds of the last R left
abbrev OnR : (Node → Type 0) → Mark → Type 0
OnR P (Removable, x) = P x
OnR P (Addable, x) = Unit {0}

last_fact : (P : Node → Type 0) (ms : List Mark) (x : Node) → AllByRecursion (OnR P) ms →
    last (removables ms) ≡ Some x → P x
unfolding removables last
last_fact P [] x h e = absurd (let z : ◌≡◌ {A = Option Node} None (Some x) = e in cc)
last_fact P ((Addable, y) ∷ ms) x (h, hs) e = last_fact P ms x hs e
last_fact P ((Removable, y) ∷ ms) x (h, hs) e = settle (removables ms) refl (last_fact P ms x hs) e
  where
    settle : (q : List Node) → removables ms ≡ q → (last (removables ms) ≡ Some x → P x) → last (y ∷ q) ≡ Some x → P x
    settle [] eq ih e = let s : y ≡ x = cc in subst P s h
    settle (z ∷ q) eq ih e = ih (ap last eq ∙ e)

module _ (e : ℕ) (he : 2 ≤ e) (i : ℕ) (parts : List ℕ) (pp : IsPartition parts) where
  -- ---- the good node, and when a node isn't good

  -- The good node is removable, at the end of its row, and of residue i.
  pub good_fact : (x : Node) → good e i parts ≡ Some x →
      (is_removable parts x ≡ true) × (residue e x ≡ i) × (x.1 ≡ part parts x.0)
  good_fact x g = last_fact (λ x. IsMark e i parts (Removable, x)) (reduced (signature e i parts)) x
      (all_reduced (OnR (λ x. IsMark e i parts (Removable, x))) (signature e i parts) facts) g
    where
      on_R : (m : Mark) → IsMark e i parts m → OnR (λ x. IsMark e i parts (Removable, x)) m
      on_R (Removable, x) f = f
      on_R (Addable, x) f = tt

      facts : AllByRecursion (OnR (λ x. IsMark e i parts (Removable, x))) (signature e i parts)
      facts = subst (AllByRecursion (OnR (λ x. IsMark e i parts (Removable, x))))
          (sym (signature_rows e i parts (length parts + 1) refl))
          (all_weaken (λ m. (1 ≤ m.1.0) × (m.1.0 < 1 + (length parts + 1)) × IsMark e i parts m)
          (OnR (λ x. IsMark e i parts (Removable, x))) (marks_from e i parts 1 (length parts + 1))
          (λ m f. on_R m f.2) (rows_facts e i parts 1 (length parts + 1)))

  -- where the next row with a mark has an R too, the R of row 1 + k isn't the last R left
  followed : (x y : Node) → x.0 < y.0 → IsAbout e i parts (Removable, x) (Removable, y) → good e i parts ≢ Some x
  followed x y lt t g =
      two_removable x y t.pre t.post (t.before (Removable, x) (omega arith)) apart
      (t.after (Removable, x) (omega arith)) (ap (λ s. last (removables (reduced s))) (sym t.whole) ∙ g)
    where
      apart : y ≢ x
      apart s = let q : y.0 ≡ x.0 = ap (λ z. z.0) s in omega (arith, q, lt)

  -- ---- taking the good node keeps regularity

  module _ (reg : is_regular e parts ≡ true) where
    good_corner : (k : ℕ) → is_removable parts (1 + k, part parts (1 + k)) ≡ true → Corner parts k
    good_corner k rem = omega (
      arith,
      removable_row parts (1 + k) rem,
      part_is parts (1 + k) k (omega arith),
      part_is parts (1 + k + 1) (k + 1) (omega arith),
    )

    kept_at : (k : ℕ) → is_removable parts (1 + k, part parts (1 + k)) ≡ true →
        residue e (1 + k, part parts (1 + k)) ≡ i → good e i parts ≡ Some (1 + k, part parts (1 + k)) →
        RowRegular e (shrink k parts)
    kept_at k rem res g = shrink_regular e parts k he pp (regular_gap e parts (omega arith) pp reg) corner clash
      where
        c : ℕ
        c = slice_index parts k

        corner : Corner parts k
        corner = good_corner k rem

        part_x : part parts (1 + k) ≡ c
        part_x = part_is parts (1 + k) k (omega arith)

        -- the row e - 1 further down
        row_y : ℕ
        row_y = 1 + k + 1 + (e - 2)

        part_y : part parts row_y ≡ slice_index parts (k + (e - 1))
        part_y = part_is parts row_y (k + (e - 1)) (omega arith)

        clash : 0 < slice_index parts (k + (e - 1)) → slice_index parts (k + (e - 1)) + 1 ≡ slice_index parts k → ⊥
        clash w eq =
            followed (1 + k, part parts (1 + k)) (row_y, part parts row_y) (omega arith)
            (about_two e i parts k (e - 2) (Removable, (1 + k, part parts (1 + k)))
            (Removable, (row_y, part parts row_y))
            (omega (arith, index_short parts (k + (e - 1)) w)) refl refl (row_R e i parts he (1 + k) rem res)
            (row_R e i parts he row_y (row_removable parts row_y (omega arith) past) res_y) none) g
          where
            -- between the two rows all parts are c - 1
            value : (s : ℕ) → k + 1 ≤ s → s ≤ k + (e - 1) → slice_index parts s ≡ c - 1
            value s lo hi = omega (
              arith,
              descends_to parts pp (k + 1) s lo,
              descends_to parts pp s (k + (e - 1)) hi,
              corner,
              eq,
            )

            -- and after them the parts are less, since parts is regular
            past : part parts (row_y + 1) < part parts row_y
            past = settle (le_or_lt (slice_index parts (k + 1 + (e - 1))) 0)
              where
                at_past : part parts (row_y + 1) ≡ slice_index parts (k + 1 + (e - 1))
                at_past = part_is parts (row_y + 1) (k + 1 + (e - 1)) (omega arith)

                settle : (slice_index parts (k + 1 + (e - 1)) ≤ 0) ⊎ (0 < slice_index parts (k + 1 + (e - 1))) →
                    part parts (row_y + 1) < part parts row_y
                settle (inl z) = omega (arith, at_past, part_y, z, w)
                settle (inr v) = omega (
                  arith,
                  at_past,
                  part_y,
                  regular_gap e parts (omega arith) pp reg (k + 1) v,
                  value (k + 1) (omega arith) (omega arith),
                  eq,
                )

            res_y : residue e (row_y, part parts row_y) ≡ i
            res_y =
                ap₂ (λ r d. residue e (r, d)) down one_less
                ∙ full_turn e (1 + k) (part parts (1 + k)) he (omega (arith, part_x, eq))
                ∙ res
              where
                down : row_y ≡ 1 + k + (e - 1)
                down = omega arith

                one_less : part parts row_y ≡ part parts (1 + k) - 1
                one_less = omega (arith, part_y, part_x, eq)

            none : (r : ℕ) → 1 + k + 1 ≤ r → r < 1 + k + 1 + (e - 2) → row_marks e i parts r ≡ []
            none r lo hi = row_none e i parts r not_end not_right
              where
                j : ℕ
                j = r - (1 + k)

                row_is : 1 + k + j ≡ r
                row_is = omega arith

                part_r : part parts r ≡ c - 1
                part_r = part_is parts r (r - 1) (omega arith) ∙ value (r - 1) (omega arith) (omega arith)

                not_end : residue e (r, part parts r) ≢ i
                not_end q = column_before e (1 + k) (part parts (1 + k)) j he (omega (arith, part_x, eq)) (omega arith)
                    (ap₂ (λ s d. residue e (s, d)) row_is (omega (arith, part_r, part_x)) ∙ q ∙ sym res)

                not_right : residue e (r, part parts r + 1) ≢ i
                not_right q = same_column e (1 + k) (part parts (1 + k)) j he (omega arith) (omega arith)
                    (ap₂ (λ s d. residue e (s, d)) row_is (omega (arith, part_r, part_x, eq)) ∙ q ∙ sym res)

    -- removing the good node gives a regular partition
    pub good_keeps : (x : Node) → good e i parts ≡ Some x →
        IsPartition (remove_node parts x) × (is_regular e (remove_node parts x) ≡ true)
    good_keeps (r, c) g = (kept, rows_regular e (shrink (r - 1) parts) he kept (kept_at (r - 1) rem res good_here))
      where
        fact : (is_removable parts (r, c) ≡ true) × (residue e (r, c) ≡ i) × (c ≡ part parts r)
        fact = good_fact (r, c) g

        first : 1 ≤ r
        first = (node_in parts r c (removable_facts parts r c fact.0).inside).row

        here : ◌≡◌ {A = Node} (r, c) (1 + (r - 1), part parts (1 + (r - 1)))
        here = ap₂ (λ a b. (a, b)) (back first) (fact.2 ∙ ap (part parts) (back first))
          where
            back : 1 ≤ r → r ≡ 1 + (r - 1)
            back h = omega arith

        rem : is_removable parts (1 + (r - 1), part parts (1 + (r - 1))) ≡ true
        rem = subst (λ x. is_removable parts x ≡ true) here fact.0

        res : residue e (1 + (r - 1), part parts (1 + (r - 1))) ≡ i
        res = subst (λ x. residue e x ≡ i) here fact.1

        good_here : good e i parts ≡ Some (1 + (r - 1), part parts (1 + (r - 1)))
        good_here = g ∙ ap Some here

        kept : IsPartition (shrink (r - 1) parts)
        kept = IsPartition-shrink parts (r - 1) pp (good_corner (r - 1) rem)

-- ---- a good node is there: the end of the first rows that are equal

-- how far the first rows are equal
top_run : (xs : List ℕ) → IsPartition xs → 0 < slice_index xs 0 →
    (a : ℕ) × ((j : ℕ) → j ≤ a → slice_index xs j ≡ slice_index xs 0) × (slice_index xs (suc a) < slice_index xs 0)
top_run [] h w = absurd (omega arith)
top_run (x ∷ xs) h w = settle (le_or_lt x (slice_index xs 0)) (top_run xs (IsPartition-tail x xs h))
  where
    d : slice_index xs 0 ≤ x
    d = h.descending 0

    settle : (x ≤ slice_index xs 0) ⊎ (slice_index xs 0 < x) →
        (0 < slice_index xs 0 →
        (a : ℕ) × ((j : ℕ) → j ≤ a → slice_index xs j ≡ slice_index xs 0) ×
        (slice_index xs (suc a) < slice_index xs 0)) →
        (a : ℕ) × ((j : ℕ) → j ≤ a → slice_index (x ∷ xs) j ≡ x) × (slice_index (x ∷ xs) (suc a) < x)
    settle (inr lt) more = (0, (λ j hj. let z : j ≡ 0 = omega arith in ap (slice_index (x ∷ xs)) z), lt)
    settle (inl ge) more = from (more (omega arith))
      where
        same : slice_index xs 0 ≡ x
        same = omega (arith, d)

        from : (a : ℕ) × ((j : ℕ) → j ≤ a → slice_index xs j ≡ slice_index xs 0) ×
            (slice_index xs (suc a) < slice_index xs 0) →
            (a : ℕ) × ((j : ℕ) → j ≤ a → slice_index (x ∷ xs) j ≡ x) × (slice_index (x ∷ xs) (suc a) < x)
        from (a, eq, lt) = (suc a, all, omega (arith, lt, same))
          where
            all : (j : ℕ) → j ≤ suc a → slice_index (x ∷ xs) j ≡ x
            all zero hj = refl
            all (suc j) hj = eq j (omega arith) ∙ same

last_some : (x : Node) (q : List Node) → (z : Node) × (last (x ∷ q) ≡ Some z)
unfolding last
last_some x [] = (x, refl)
last_some x (y ∷ q) = last_some y q

-- an R in row 1 + a, with nothing above
good_there : (e : ℕ) (he : 2 ≤ e) (parts : List ℕ) (pp : IsPartition parts) (a left : ℕ) →
    length parts + 1 ≡ a + suc left → is_removable parts (1 + a, part parts (1 + a)) ≡ true →
    ((r : ℕ) → 1 ≤ r → r < 1 + a → row_marks e (residue e (1 + a, part parts (1 + a))) parts r ≡ []) →
    (z : Node) × (good e (residue e (1 + a, part parts (1 + a))) parts ≡ Some z)
unfolding reduced removables
good_there e he parts pp a left total rem none = (found.0, ap (λ l. last (removables (reduced l))) whole ∙ found.1)
  where
    x : Node
    x = (1 + a, part parts (1 + a))

    i : ℕ
    i = residue e x

    rest : List Mark
    rest = marks_from e i parts (1 + a + 1) left

    found : (z : Node) × (last (x ∷ removables (reduced rest)) ≡ Some z)
    found = last_some x (removables (reduced rest))

    whole : signature e i parts ≡ (Removable, x) ∷ rest
    whole =
        signature_rows e i parts (a + suc left) total
        ∙ split_at e i parts 1 a left
        ∙ ap₂ (λ y z. y ++ z) (none_of e i parts 1 a none) (ap (λ r. r ++ rest) (row_R e i parts he (1 + a) rem refl))

-- An e-regular partition that isn't empty has a good node of some residue.
pub good_exists : (e : ℕ) (parts : List ℕ) → 2 ≤ e → IsPartition parts → is_regular e parts ≡ true →
    0 < slice_index parts 0 → (i : ℕ) × (i < e) × (z : Node) × (good e i parts ≡ Some z)
good_exists e parts he pp reg w = from (top_run parts pp w)
  where
    from : (a : ℕ) × ((j : ℕ) → j ≤ a → slice_index parts j ≡ slice_index parts 0) ×
        (slice_index parts (suc a) < slice_index parts 0) → (i : ℕ) × (i < e) × (z : Node) × (good e i parts ≡ Some z)
    from (a, eq, lt) = (i, mod-lt _ (omega arith), found.0, found.1)
      where
        i : ℕ
        i = residue e (1 + a, part parts (1 + a))

        part_a : part parts (1 + a) ≡ slice_index parts 0
        part_a = part_is parts (1 + a) a (omega arith) ∙ eq a (omega arith)

        -- fewer than e rows are equal
        few : a + 1 < e
        few = settle (le_or_lt (e - 1) a)
          where
            settle : (e - 1 ≤ a) ⊎ (a < e - 1) → a + 1 < e
            settle (inr h) = omega arith
            settle (inl h) =
                absurd (omega (arith, level, regular_gap e parts (omega arith) pp reg 0 (omega (arith, level, w))))
              where
                plain : 0 + (e - 1) ≡ e - 1
                plain = omega arith

                level : slice_index parts (0 + (e - 1)) ≡ slice_index parts 0
                level = ap (slice_index parts) plain ∙ eq (e - 1) h

        rem : is_removable parts (1 + a, part parts (1 + a)) ≡ true
        rem = row_removable parts (1 + a) (omega arith)
            (omega (arith, part_is parts (1 + a + 1) (suc a) (omega arith), part_a, lt))

        none : (r : ℕ) → 1 ≤ r → r < 1 + a → row_marks e i parts r ≡ []
        none r lo hi = none_above e i parts r (1 + a - r) (1 + a) (part parts (1 + a)) he refl (omega arith)
            (omega arith) (omega (arith, few))
            (part_is parts r (r - 1) (omega arith) ∙ eq (r - 1) (omega arith) ∙ sym part_a)

        found : (z : Node) × (good e i parts ≡ Some z)
        found = good_there e he parts pp a (length parts + 1 - (a + 1))
            (omega (arith, index_short parts a (omega (arith, eq a (omega arith), w)))) rem none
