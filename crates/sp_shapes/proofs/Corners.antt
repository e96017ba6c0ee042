-- Addable and removable nodes: what their tests say of the neighbours, and of the lengths of the rows.
use Rattle.std.proofs.Common.{◌≡◌, ℕ, ◌+◌, ◌-◌, ◌<◌, ◌≤◌, Bool, true, false, not, ◌&&◌, ◌||◌, nat_eq, List, refl, sym}
use Rattle.std.proofs.Common.{ap, arith, ◌⊎◌, inl, inr, eqb-true, eq-eqb}
use Rattle.std.proofs.lemmas.Bool.{or_left, or_right}
use Rattle.std.proofs.Common.{suc, slice_index, length, subst}
use Rattle.sp_defs.specs.Partition.{part}
use Rattle.sp_defs.specs.Node.{in_diagram, is_addable, is_removable}
use Rattle.sp_lists.proofs.Elements.{and_split, and_join, or_split, le_or_lt}
use Rattle.sp_shapes.proofs.Diagram.{in_node, node_in, node_out}
use Rattle.sp_shapes.proofs.Moves.{out_node}
use Rattle.sp_shapes.proofs.Regular.{index_short}
use Rattle.sp_shapes.proofs.Grow.{Room}
use Rattle.sp_shapes.proofs.Shrink.{Corner}

-- row r of the diagram is place k of the list
pub part_is : (parts : List ℕ) (r k : ℕ) → r ≡ suc k → part parts r ≡ slice_index parts k
part_is parts r k e = let back : r - 1 ≡ k = omega arith in ap (slice_index parts) back

not_true : (b : Bool) → not b ≡ true → b ≡ false
not_true true h = sym h
not_true false h = refl

-- ---- by the neighbours

-- its place is free, and its neighbours to the left and above are not
pub record IsAddable (parts : List ℕ) (r c : ℕ) : Type 0 where
  pub outside : in_diagram parts (r, c) ≡ false
  pub left : (c ≡ 1) ⊎ (in_diagram parts (r, c - 1) ≡ true)
  pub up : (r ≡ 1) ⊎ (in_diagram parts (r - 1, c) ≡ true)

-- what an addable node says of its neighbours
pub addable_facts : (parts : List ℕ) (r c : ℕ) → is_addable parts (r, c) ≡ true → IsAddable parts r c
addable_facts parts r c h =
    let p = and_split (not (in_diagram parts (r, c))) (left_test && up_test) h in
    let q = and_split left_test up_test p.1 in
    record {
      outside = not_true (in_diagram parts (r, c)) p.0;
      left = first_or c (in_diagram parts (r, c - 1)) q.0;
      up = first_or r (in_diagram parts (r - 1, c)) q.1;
    }
  where
    left_test : Bool
    left_test = nat_eq c 1 || in_diagram parts (r, c - 1)

    up_test : Bool
    up_test = nat_eq r 1 || in_diagram parts (r - 1, c)

    first_or : (n : ℕ) (b : Bool) → (nat_eq n 1 || b) ≡ true → (n ≡ 1) ⊎ (b ≡ true)
    first_or n b t = settle (or_split (nat_eq n 1) b t)
      where
        settle : (nat_eq n 1 ≡ true) ⊎ (b ≡ true) → (n ≡ 1) ⊎ (b ≡ true)
        settle (inl e) = inl (eqb-true n 1 e)
        settle (inr e) = inr e

-- and a place with such neighbours is addable
pub facts_addable : (parts : List ℕ) (r c : ℕ) → IsAddable parts r c → is_addable parts (r, c) ≡ true
facts_addable parts r c h =
    and_join (not (in_diagram parts (r, c)))
    ((nat_eq c 1 || in_diagram parts (r, c - 1)) && (nat_eq r 1 || in_diagram parts (r - 1, c)))
    (ap not h.outside)
    (and_join (nat_eq c 1 || in_diagram parts (r, c - 1)) (nat_eq r 1 || in_diagram parts (r - 1, c))
    (either c (in_diagram parts (r, c - 1)) h.left) (either r (in_diagram parts (r - 1, c)) h.up))
  where
    either : (n : ℕ) (b : Bool) → (n ≡ 1) ⊎ (b ≡ true) → (nat_eq n 1 || b) ≡ true
    either n b (inl e) = or_left (nat_eq n 1) b (eq-eqb n 1 e)
    either n b (inr e) = or_right (nat_eq n 1) b e

-- its place is taken, and those to the right and below are free
pub record IsRemovable (parts : List ℕ) (r c : ℕ) : Type 0 where
  pub inside : in_diagram parts (r, c) ≡ true
  pub right : in_diagram parts (r, c + 1) ≡ false
  pub down : in_diagram parts (r + 1, c) ≡ false

-- what a removable node says of its neighbours
pub removable_facts : (parts : List ℕ) (r c : ℕ) → is_removable parts (r, c) ≡ true → IsRemovable parts r c
removable_facts parts r c h =
    let p = and_split (in_diagram parts (r, c)) (not (in_diagram parts (r, c + 1)) && not (in_diagram parts (r + 1, c)))
    h in
    let q = and_split (not (in_diagram parts (r, c + 1))) (not (in_diagram parts (r + 1, c))) p.1 in
    record {
      inside = p.0;
      right = not_true (in_diagram parts (r, c + 1)) q.0;
      down = not_true (in_diagram parts (r + 1, c)) q.1;
    }

-- and a node with such neighbours is removable
pub facts_removable : (parts : List ℕ) (r c : ℕ) → IsRemovable parts r c → is_removable parts (r, c) ≡ true
facts_removable parts r c h =
    and_join (in_diagram parts (r, c)) (not (in_diagram parts (r, c + 1)) && not (in_diagram parts (r + 1, c))) h.inside
    (and_join (not (in_diagram parts (r, c + 1))) (not (in_diagram parts (r + 1, c))) (ap not h.right) (ap not h.down))

-- ---- by the lengths of the rows

-- the last node of a row is removable where the next row is shorter
pub row_removable : (parts : List ℕ) (r : ℕ) → 1 ≤ r → part parts (r + 1) < part parts r →
    is_removable parts (r, part parts r) ≡ true
row_removable parts r hr h = facts_removable parts r (part parts r) (record {
  inside = in_node parts r (part parts r) hr (omega arith) (omega arith);
  right = out_node parts r (part parts r + 1) hr (omega arith) (omega arith);
  down = out_node parts (r + 1) (part parts r) (omega arith) (omega arith) h;
})

-- and then the next row is shorter
pub removable_row : (parts : List ℕ) (r : ℕ) → is_removable parts (r, part parts r) ≡ true →
    part parts (r + 1) < part parts r
removable_row parts r h =
    let f = removable_facts parts r (part parts r) h in
    node_out parts (r + 1) (part parts r) (omega arith) (node_in parts r (part parts r) f.inside).column f.down

-- a row that is shorter than the one above, or the first one, can gain a node
pub row_addable : (parts : List ℕ) (r : ℕ) → 1 ≤ r → (1 < r → part parts r < part parts (r - 1)) →
    is_addable parts (r, part parts r + 1) ≡ true
row_addable parts r hr h = facts_addable parts r (part parts r + 1) (record {
  outside = out_node parts r (part parts r + 1) hr (omega arith) (omega arith);
  left = beside (le_or_lt (part parts r) 0);
  up = above (le_or_lt r 1);
})
  where
    beside : (part parts r ≤ 0) ⊎ (0 < part parts r) →
        (part parts r + 1 ≡ 1) ⊎ (in_diagram parts (r, part parts r + 1 - 1) ≡ true)
    beside (inl z) = inl (omega arith)
    beside (inr w) = inr (in_node parts r (part parts r + 1 - 1) hr (omega arith) (omega arith))

    above : (r ≤ 1) ⊎ (1 < r) → (r ≡ 1) ⊎ (in_diagram parts (r - 1, part parts r + 1) ≡ true)
    above (inl z) = inl (omega arith)
    above (inr w) =
        let s : part parts r < part parts (r - 1) = h w in
        inr (in_node parts (r - 1) (part parts r + 1) (omega arith) (omega arith) (omega arith))

-- and then it is shorter
pub addable_row : (parts : List ℕ) (r : ℕ) → is_addable parts (r, part parts r + 1) ≡ true → 1 < r →
    part parts r < part parts (r - 1)
addable_row parts r h w = above (addable_facts parts r (part parts r + 1) h).up
  where
    above : (r ≡ 1) ⊎ (in_diagram parts (r - 1, part parts r + 1) ≡ true) → part parts r < part parts (r - 1)
    above (inl e) = absurd (omega arith)
    above (inr i) = let v = node_in parts (r - 1) (part parts r + 1) i in omega (arith, v.within)

-- ---- rows and columns of addable and removable nodes

-- the row of an addable node is at least 1
pub addable_least : (parts : List ℕ) (r c : ℕ) → is_addable parts (r, c) ≡ true → 1 ≤ r
addable_least parts r c h = above (addable_facts parts r c h).up
  where
    above : (r ≡ 1) ⊎ (in_diagram parts (r - 1, c) ≡ true) → 1 ≤ r
    above (inl e) = omega arith
    above (inr i) = omega (arith, (node_in parts (r - 1) c i).row)

-- so is that of a removable one
pub removable_least : (parts : List ℕ) (r c : ℕ) → is_removable parts (r, c) ≡ true → 1 ≤ r
removable_least parts r c h = (node_in parts r c (removable_facts parts r c h).inside).row

-- an addable node stands right after the last of its row
pub addable_column : (parts : List ℕ) (r c : ℕ) → is_addable parts (r, c) ≡ true → c ≡ part parts r + 1
addable_column parts r c h = beside f.left
  where
    f : IsAddable parts r c
    f = addable_facts parts r c h

    past : 1 ≤ c → part parts r < c
    past hc = node_out parts r c (addable_least parts r c h) hc f.outside

    beside : (c ≡ 1) ⊎ (in_diagram parts (r, c - 1) ≡ true) → c ≡ part parts r + 1
    beside (inl e) = omega (arith, past (omega arith))
    beside (inr i) =
        let v = node_in parts r (c - 1) i in omega (arith, v.column, v.within, past (omega (arith, v.column)))

-- a removable one is the last of its row
pub removable_column : (parts : List ℕ) (r c : ℕ) → is_removable parts (r, c) ≡ true → c ≡ part parts r
removable_column parts r c h =
    let f = removable_facts parts r c h in
    let v = node_in parts r c f.inside in
    omega (arith, v.within, node_out parts r (c + 1) v.row (omega arith) f.right)

-- ---- places of the list

-- the place of a row with an addable node can grow
pub addable_room : (parts : List ℕ) (r : ℕ) → is_addable parts (r, part parts r + 1) ≡ true → Room parts (r - 1)
addable_room parts r h = record { there = there (le_or_lt r 1); less = λ lt. addable_row parts r h (omega arith) }
  where
    there : (r ≤ 1) ⊎ (1 < r) → r - 1 ≤ length parts
    there (inl le) = omega arith
    there (inr lt) =
        let less : slice_index parts (r - 1) < slice_index parts (r - 1 - 1) = addable_row parts r h lt in
        omega (arith, index_short parts (r - 1 - 1) (omega arith))

-- the place of a row with a removable node is a corner
pub removable_corner : (parts : List ℕ) (r : ℕ) → is_removable parts (r, part parts r) ≡ true → Corner parts (r - 1)
removable_corner parts r h =
    subst (λ n. slice_index parts n < slice_index parts (r - 1)) back (removable_row parts r h)
  where
    back : r + 1 - 1 ≡ r - 1 + 1
    back = omega (arith, removable_least parts r (part parts r) h)
