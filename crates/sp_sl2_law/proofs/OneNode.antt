-- Moves of one node: a row that can gain a node of a residue, and the same from the other side, a row that can lose
-- one.
use Rattle.std.proofs.Common.{◌≡◌, ◌≢◌, ℕ, zero, suc, ◌+◌, ◌-◌, ◌<◌, ◌≤◌, true, nat_eq, List, length}
use Rattle.std.proofs.Common.{refl, sym, ◌∙◌, ap, subst, arith, slice_index, ◌⊎◌, inl, inr, eqb-true, eq-eqb, pos}
use Rattle.std.proofs.Common.{◌-ℤ◌}
use Rattle.sp_defs.specs.Partition.{part, degree, IsPartition}
use Rattle.sp_defs.specs.Node.{residue, is_removable, addable, removable}
use Rattle.sp_defs.specs.Power.{is_move, above}
use Rattle.sp_defs.specs.Signature.{grow, shrink}
use Rattle.sp_lists.proofs.Elements.{le_or_lt, and_split, and_join}
use Rattle.sp_shapes.proofs.Corners.{row_removable, removable_row}
use Rattle.sp_shapes.proofs.Grow.{Room, grow_other, grow_same, degree-grow, IsPartition-grow}
use Rattle.sp_shapes.proofs.Moves.{Move, move_facts, facts_move, degree_added}
use Rattle.sp_shapes.proofs.Regular.{index_short}
use Rattle.sp_shapes.proofs.Shrink.{Corner, shrink_other, shrink_same, IsPartition-shrink}
use Rattle.sp_shapes.proofs.Within.{rows_sum, same_within}
use Rattle.sp_power_law.proofs.Gains.{addable_at, removable_at, Gains, addable_facts}
use Rattle.sp_power_law.proofs.Ends.{RowCase, row_cases}
use Rattle.sp_power_law.proofs.Steps.{Before, start, choose}

-- Row r is longer than the one below it, and its last node has residue i.
pub record Loses (e i : ℕ) (parts : List ℕ) (r : ℕ) : Type 0 where
  pub corner : part parts (r + 1) < part parts r
  pub residue_is : residue e (r, part parts r) ≡ i

-- A row that can lose a node has these facts.
pub removable_facts : (e i : ℕ) (parts : List ℕ) (r : ℕ) → removable_at e i parts r ≡ true → Loses e i parts r
removable_facts e i parts r h =
    let p = and_split (is_removable parts (r, part parts r)) (nat_eq (residue e (r, part parts r)) i) h in
    record { corner = removable_row parts r p.0; residue_is = eqb-true (residue e (r, part parts r)) i p.1 }

-- A row with these facts can lose a node.
pub facts_removable : (e i : ℕ) (parts : List ℕ) (r : ℕ) → 1 ≤ r → Loses e i parts r → removable_at e i parts r ≡ true
facts_removable e i parts r hr l =
    and_join (is_removable parts (r, part parts r)) (nat_eq (residue e (r, part parts r)) i)
    (row_removable parts r hr l.corner) (eq-eqb (residue e (r, part parts r)) i l.residue_is)

-- ---- partitions with the same rows

-- Partitions with the same rows are the same.
pub same_parts : (x y : List ℕ) → IsPartition x → IsPartition y →
    ((r : ℕ) → 1 ≤ r → part x r ≡ part y r) → x ≡ y
same_parts x y px py same =
    same_within x y px py (λ k. omega (arith, at k)) (rows_sum y x (λ k. omega (arith, at k)))
  where
    at : (k : ℕ) → slice_index x k ≡ slice_index y k
    at k = subst (λ n. slice_index x n ≡ slice_index y n) (back k) (same (k + 1) (omega arith))
      where
        back : (k : ℕ) → k + 1 - 1 ≡ k
        back k = omega arith

-- ---- a row grows

-- A row that can gain a node, with that node more.
pub record Grown (parts : List ℕ) (r : ℕ) (larger : List ℕ) : Type 0 where
  pub partition : IsPartition larger
  pub here : part larger r ≡ part parts r + 1
  pub elsewhere : (s : ℕ) → 1 ≤ s → s ≢ r → part larger s ≡ part parts s
  pub degree_is : degree larger ≡ degree parts + 1

-- The room that a row has.
pub room_of : (e i : ℕ) (parts : List ℕ) (r : ℕ) → 1 ≤ r → Gains e i parts r → Room parts (r - 1)
room_of e i parts r hr g = record { there = near (le_or_lt r 1); less = λ more. g.room (omega arith) }
  where
    near : (r ≤ 1) ⊎ (1 < r) → r - 1 ≤ length parts
    near (inl first) = omega arith
    near (inr more) = let short : r - 1 - 1 < length parts =
        index_short parts (r - 1 - 1) (omega (arith, g.room more)) in omega arith

-- A row that can gain a node grows.
pub grows : (e i : ℕ) (parts : List ℕ) (r : ℕ) → 1 ≤ r → IsPartition parts → Gains e i parts r →
    Grown parts r (grow (r - 1) parts)
grows e i parts r hr pp g =
    let room : Room parts (r - 1) = room_of e i parts r hr g in
    record {
      partition = IsPartition-grow parts (r - 1) pp room;
      here = grow_same parts (r - 1) room.there;
      elsewhere = λ s hs ne. grow_other parts (r - 1) (s - 1) (λ same. ne (omega arith));
      degree_is = degree-grow parts (r - 1) room.there;
    }

-- ---- a row shrinks

-- A partition with one node less at the end of row r.
pub record Shrunk (parts : List ℕ) (r : ℕ) (smaller : List ℕ) : Type 0 where
  pub partition : IsPartition smaller
  pub here : part smaller r + 1 ≡ part parts r
  pub elsewhere : (s : ℕ) → 1 ≤ s → s ≢ r → part smaller s ≡ part parts s

-- Its last node is at a corner.
pub corner_of : (e i : ℕ) (parts : List ℕ) (r : ℕ) → 1 ≤ r → Loses e i parts r → Corner parts (r - 1)
corner_of e i parts r hr l = subst (λ n. slice_index parts n < slice_index parts (r - 1)) back l.corner
  where
    back : r + 1 - 1 ≡ r - 1 + 1
    back = omega arith

-- A row that can lose a node shrinks.
pub shrinks : (e i : ℕ) (parts : List ℕ) (r : ℕ) → 1 ≤ r → IsPartition parts → Loses e i parts r →
    Shrunk parts r (shrink (r - 1) parts)
shrinks e i parts r hr pp l = record {
  partition = IsPartition-shrink parts (r - 1) pp (corner_of e i parts r hr l);
  here = shrink_same parts (r - 1) pp (corner_of e i parts r hr l);
  elsewhere = λ s hs ne. shrink_other parts (r - 1) (s - 1) pp (corner_of e i parts r hr l) (λ same. ne (omega arith));
}

-- ---- the two sides of one move

-- What has lost a node of row r can gain it again.
pub gains_back : (e i : ℕ) (parts : List ℕ) (r : ℕ) → 1 ≤ r → IsPartition parts → Loses e i parts r →
    Gains e i (shrink (r - 1) parts) r
gains_back e i parts r hr pp l =
    let s : Shrunk parts r (shrink (r - 1) parts) = shrinks e i parts r hr pp l in
    record {
      room = λ more. omega (arith, s.here, s.elsewhere (r - 1) (omega arith) (λ e. omega arith), descends more);
      residue_is = ap (λ p. residue e (r, p)) s.here ∙ l.residue_is;
    }
  where
    descends : 1 < r → part parts r ≤ part parts (r - 1)
    descends more = subst (λ n. slice_index parts n ≤ slice_index parts (r - 1 - 1)) back (pp.descending (r - 1 - 1))
      where
        back : r - 1 - 1 + 1 ≡ r - 1
        back = omega arith

-- and is then what it was.
pub grown_back : (e i : ℕ) (parts : List ℕ) (r : ℕ) → 1 ≤ r → IsPartition parts → Loses e i parts r →
    grow (r - 1) (shrink (r - 1) parts) ≡ parts
grown_back e i parts r hr pp l =
    let s : Shrunk parts r (shrink (r - 1) parts) = shrinks e i parts r hr pp l in
    let g : Grown (shrink (r - 1) parts) r (grow (r - 1) (shrink (r - 1) parts)) =
    grows e i (shrink (r - 1) parts) r hr s.partition (gains_back e i parts r hr pp l) in
    same_parts (grow (r - 1) (shrink (r - 1) parts)) parts g.partition pp (λ k hk. at g s k hk (le_or_lt k r)
    (le_or_lt r k))
  where
    at : Grown (shrink (r - 1) parts) r (grow (r - 1) (shrink (r - 1) parts)) → Shrunk parts r (shrink (r - 1) parts) →
        (k : ℕ) → 1 ≤ k → (k ≤ r) ⊎ (r < k) → (r ≤ k) ⊎ (k < r) →
        part (grow (r - 1) (shrink (r - 1) parts)) k ≡ part parts k
    at g s k hk (inl a) (inl b) =
        subst (λ n. part (grow (r - 1) (shrink (r - 1) parts)) n ≡ part parts n) same (g.here ∙ s.here)
      where
        same : r ≡ k
        same = omega arith
    at g s k hk (inr a) b = g.elsewhere k hk (λ e. omega arith) ∙ s.elsewhere k hk (λ e. omega arith)
    at g s k hk a (inr b) = g.elsewhere k hk (λ e. omega arith) ∙ s.elsewhere k hk (λ e. omega arith)

-- What has gained a node in row r can lose it again.
pub loses_back : (e i : ℕ) (parts : List ℕ) (r : ℕ) → 1 ≤ r → IsPartition parts → Gains e i parts r →
    Loses e i (grow (r - 1) parts) r
loses_back e i parts r hr pp g =
    let w : Grown parts r (grow (r - 1) parts) = grows e i parts r hr pp g in
    record {
      corner = omega (arith, w.here, w.elsewhere (r + 1) (omega arith) (λ e. omega arith), descends);
      residue_is = ap (λ p. residue e (r, p)) w.here ∙ g.residue_is;
    }
  where
    descends : part parts (r + 1) ≤ part parts r
    descends = subst (λ n. slice_index parts n ≤ slice_index parts (r - 1)) back (pp.descending (r - 1))
      where
        back : r - 1 + 1 ≡ r + 1 - 1
        back = omega arith

-- and is then what it was.
pub shrunk_back : (e i : ℕ) (parts : List ℕ) (r : ℕ) → 1 ≤ r → IsPartition parts → Gains e i parts r →
    shrink (r - 1) (grow (r - 1) parts) ≡ parts
shrunk_back e i parts r hr pp g =
    let w : Grown parts r (grow (r - 1) parts) = grows e i parts r hr pp g in
    let s : Shrunk (grow (r - 1) parts) r (shrink (r - 1) (grow (r - 1) parts)) =
    shrinks e i (grow (r - 1) parts) r hr w.partition (loses_back e i parts r hr pp g) in
    same_parts (shrink (r - 1) (grow (r - 1) parts)) parts s.partition pp (λ k hk. at w s k hk (le_or_lt k r)
    (le_or_lt r k))
  where
    at : Grown parts r (grow (r - 1) parts) → Shrunk (grow (r - 1) parts) r (shrink (r - 1) (grow (r - 1) parts)) →
        (k : ℕ) → 1 ≤ k → (k ≤ r) ⊎ (r < k) → (r ≤ k) ⊎ (k < r) →
        part (shrink (r - 1) (grow (r - 1) parts)) k ≡ part parts k
    at w s k hk (inl a) (inl b) =
        subst (λ n. part (shrink (r - 1) (grow (r - 1) parts)) n ≡ part parts n) same (omega (arith, w.here, s.here))
      where
        same : r ≡ k
        same = omega arith
    at w s k hk (inr a) b = s.elsewhere k hk (λ e. omega arith) ∙ w.elsewhere k hk (λ e. omega arith)
    at w s k hk a (inr b) = s.elsewhere k hk (λ e. omega arith) ∙ w.elsewhere k hk (λ e. omega arith)

-- ---- the moves of one node

-- Before row r nothing is chosen.
pub before_row : (e i : ℕ) (parts : List ℕ) (r : ℕ) → IsPartition parts →
    Before e i parts r 0 parts (pos (above e i r (addable parts)) -ℤ pos (above e i r (removable parts))) (pos 0)
before_row e i parts r pp =
    let st = start e i parts pp in
    record {
      partition = pp;
      move = st.move;
      later = λ s lo. refl;
      difference_is = refl;
      sum_is = st.sum_is;
    }

-- A row that can gain a node makes a move.
pub grown_move : (e i : ℕ) (parts : List ℕ) (r : ℕ) → 2 ≤ e → 1 ≤ r → IsPartition parts →
    addable_at e i parts r ≡ true → is_move e i 1 parts (grow (r - 1) parts) ≡ true
grown_move e i parts r he hr pp can =
    facts_move e i 1 parts (grow (r - 1) parts)
    (choose e i he parts pp r 0 parts _ (pos 0) hr (before_row e i parts r pp) can).move

-- The row in which a move of one node adds it.
pub record MovedRow (e i : ℕ) (smaller larger : List ℕ) : Type 0 where
  pub row : ℕ
  pub least : 1 ≤ row
  pub gains : addable_at e i smaller row ≡ true
  pub is : larger ≡ grow (row - 1) smaller

-- The first n rows are the same, or one of them has grown.
searched : (e i : ℕ) (smaller larger : List ℕ) → 2 ≤ e → IsPartition smaller → IsPartition larger →
    Move e i 1 smaller larger → (n : ℕ) →
    ((r : ℕ) → 1 ≤ r → r ≤ n → part larger r ≡ part smaller r) ⊎
    ((r : ℕ) × (1 ≤ r) × (part larger r ≡ part smaller r + 1) × (addable_at e i smaller r ≡ true))
searched e i smaller larger he ps pl mv zero = inl (λ r lo hi. absurd (omega arith))
searched e i smaller larger he ps pl mv (suc n) =
    settle (searched e i smaller larger he ps pl mv n) (row_cases e i he smaller ps 1 larger pl mv (suc n)
    (omega arith))
  where
    settle : ((r : ℕ) → 1 ≤ r → r ≤ n → part larger r ≡ part smaller r) ⊎
        ((r : ℕ) × (1 ≤ r) × (part larger r ≡ part smaller r + 1) × (addable_at e i smaller r ≡ true)) →
        RowCase e i smaller larger (suc n) →
        ((r : ℕ) → 1 ≤ r → r ≤ suc n → part larger r ≡ part smaller r) ⊎
        ((r : ℕ) × (1 ≤ r) × (part larger r ≡ part smaller r + 1) × (addable_at e i smaller r ≡ true))
    settle (inr found) c = inr found
    settle (inl same) (inr grown) = inr (suc n, omega arith, grown.0, grown.1)
    settle (inl same) (inl last) = inl (λ r lo hi. at r lo hi (le_or_lt r n))
      where
        at : (r : ℕ) → 1 ≤ r → r ≤ suc n → (r ≤ n) ⊎ (n < r) → part larger r ≡ part smaller r
        at r lo hi (inl le) = same r lo le
        at r lo hi (inr gt) =
            let e : suc n ≡ r = omega arith in subst (λ k. part larger k ≡ part smaller k) e last

-- A move of one node adds it in a row that can gain it.
pub moved_row : (e i : ℕ) (smaller larger : List ℕ) → 2 ≤ e → IsPartition smaller → IsPartition larger →
    is_move e i 1 smaller larger ≡ true → MovedRow e i smaller larger
moved_row e i smaller larger he ps pl h = settle (searched e i smaller larger he ps pl mv (length larger))
  where
    mv : Move e i 1 smaller larger
    mv = move_facts e i 1 smaller larger h

    one_more : degree larger ≡ degree smaller + 1
    one_more = degree_added smaller larger ps mv.rows ∙ ap (λ n. degree smaller + n) mv.count

    settle : ((r : ℕ) → 1 ≤ r → r ≤ length larger → part larger r ≡ part smaller r) ⊎
        ((r : ℕ) × (1 ≤ r) × (part larger r ≡ part smaller r + 1) × (addable_at e i smaller r ≡ true)) →
        MovedRow e i smaller larger
    settle (inl same) = absurd (let le : degree larger ≤ degree smaller = rows_sum larger smaller at in omega
        (arith, one_more))
      where
        at : (k : ℕ) → slice_index larger k ≤ slice_index smaller k
        at k = by_size (le_or_lt (slice_index larger k) 0)
          where
            by_size : (slice_index larger k ≤ 0) ⊎ (0 < slice_index larger k) →
                slice_index larger k ≤ slice_index smaller k
            by_size (inl z) = omega arith
            by_size (inr some) =
                let short : k < length larger = index_short larger k some in
                let back : k + 1 - 1 ≡ k = omega arith in
                let e : slice_index larger k ≡ slice_index smaller k =
                subst (λ n. slice_index larger n ≡ slice_index smaller n) back (same (k + 1) (omega arith)
                (omega arith)) in
                omega arith
    settle (inr found) = record {
      row = found.0;
      least = found.1;
      gains = found.3;
      is =
          let g : Grown smaller found.0 (grow (found.0 - 1) smaller) =
          grows e i smaller found.0 found.1 ps (addable_facts e i smaller found.0 found.3) in
          sym (same_within (grow (found.0 - 1) smaller) larger g.partition pl (λ k. rows g k)
          (omega (arith, g.degree_is, one_more)));
    }
      where
        rows : Grown smaller found.0 (grow (found.0 - 1) smaller) → (k : ℕ) →
            slice_index (grow (found.0 - 1) smaller) k ≤ slice_index larger k
        rows g k = by_row (le_or_lt k (found.0 - 1)) (le_or_lt (found.0 - 1) k)
          where
            other : k ≢ found.0 - 1 → slice_index (grow (found.0 - 1) smaller) k ≤ slice_index larger k
            other ne = omega (arith, mv.rows k, grow_other smaller (found.0 - 1) k ne)

            by_row : (k ≤ found.0 - 1) ⊎ (found.0 - 1 < k) → (found.0 - 1 ≤ k) ⊎ (k < found.0 - 1) →
                slice_index (grow (found.0 - 1) smaller) k ≤ slice_index larger k
            by_row (inl a) (inl b) =
                let same : found.0 - 1 ≡ k = omega arith in
                subst (λ n. slice_index (grow (found.0 - 1) smaller) n ≤ slice_index larger n) same
                (omega (arith, g.here, found.2))
            by_row (inr a) b = other (λ e. omega arith)
            by_row a (inr b) = other (λ e. omega arith)

-- Different rows lead to different partitions.
pub grown_apart : (e i : ℕ) (parts : List ℕ) (r s : ℕ) → 1 ≤ r → 1 ≤ s → IsPartition parts → Gains e i parts r →
    Gains e i parts s → grow (r - 1) parts ≡ grow (s - 1) parts → r ≡ s
grown_apart e i parts r s hr hs pp gr gs same = settle (le_or_lt r s) (le_or_lt s r)
  where
    clash : r ≢ s → ⊥
    clash ne =
        let a : Grown parts r (grow (r - 1) parts) = grows e i parts r hr pp gr in
        let b : Grown parts s (grow (s - 1) parts) = grows e i parts s hs pp gs in
        let c : part (grow (r - 1) parts) r ≡ part (grow (s - 1) parts) r = ap (λ x. part x r) same in
        omega (arith, a.here, b.elsewhere r hr ne, c)

    settle : (r ≤ s) ⊎ (s < r) → (s ≤ r) ⊎ (r < s) → r ≡ s
    settle (inl a) (inl b) = omega arith
    settle (inr a) b = absurd (clash (λ e. omega arith))
    settle a (inr b) = absurd (clash (λ e. omega arith))

-- So it is of rows that lose a node.
pub shrunk_apart : (e i : ℕ) (parts : List ℕ) (r s : ℕ) → 1 ≤ r → 1 ≤ s → IsPartition parts → Loses e i parts r →
    Loses e i parts s → shrink (r - 1) parts ≡ shrink (s - 1) parts → r ≡ s
shrunk_apart e i parts r s hr hs pp lr ls same = settle (le_or_lt r s) (le_or_lt s r)
  where
    clash : r ≢ s → ⊥
    clash ne =
        let a : Shrunk parts r (shrink (r - 1) parts) = shrinks e i parts r hr pp lr in
        let b : Shrunk parts s (shrink (s - 1) parts) = shrinks e i parts s hs pp ls in
        let c : part (shrink (r - 1) parts) r ≡ part (shrink (s - 1) parts) r = ap (λ x. part x r) same in
        omega (arith, a.here, b.elsewhere r hr ne, c)

    settle : (r ≤ s) ⊎ (s < r) → (s ≤ r) ⊎ (r < s) → r ≡ s
    settle (inl a) (inl b) = omega arith
    settle (inr a) b = absurd (clash (λ e. omega arith))
    settle a (inr b) = absurd (clash (λ e. omega arith))
