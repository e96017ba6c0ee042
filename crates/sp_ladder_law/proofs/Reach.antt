-- What is reached by steps of descending ladders: no node has a later ladder than the last step, and from any ladder on
-- there are not more nodes than the steps add.
use Rattle.std.proofs.Common.{◌≡◌, ℕ, ◌+◌, ◌-◌, ◌*◌, ◌<◌, ◌≤◌, Bool, false, cond, List, [], ◌∷◌, map, sym}
use Rattle.std.proofs.Common.{◌∙◌, ap, subst, arith, count_by, sum_by, nat_le, slice_index, ◌⊎◌, inl, inr, le-leb}
use Rattle.std.proofs.lemmas.List.Sums.{sum_by-cons, count_by-le-length}
use Rattle.std.proofs.lemmas.Bool.{lt-leb}
use Rattle.sp_defs.specs.Partition.{part, IsPartition}
use Rattle.sp_defs.specs.Node.{Node, nodes, nodes_from, residue}
use Rattle.sp_defs.specs.Power.{added}
use Rattle.sp_defs.specs.Ladder.{Step, ladder_of, ladder_residue}
use Rattle.sp_lists.proofs.Elements.{le_or_lt, count_zero}
use Rattle.sp_shapes.proofs.Diagram.{all_nodes}
use Rattle.sp_shapes.proofs.Residues.{residue_ladder, right_differs, below_differs, ladder_step}
use Rattle.sp_ladder_law.proofs.Chains.{Reached}
use Rattle.sp_shapes.proofs.Moves.{Move, move_facts, count_added}

-- the step of ladder l, with m l nodes
abbrev pub step_of : ℕ → (ℕ → ℕ) → ℕ → Step
step_of e m l = record { residue = ladder_residue e l; count = m l }

-- the ladders descend, from below b down to 1 at the least
abbrev pub Down : ℕ → List ℕ → Type 0
Down b [] = Unit {0}
Down b (l ∷ ls) = (l < b) × (1 ≤ l) × Down l ls

-- the first, and so the greatest, of them
abbrev pub top : List ℕ → ℕ
top [] = 0
top (l ∷ ls) = l

-- no node stands on a later ladder
abbrev pub Low : ℕ → ℕ → List ℕ → Type 0
Low e bound parts = (r c : ℕ) → 1 ≤ r → 1 ≤ c → c ≤ part parts r → ladder_of e (r, c) ≤ bound

top_below : (l : ℕ) (ls : List ℕ) → 1 ≤ l → Down l ls → top ls < l
top_below l [] h d = h
top_below l (k ∷ ls) h d = d.0

-- one place further right is e - 1 ladders later
pub left_ladder : (e r b : ℕ) → ladder_of e (r, b + 2) ≡ ladder_of e (r, b + 1) + (e - 1)
left_ladder e r b =
    ap (λ n. r + (e - 1) * n) (less b) ∙ sides (e - 1) r b ∙ ap (λ n. r + (e - 1) * n + (e - 1)) (sym (less' b))
  where
    less : (b : ℕ) → b + 2 - 1 ≡ b + 1
    less b = omega arith

    less' : (b : ℕ) → b + 1 - 1 ≡ b
    less' b = omega arith

    sides : (d r b : ℕ) → r + d * (b + 1) ≡ r + d * b + d
    sides d r b = omega arith

module _ (e : ℕ) (he : 2 ≤ e) where
  -- ---- a node that a step adds

  module _ (l m : ℕ) (before after : List ℕ) (pa : IsPartition after)
      (mv : Move e (ladder_residue e l) m before after) (r c : ℕ) (hr : 1 ≤ r) (hc : 1 ≤ c) (w : c ≤ part after r)
      (out : part before r < c) where
    -- Its left neighbour was there before, since neighbours have other residues.
    left_before : 1 < c → c - 1 ≤ part before r
    left_before more = settle (le_or_lt (c - 1) (part before r))
      where
        back : c - 1 + 1 ≡ c
        back = omega arith

        settle : (c - 1 ≤ part before r) ⊎ (part before r < c - 1) → c - 1 ≤ part before r
        settle (inl is) = is
        settle (inr new) =
            absurd
            (right_differs e r (c - 1) he
            (ap (λ n. residue e (r, n)) back ∙ mv.residues r c hr hc w out
            ∙ sym (mv.residues r (c - 1) hr (omega arith) (omega arith) new)))

    -- And so was the node above it.
    upper_before : 1 < r → c ≤ part before (r - 1)
    upper_before more = settle (le_or_lt c (part before (r - 1)))
      where
        back : r - 1 + 1 ≡ r
        back = omega arith

        descends : part after r ≤ part after (r - 1)
        descends = subst (λ n. slice_index after n ≤ slice_index after (r - 1 - 1)) place (pa.descending (r - 1 - 1))
          where
            place : r - 1 - 1 + 1 ≡ r - 1
            place = omega arith

        settle : (c ≤ part before (r - 1)) ⊎ (part before (r - 1) < c) → c ≤ part before (r - 1)
        settle (inl is) = is
        settle (inr new) =
            absurd
            (below_differs e (r - 1) c he
            (ap (λ n. residue e (n, c)) back ∙ mv.residues r c hr hc w out
            ∙ sym (mv.residues (r - 1) c (omega arith) hc (omega (arith, descends, w)) new)))

    -- So its ladder is less than e past an earlier one, and by its residue at most l.
    new_low : (below : ℕ) → below < l → Low e below before → ladder_of e (r, c) ≤ l
    new_low below lt low = by_place (le_or_lt c 1) (le_or_lt r 1)
      where
        same : ladder_residue e (ladder_of e (r, c)) ≡ ladder_residue e l
        same = sym (residue_ladder e r c he hc) ∙ mv.residues r c hr hc w out

        first_column : (s : ℕ) → c ≤ 1 → ladder_of e (s, c) ≡ s
        first_column s one = ap (λ n. s + (e - 1) * n) none ∙ no_more s (e - 1)
          where
            none : c - 1 ≡ 0
            none = omega arith

            no_more : (r d : ℕ) → r + d * 0 ≡ r
            no_more r d = omega arith

        one_right : 1 < c → ladder_of e (r, c) ≡ ladder_of e (r, c - 1) + (e - 1)
        one_right more =
            ap (λ n. ladder_of e (r, n)) two ∙ left_ladder e r (c - 2) ∙ ap (λ n. ladder_of e (r, n) + (e - 1)) one
          where
            two : c ≡ (c - 2) + 2
            two = omega arith

            one : (c - 2) + 1 ≡ c - 1
            one = omega arith

        by_place : (c ≤ 1) ⊎ (1 < c) → (r ≤ 1) ⊎ (1 < r) → ladder_of e (r, c) ≤ l
        by_place (inr more) row =
            let beside : ladder_of e (r, c - 1) ≤ below = low r (c - 1) hr (omega arith) (left_before more) in
            ladder_step e (ladder_of e (r, c)) l he same (omega (arith, one_right more, beside))
        by_place (inl one) (inr more) =
            let above : ladder_of e (r - 1, c) ≤ below = low (r - 1) c (omega arith) hc (upper_before more) in
            omega (arith, first_column r one, first_column (r - 1) one, above)
        by_place (inl one) (inl first) = omega (arith, first_column r one)

  -- ---- no node has a later ladder than the last step

  -- What is reached has no node on a later ladder than that of the last step.
  pub low_nodes : (m : ℕ → ℕ) (b : ℕ) (ls : List ℕ) (last : List ℕ) → Down b ls → IsPartition last →
      Reached e (map (step_of e m) ls) last → Low e (top ls) last
  unfolding Reached
  low_nodes m b [] last d pl is r c hr hc w =
      absurd (let z : c ≤ part [] r = subst (λ p. c ≤ part p r) is w in omega arith)
  low_nodes m b (l ∷ ls) last (lb, l1, d) pl (before, pb, mv, rest) r c hr hc w =
      settle (le_or_lt c (part before r)) (low_nodes m l ls before d pb rest)
    where
      settle : (c ≤ part before r) ⊎ (part before r < c) → Low e (top ls) before → ladder_of e (r, c) ≤ l
      settle (inl is) low =
          let f : ladder_of e (r, c) ≤ top ls = low r c hr hc is in
          let g : top ls < l = top_below l ls l1 d in omega arith
      settle (inr out) low =
          new_low l (m l) before last pl (move_facts e (ladder_residue e l) (m l) before last mv) r c hr hc w out
          (top ls) (top_below l ls l1 d) low

  -- ---- how many nodes stand on ladders from L on

  -- Does the node stand on ladder L or a later one?
  abbrev pub high : ℕ → Node → Bool
  high L x = nat_le L (ladder_of e x)

  -- no more than the steps of these ladders add
  pub count_high : (m : ℕ → ℕ) (L b : ℕ) (ls : List ℕ) (last : List ℕ) → Down b ls → IsPartition last →
      Reached e (map (step_of e m) ls) last →
      count_by (high L) (nodes last) ≤ sum_by (λ l. cond (nat_le L l) (m l) 0) ls
  unfolding Reached nodes_from
  count_high m L b [] last d pl is = subst (λ p. count_by (high L) (nodes p) ≤ 0) (sym is) (omega arith)
  count_high m L b (l ∷ ls) last (lb, l1, d) pl (before, pb, mv, rest) =
      settle (le_or_lt L l) (count_high m L l ls before d pb rest)
    where
      facts : Move e (ladder_residue e l) (m l) before last
      facts = move_facts e (ladder_residue e l) (m l) before last mv

      low : Low e l last
      low = low_nodes m b (l ∷ ls) last (lb, l1, d) pl (before, pb, mv, rest)

      sums : sum_by (λ l. cond (nat_le L l) (m l) 0) (l ∷ ls)
          ≡ cond (nat_le L l) (m l) 0 + sum_by (λ l. cond (nat_le L l) (m l) 0) ls
      sums = sum_by-cons (λ l. cond (nat_le L l) (m l) 0) l ls

      settle : (L ≤ l) ⊎ (l < L) → count_by (high L) (nodes before) ≤ sum_by (λ l. cond (nat_le L l) (m l) 0) ls →
          count_by (high L) (nodes last) ≤ sum_by (λ l. cond (nat_le L l) (m l) 0) (l ∷ ls)
      settle (inl is) ih =
          let h : cond (nat_le L l) (m l) 0 ≡ m l = ap (λ b. cond b (m l) 0) (le-leb L l is) in
          omega (
            arith,
            ih,
            h,
            sums,
            count_added (high L) before last pb facts.rows,
            count_by-le-length (high L) (added before last),
            facts.count,
          )
      settle (inr out') ih =
          let z : count_by (high L) (nodes last) ≡ 0 = count_zero (high L) (nodes last)
          (all_nodes (λ x. high L x ≡ false) last
          (λ r c hr hc w. lt-leb L (ladder_of e (r, c)) (high_past r c (low r c hr hc w)))) in
          omega (arith, z)
        where
          high_past : (r c : ℕ) → ladder_of e (r, c) ≤ l → ladder_of e (r, c) < L
          high_past r c h = omega arith
