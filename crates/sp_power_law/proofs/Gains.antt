-- What it takes for a row to gain a node of a residue.
use Rattle.std.proofs.Common.{◌≡◌, ℕ, ◌+◌, ◌-◌, ◌<◌, ◌≤◌, Bool, true, ◌&&◌, nat_eq, List, length}
use Rattle.std.proofs.Common.{sym, ◌∙◌, ap, arith, ◌⊎◌, inl, inr, eqb-true, eq-eqb}
use Rattle.sp_defs.specs.Partition.{part}
use Rattle.sp_defs.specs.Node.{residue, is_addable, is_removable}
use Rattle.sp_lists.proofs.Elements.{and_split, and_join, le_or_lt, same_tests}
use Rattle.sp_shapes.proofs.Corners.{row_addable, addable_row}
use Rattle.sp_shapes.proofs.Regular.{index_short}
use Rattle.sp_shapes.proofs.Residues.{right_differs}

-- Can row r, counted from 1, gain a node of residue i, or lose one?
abbrev pub addable_at : ℕ → ℕ → List ℕ → ℕ → Bool
addable_at e i parts r = is_addable parts (r, part parts r + 1) && nat_eq (residue e (r, part parts r + 1)) i

-- Can row r lose a node of residue i?
abbrev pub removable_at : ℕ → ℕ → List ℕ → ℕ → Bool
removable_at e i parts r = is_removable parts (r, part parts r) && nat_eq (residue e (r, part parts r)) i

-- Row r is shorter than the one above it, and its next node has residue i.
pub record Gains (e i : ℕ) (parts : List ℕ) (r : ℕ) : Type 0 where
  pub room : 1 < r → part parts r < part parts (r - 1)
  pub residue_is : residue e (r, part parts r + 1) ≡ i

-- A row that can gain a node has these facts.
pub addable_facts : (e i : ℕ) (parts : List ℕ) (r : ℕ) → addable_at e i parts r ≡ true → Gains e i parts r
addable_facts e i parts r h =
    let p = and_split (is_addable parts (r, part parts r + 1)) (nat_eq (residue e (r, part parts r + 1)) i) h in
    record { room = addable_row parts r p.0; residue_is = eqb-true (residue e (r, part parts r + 1)) i p.1 }

-- A row with these facts can gain a node.
pub facts_addable : (e i : ℕ) (parts : List ℕ) (r : ℕ) → 1 ≤ r → Gains e i parts r → addable_at e i parts r ≡ true
facts_addable e i parts r hr g =
    and_join (is_addable parts (r, part parts r + 1)) (nat_eq (residue e (r, part parts r + 1)) i)
    (row_addable parts r hr g.room) (eq-eqb (residue e (r, part parts r + 1)) i g.residue_is)

-- whether a row can gain a node is seen from it and the row above it
pub addable_at-alike : (e i : ℕ) (xs ys : List ℕ) (r : ℕ) → 1 ≤ r → part xs r ≡ part ys r →
    (1 < r → part xs (r - 1) ≡ part ys (r - 1)) → addable_at e i xs r ≡ addable_at e i ys r
addable_at-alike e i xs ys r hr here up = same_tests (addable_at e i xs r) (addable_at e i ys r)
    (λ a. facts_addable e i ys r hr (carried xs ys (addable_facts e i xs r a) here up))
    (λ a. facts_addable e i xs r hr (carried ys xs (addable_facts e i ys r a) (sym here) (λ more. sym (up more))))
  where
    carried : (xs ys : List ℕ) → Gains e i xs r → part xs r ≡ part ys r →
        (1 < r → part xs (r - 1) ≡ part ys (r - 1)) → Gains e i ys r
    carried xs ys g here up = record {
      room = λ more. omega (arith, g.room more, here, up more);
      residue_is = ap (λ p. residue e (r, p + 1)) (sym here) ∙ g.residue_is;
    }

-- a row that can gain a node is at most one below the last
pub gain_near : (e i : ℕ) (parts : List ℕ) (r : ℕ) → Gains e i parts r → r ≤ length parts + 1
gain_near e i parts r g = settle (le_or_lt r (length parts + 1))
  where
    settle : (r ≤ length parts + 1) ⊎ (length parts + 1 < r) → r ≤ length parts + 1
    settle (inl le) = le
    settle (inr far) =
        absurd (let short : r - 1 - 1 < length parts =
        index_short parts (r - 1 - 1) (omega (arith, g.room (omega arith))) in omega arith)

-- a row never has both
pub not_both : (e i : ℕ) (parts : List ℕ) (r : ℕ) → 2 ≤ e → addable_at e i parts r ≡ true →
    removable_at e i parts r ≡ true → ⊥
not_both e i parts r he a b = right_differs e r (part parts r) he
    ((addable_facts e i parts r a).residue_is
    ∙ sym (eqb-true (residue e (r, part parts r)) i
    (and_split (is_removable parts (r, part parts r)) (nat_eq (residue e (r, part parts r)) i) b).1))
