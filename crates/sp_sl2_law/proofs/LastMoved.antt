-- A move of m + 1 nodes, without one of them: a move of m nodes, with its exponent.
use Rattle.std.proofs.Common.{◌≡◌, ◌≢◌, ℕ, suc, ◌+◌, ◌-◌, ◌*◌, ◌<◌, ◌≤◌, true, false, nat_lt, List, length, sym, ◌∙◌}
use Rattle.std.proofs.Common.{ap}
use Rattle.std.proofs.Common.{subst, arith, slice_index, ◌⊎◌, inl, inr, ℤ, pos, ◌+ℤ◌, ◌-ℤ◌, lt-ltb, le-ltb, ltb-true}
use Rattle.std.proofs.lemmas.Int.{ints}
use Rattle.sp_defs.specs.Partition.{part, IsPartition}
use Rattle.sp_defs.specs.Node.{residue}
use Rattle.sp_defs.specs.Power.{exponent}
use Rattle.sp_defs.specs.Signature.{shrink}
use Rattle.sp_lists.proofs.Elements.{le_or_lt}
use Rattle.sp_shapes.proofs.Moves.{Move, degree_added}
use Rattle.sp_shapes.proofs.Shrink.{shrink_other, shrink_same, degree-shrink, length-shrink}
use Rattle.sp_power_law.proofs.Gains.{addable_at, addable_facts}
use Rattle.sp_power_law.proofs.Ends.{RowCase, row_cases}
use Rattle.sp_sl2_law.proofs.Cross.{same_or_other}
use Rattle.sp_sl2_law.proofs.OneNode.{Loses, Shrunk, shrinks, corner_of}
use Rattle.sp_sl2_law.proofs.Longer.{count_to, count_next, sum_to, sum_below, is_longer, longer_count, longer_sum}
use Rattle.sp_sl2_law.proofs.Longer.{tilt_after}
use Rattle.sp_sl2_law.proofs.Tilts.{tilt}

module _ (e i m : ℕ) (he : 2 ≤ e) (lambda : List ℕ) (pl : IsPartition lambda) (nu : List ℕ) (pn : IsPartition nu)
    (s : ℕ)
    (hs : 1 ≤ s) where
  -- ---- rows

  module _ (l : Loses e i nu s) where
    shrunk_rows : (j : ℕ) → slice_index (shrink (s - 1) nu) j ≤ slice_index nu j
    shrunk_rows j = settle (same_or_other j (s - 1))
      where
        settle : (j ≡ s - 1) ⊎ (j ≢ s - 1) → slice_index (shrink (s - 1) nu) j ≤ slice_index nu j
        settle (inl is) =
            subst (λ n. slice_index (shrink (s - 1) nu) n ≤ slice_index nu n) (sym is)
            (omega (arith, shrink_same nu (s - 1) pn (corner_of e i nu s hs l)))
        settle (inr ne) = omega (arith, shrink_other nu (s - 1) j pn (corner_of e i nu s hs l) ne)

    -- With the node put back, a move has one node more.
    pub longer_move : Move e i m lambda (shrink (s - 1) nu) → Move e i (m + 1) lambda nu
    longer_move mv = record {
      rows = all_rows;
      residues = λ r c hr hc w out. one r c hr hc w out (le_or_lt c (part (shrink (s - 1) nu) r)) (same_or_other r s);
      count =
          omega (
            arith,
            degree_added lambda nu pl all_rows,
            degree_added lambda (shrink (s - 1) nu) pl mv.rows,
            degree-shrink (s - 1) nu pn (corner_of e i nu s hs l),
            mv.count,
          );
    }
      where
        all_rows : (j : ℕ) → slice_index lambda j ≤ slice_index nu j
        all_rows j = omega (arith, mv.rows j, shrunk_rows j)

        d : Shrunk nu s (shrink (s - 1) nu)
        d = shrinks e i nu s hs pn l

        one : (r c : ℕ) → 1 ≤ r → 1 ≤ c → c ≤ part nu r → part lambda r < c →
            (c ≤ part (shrink (s - 1) nu) r) ⊎ (part (shrink (s - 1) nu) r < c) → (r ≡ s) ⊎ (r ≢ s) →
            residue e (r, c) ≡ i
        one r c hr hc w out (inl le) b = mv.residues r c hr hc le out
        one r c hr hc w out (inr gt) (inr ne) = absurd (omega (arith, d.elsewhere r hr ne))
        one r c hr hc w out (inr gt) (inl same) =
            subst (λ n. residue e (n, c) ≡ i) (sym same)
            (subst (λ n. residue e (s, n) ≡ i)
            (column (subst (λ n. c ≤ part nu n) same w) (subst (λ n. part (shrink (s - 1) nu) n < c) same gt))
            l.residue_is)
          where
            column : c ≤ part nu s → part (shrink (s - 1) nu) s < c → part nu s ≡ c
            column w gt = omega (arith, d.here)

    -- The row is one of those that the move makes longer.
    pub is_among : Move e i m lambda (shrink (s - 1) nu) → is_longer lambda nu s ≡ true
    is_among mv =
        lt-ltb (part lambda s) (part nu s) (omega (arith, mv.rows (s - 1), (shrinks e i nu s hs pn l).here))

  module _ (mv : Move e i (m + 1) lambda nu) (on : is_longer lambda nu s ≡ true) where
    grown : (part nu s ≡ part lambda s + 1) × (addable_at e i lambda s ≡ true)
    grown = settle (row_cases e i he lambda pl (m + 1) nu pn mv s hs)
      where
        settle : RowCase e i lambda nu s → (part nu s ≡ part lambda s + 1) × (addable_at e i lambda s ≡ true)
        settle (inl same) =
            absurd (let more : part lambda s < part nu s = ltb-true (part lambda s) (part nu s) on in omega arith)
        settle (inr g) = g

    -- The new node of a longer row is at a corner.
    pub loses : Loses e i nu s
    loses = record {
      corner = settle (row_cases e i he lambda pl (m + 1) nu pn mv (s + 1) (omega arith));
      residue_is = ap (λ c. residue e (s, c)) grown.0 ∙ (addable_facts e i lambda s grown.1).residue_is;
    }
      where
        descends : part lambda (s + 1) ≤ part lambda s
        descends = subst (λ n. slice_index lambda n ≤ slice_index lambda (s - 1)) back (pl.descending (s - 1))
          where
            back : s - 1 + 1 ≡ s + 1 - 1
            back = omega arith

        settle : RowCase e i lambda nu (s + 1) → part nu (s + 1) < part nu s
        settle (inl same) = omega (arith, grown.0, descends)
        settle (inr (more, can)) =
            let room : part lambda (s + 1) < part lambda (s + 1 - 1) =
            (addable_facts e i lambda (s + 1) can).room (omega arith) in
            let here : part lambda (s + 1) < part lambda s =
            subst (λ n. part lambda (s + 1) < part lambda n) back room in
            omega (arith, grown.0)
          where
            back : s + 1 - 1 ≡ s
            back = omega arith

    -- Without it the move has one node less.
    pub shorter_move : Move e i m lambda (shrink (s - 1) nu)
    shorter_move = record {
      rows = all_rows;
      residues =
          λ r c hr hc w out. mv.residues r c hr hc (omega (arith, shrunk_rows loses (r - 1))) out;
      count =
          omega (
            arith,
            degree_added lambda nu pl mv.rows,
            degree_added lambda (shrink (s - 1) nu) pl all_rows,
            degree-shrink (s - 1) nu pn (corner_of e i nu s hs loses),
            mv.count,
          );
    }
      where
        all_rows : (j : ℕ) → slice_index lambda j ≤ slice_index (shrink (s - 1) nu) j
        all_rows j = settle (same_or_other j (s - 1))
          where
            settle : (j ≡ s - 1) ⊎ (j ≢ s - 1) → slice_index lambda j ≤ slice_index (shrink (s - 1) nu) j
            settle (inl is) =
                subst (λ n. slice_index lambda n ≤ slice_index (shrink (s - 1) nu) n) (sym is)
                (omega (arith, grown.0, shrink_same nu (s - 1) pn (corner_of e i nu s hs loses)))
            settle (inr ne) =
                omega (arith, mv.rows j, shrink_other nu (s - 1) j pn (corner_of e i nu s hs loses) ne)

    -- ---- exponents

    -- Both exponents together: that of the whole move, and m less twice the number of longer rows above.
    pub split_exponent : tilt e i nu (s - 1) +ℤ exponent e i lambda (shrink (s - 1) nu) ≡
        exponent e i lambda nu +ℤ (pos m -ℤ pos (2 * count_to (is_longer lambda nu) (s - 1)))
    split_exponent =
        together (tilt e i nu (s - 1)) (tilt e i lambda (s - 1)) (exponent e i lambda (shrink (s - 1) nu))
        (exponent e i lambda nu) (sum_to (tilt e i lambda) (is_longer lambda (shrink (s - 1) nu)) (length nu + s))
        (sum_to (tilt e i lambda) (is_longer lambda nu) (length nu + s))
        (count_to (is_longer lambda nu) (s - 1)) (count_to (is_longer lambda nu) (suc (s - 1)))
        (count_to (is_longer lambda nu) (length nu + s)) m
        (tilt_after e i he lambda pl (m + 1) nu pn mv (s - 1))
        (longer_sum e i he lambda pl m (shrink (s - 1) nu) d.partition shorter_move (length nu + s) short)
        (longer_sum e i he lambda pl (m + 1) nu pn mv (length nu + s) (omega arith))
        (longer_count e i he lambda pl (m + 1) nu pn mv (length nu + s) (omega arith))
        (count_next (is_longer lambda nu) (s - 1) there)
        (sum_below (tilt e i lambda) (is_longer lambda nu) (is_longer lambda (shrink (s - 1) nu)) (s - 1) there gone
        others (length nu + s) (omega arith))
      where
        d : Shrunk nu s (shrink (s - 1) nu)
        d = shrinks e i nu s hs pn loses

        short : length (shrink (s - 1) nu) ≤ length nu + s
        short = omega (arith, length-shrink (s - 1) nu pn (corner_of e i nu s hs loses))

        back : suc (s - 1) ≡ s
        back = omega arith

        there : is_longer lambda nu (suc (s - 1)) ≡ true
        there = ap (is_longer lambda nu) back ∙ on

        gone : is_longer lambda (shrink (s - 1) nu) (suc (s - 1)) ≡ false
        gone = ap (is_longer lambda (shrink (s - 1) nu)) back
            ∙ le-ltb (part lambda s) (part (shrink (s - 1) nu) s) (omega (arith, grown.0, d.here))

        others : (r : ℕ) → r ≢ s - 1 → is_longer lambda (shrink (s - 1) nu) (suc r) ≡ is_longer lambda nu (suc r)
        others r ne = ap (λ n. nat_lt (part lambda (suc r)) n)
            (d.elsewhere (suc r) (omega arith) (λ x. ne (omega arith)))

        together : (a b x y u v : ℤ) (c c' t m : ℕ) → a ≡ b -ℤ pos (2 * c) → u ≡ x → v ≡ y → t ≡ m + 1 → c' ≡ c + 1 →
            u +ℤ (b -ℤ pos c) ≡ v +ℤ (pos t -ℤ pos c') → a +ℤ x ≡ y +ℤ (pos m -ℤ pos (2 * c))
        together a b x y u v c c' t m ha hu hv ht hc h = omega (arith, ints)
