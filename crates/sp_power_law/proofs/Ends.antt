-- Where a move from a partition ends. A row keeps its length or gains the one node that it can gain. So an end is
-- told row by row, by which nodes are chosen.
use Rattle.std.proofs.Common.{◌≡◌, ◌≢◌, ℕ, suc, ◌+◌, ◌-◌, ◌<◌, ◌≤◌, true, List, length, sym, ◌∙◌, ap, subst, arith}
use Rattle.std.proofs.Common.{slice_index, ◌⊎◌, inl, inr, ℤ}
use Rattle.sp_defs.specs.Partition.{part, degree, IsPartition}
use Rattle.sp_defs.specs.Node.{residue}
use Rattle.sp_defs.specs.Signature.{grow}
use Rattle.sp_lists.proofs.Elements.{le_or_lt}
use Rattle.sp_shapes.proofs.Within.{rows_sum, same_within}
use Rattle.sp_shapes.proofs.Moves.{Move, degree_added}
use Rattle.sp_shapes.proofs.Residues.{right_differs, below_differs}
use Rattle.sp_power_law.proofs.Gains.{addable_at, facts_addable, addable_facts, gain_near}
use Rattle.sp_power_law.proofs.Steps.{Before, grown_here, grown_elsewhere}

-- Row r of nu is that of `parts`, or has the one node more that this row can gain.
abbrev pub RowCase : ℕ → ℕ → List ℕ → List ℕ → ℕ → Type 0
RowCase e i parts nu r =
    (part nu r ≡ part parts r) ⊎ ((part nu r ≡ part parts r + 1) × (addable_at e i parts r ≡ true))

-- A move of k nodes ends at nu, which has the rows of `now` above row r.
pub record Ends (e i : ℕ) (parts : List ℕ) (k r : ℕ) (now nu : List ℕ) : Type 0 where
  pub partition : IsPartition nu
  pub move : Move e i k parts nu
  pub earlier : (s : ℕ) → 1 ≤ s → s < r → part nu s ≡ part now s

module _ (e i : ℕ) (he : 2 ≤ e) (parts : List ℕ) (pp : IsPartition parts) where
  -- ---- a row

  module _ (k : ℕ) (nu : List ℕ) (pn : IsPartition nu) (mv : Move e i k parts nu) where
    -- Two nodes more would be neighbours, and a new node below a new one too: neighbours have other residues.
    pub row_cases : (r : ℕ) → 1 ≤ r → RowCase e i parts nu r
    row_cases r hr = settle (le_or_lt (part nu r) (part parts r)) (le_or_lt (part nu r) (part parts r + 1))
      where
        rows : part parts r ≤ part nu r
        rows = mv.rows (r - 1)

        added : (c : ℕ) → part parts r < c → c ≤ part nu r → residue e (r, c) ≡ i
        added c lo hi = mv.residues r c hr (omega arith) hi lo

        above_it : 1 < r → part parts r < part nu r → part parts r < part parts (r - 1)
        above_it more grown = by_room (le_or_lt (part parts (r - 1)) (part parts r))
          where
            descends : part nu r ≤ part nu (r - 1)
            descends = subst (λ n. slice_index nu n ≤ slice_index nu (r - 1 - 1)) place (pn.descending (r - 1 - 1))
              where
                place : r - 1 - 1 + 1 ≡ r - 1
                place = omega arith

            by_room : (part parts (r - 1) ≤ part parts r) ⊎ (part parts r < part parts (r - 1)) →
                part parts r < part parts (r - 1)
            by_room (inr room) = room
            by_room (inl full) =
                absurd (below_differs e (r - 1) (part parts r + 1) he
                (ap (λ n. residue e (n, part parts r + 1)) back ∙ added (part parts r + 1) (omega arith) (omega arith)
                ∙ sym (mv.residues (r - 1) (part parts r + 1) (omega arith) (omega arith) (omega (arith, descends))
                (omega arith))))
              where
                back : r - 1 + 1 ≡ r
                back = omega arith

        settle : (part nu r ≤ part parts r) ⊎ (part parts r < part nu r) →
            (part nu r ≤ part parts r + 1) ⊎ (part parts r + 1 < part nu r) → RowCase e i parts nu r
        settle (inl le) b = inl (omega (arith, rows))
        settle (inr lt) (inr two) =
            absurd (right_differs e r (part parts r + 1) he
            (added (part parts r + 1 + 1) (omega arith) (omega arith)
            ∙ sym (added (part parts r + 1) (omega arith) (omega arith))))
        settle (inr lt) (inl one) =
            inr (
              omega arith,
              facts_addable e i parts r hr
                  (record {
                    room = λ more. above_it more lt;
                    residue_is = added (part parts r + 1) (omega arith) (omega arith);
                  }),
            )

    -- No row past the first one below the last is changed.
    pub past_end : (r : ℕ) → length parts + 1 < r → part nu r ≡ part parts r
    past_end r far = settle (row_cases r (omega arith))
      where
        settle : RowCase e i parts nu r → part nu r ≡ part parts r
        settle (inl same) = same
        settle (inr (more, can)) =
            absurd (let near : r ≤ length parts + 1 = gain_near e i parts r (addable_facts e i parts r can) in
            omega arith)

    -- The nodes are as many as the move says.
    pub degree_of : degree nu ≡ degree parts + k
    degree_of = degree_added parts nu pp mv.rows ∙ ap (λ n. degree parts + n) mv.count

  -- ---- on the way down

  by_rows : (xs ys : List ℕ) → ((s : ℕ) → 1 ≤ s → part xs s ≤ part ys s) → (j : ℕ) → slice_index xs j ≤ slice_index ys j
  by_rows xs ys f j = subst (λ n. slice_index xs n ≤ slice_index ys n) (back j) (f (j + 1) (omega arith))
    where
      back : (j : ℕ) → j + 1 - 1 ≡ j
      back j = omega arith

  module _ (r k : ℕ) (now : List ℕ) (d x : ℤ) (hr : 1 ≤ r) (st : Before e i parts r k now d x) where
    -- Where no node is left to choose, the end is reached.
    pub at_end : (nu : List ℕ) → Ends e i parts k r now nu → now ≡ nu
    at_end nu h = same_within now nu st.partition h.partition (by_rows now nu (λ s hs. below s hs (le_or_lt r s)))
        (omega (arith, degree_of k now st.partition st.move, degree_of k nu h.partition h.move))
      where
        below : (s : ℕ) → 1 ≤ s → (r ≤ s) ⊎ (s < r) → part now s ≤ part nu s
        below s hs (inr lt) = omega (arith, h.earlier s hs lt)
        below s hs (inl le) = omega (arith, st.later s le, h.move.rows (s - 1))

    -- Below the last row that can gain a node no more can be chosen.
    pub no_further_end : (m : ℕ) (nu : List ℕ) → length parts + 1 < r → Ends e i parts (k + suc m) r now nu → ⊥
    no_further_end m nu far h =
        omega (
          arith,
          rows_sum nu now (by_rows nu now (λ s hs. below s hs (le_or_lt r s))),
          degree_of k now st.partition st.move,
          degree_of (k + suc m) nu h.partition h.move,
        )
      where
        below : (s : ℕ) → 1 ≤ s → (r ≤ s) ⊎ (s < r) → part nu s ≤ part now s
        below s hs (inr lt) = omega (arith, h.earlier s hs lt)
        below s hs (inl le) =
            omega (arith, st.later s le, past_end (k + suc m) nu h.partition h.move s (omega arith))

    -- An end that keeps row r is one of those once the row is passed.
    pub passed_end : (j : ℕ) (nu : List ℕ) → Ends e i parts j r now nu → part nu r ≡ part parts r →
        Ends e i parts j (r + 1) now nu
    passed_end j nu h same = record {
      partition = h.partition;
      move = h.move;
      earlier = λ s lo hi. upto s lo (le_or_lt r s) hi;
    }
      where
        upto : (s : ℕ) → 1 ≤ s → (r ≤ s) ⊎ (s < r) → s < r + 1 → part nu s ≡ part now s
        upto s lo (inr lt) hi = h.earlier s lo lt
        upto s lo (inl le) hi = subst (λ n. part nu n ≡ part now n) here (same ∙ sym (st.later r (omega arith)))
          where
            here : r ≡ s
            here = omega arith

    -- And back.
    pub end_of_passed : (j : ℕ) (nu : List ℕ) → Ends e i parts j (r + 1) now nu → Ends e i parts j r now nu
    end_of_passed j nu h = record {
      partition = h.partition;
      move = h.move;
      earlier = λ s lo hi. h.earlier s lo (omega arith);
    }

    module _ (can : addable_at e i parts r ≡ true) where
      -- An end with a node more in row r is one of those once the node is chosen.
      pub chosen_end : (j : ℕ) (nu : List ℕ) → Ends e i parts j r now nu → part nu r ≡ part parts r + 1 →
          Ends e i parts j (r + 1) (grow (r - 1) now) nu
      chosen_end j nu h more = record {
        partition = h.partition;
        move = h.move;
        earlier = λ s lo hi. upto s lo (le_or_lt r s) hi;
      }
        where
          upto : (s : ℕ) → 1 ≤ s → (r ≤ s) ⊎ (s < r) → s < r + 1 → part nu s ≡ part (grow (r - 1) now) s
          upto s lo (inr lt) hi =
              h.earlier s lo lt
              ∙ sym (grown_elsewhere e i he parts pp r k now d x hr st can s lo (λ same. omega arith))
          upto s lo (inl le) hi =
              subst (λ n. part nu n ≡ part (grow (r - 1) now) n) here
              (omega (arith, more, grown_here e i he parts pp r k now d x hr st can, st.later r (omega arith)))
            where
              here : r ≡ s
              here = omega arith

      -- And back.
      pub end_of_chosen : (j : ℕ) (nu : List ℕ) → Ends e i parts j (r + 1) (grow (r - 1) now) nu →
          Ends e i parts j r now nu
      end_of_chosen j nu h = record {
        partition = h.partition;
        move = h.move;
        earlier =
            λ s lo hi. h.earlier s lo (omega arith)
            ∙ grown_elsewhere e i he parts pp r k now d x hr st can s lo (λ same. omega arith);
      }

      -- The two kinds differ in row r.
      pub not_chosen : (j : ℕ) (nu kappa : List ℕ) → part nu r ≡ part parts r →
          Ends e i parts j (r + 1) (grow (r - 1) now) kappa → kappa ≢ nu
      not_chosen j nu kappa same h is =
          omega (
            arith,
            ap (λ l. part l r) is,
            h.earlier r hr (omega arith),
            grown_here e i he parts pp r k now d x hr st can,
            st.later r (omega arith),
            same,
          )

    -- An end with a node more in row r is none of those once the row is passed.
    pub not_passed : (j : ℕ) (nu kappa : List ℕ) → part nu r ≡ part parts r + 1 → Ends e i parts j (r + 1) now kappa →
        kappa ≢ nu
    not_passed j nu kappa more h is =
        omega (arith, ap (λ l. part l r) is, h.earlier r hr (omega arith), st.later r (omega arith), more)
