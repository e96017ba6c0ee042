-- The list of moves has exactly the moves: all that is in it is one, with its exponent, and each is in it once.
use Rattle.std.proofs.Common.{◌≡◌, ◌≢◌, ℕ, zero, suc, ◌+◌, ◌-◌, ◌<◌, ◌≤◌, Bool, true, false, cond, List, [], ◌∷◌, ◌++◌}
use Rattle.std.proofs.Common.{filter, flat_map, length, refl, sym, ◌∙◌, ap, ap₂, subst, arith, inl, inr}
use Rattle.std.proofs.Common.{ℤ, pos, ◌+ℤ◌, ◌-ℤ◌, true≢false, Less, Equal, Greater}
use Rattle.std.proofs.lemmas.Int.{ints}
use Rattle.std.specs.List.{AllByRecursion, range_with_len}
use Rattle.std.specs.Ordering.{is_eq}
use Rattle.sp_defs.specs.Partition.{part, degree, IsPartition, compare}
use Rattle.sp_defs.specs.Power.{is_move, exponent}
use Rattle.sp_defs.specs.Signature.{Addable, Removable, Mark, row_marks, signature, grow}
use Rattle.sp_lists.proofs.Elements.{all_append, filter_append}
use Rattle.sp_lists.proofs.Places.{all_weaken}
use Rattle.sp_shapes.proofs.Order.{equal_self, same_lists}
use Rattle.sp_shapes.proofs.Moves.{move_facts, facts_move}
use Rattle.sp_power_law.specs.Walk.{Reached, moves_through, moves}
use Rattle.sp_power_law.proofs.Gains.{addable_at, removable_at, not_both}
use Rattle.sp_power_law.proofs.Rows.{row_marks_are}
use Rattle.sp_power_law.proofs.Steps.{Before, start, pass, choose}
use Rattle.sp_power_law.proofs.Ends.{RowCase, Ends, row_cases, degree_of, at_end, no_further_end, passed_end}
use Rattle.sp_power_law.proofs.Ends.{end_of_passed, chosen_end, end_of_chosen, not_chosen, not_passed}

-- ---- a row of the signature: its node is chosen or passed

moves_step : (e i : ℕ) (parts : List ℕ) (r m : ℕ) (rest : List Mark) (now : List ℕ) (d x : ℤ) → 2 ≤ e →
    moves_through (row_marks e i parts r ++ rest) (suc m) now d x ≡ cond (addable_at e i parts r)
    (moves_through rest m (grow (r - 1) now) d (x +ℤ d)) [] ++ moves_through rest (suc m) now
    ((d +ℤ pos (cond (addable_at e i parts r) 1 0)) -ℤ pos (cond (removable_at e i parts r) 1 0)) x
unfolding moves_through
moves_step e i parts r m rest now d x he =
    ap (λ ms. moves_through (ms ++ rest) (suc m) now d x) (row_marks_are e i parts r)
    ∙ by_case (addable_at e i parts r) (removable_at e i parts r) (not_both e i parts r he)
  where
    by_case : (a b : Bool) → (a ≡ true → b ≡ true → ⊥) →
        moves_through
        ((cond b ((Removable, (r, part parts r)) ∷ []) [] ++ cond a ((Addable, (r, part parts r + 1)) ∷ []) []) ++
        rest) (suc m) now d x ≡ cond a (moves_through rest m (grow (r - 1) now) d (x +ℤ d)) [] ++ moves_through rest
        (suc m) now ((d +ℤ pos (cond a 1 0)) -ℤ pos (cond b 1 0)) x
    by_case true true f = absurd (f refl refl)
    by_case true false f =
        ap (λ z. moves_through rest m (grow (r - 1) now) d (x +ℤ d) ++ moves_through rest (suc m) now z x) (up d)
      where
        up : (d : ℤ) → d +ℤ pos 1 ≡ (d +ℤ pos 1) -ℤ pos 0
        up d = omega (arith, ints)
    by_case false true f = ap (λ z. moves_through rest (suc m) now z x) (down d)
      where
        down : (d : ℤ) → d -ℤ pos 1 ≡ (d +ℤ pos 0) -ℤ pos 1
        down d = omega (arith, ints)
    by_case false false f = ap (λ z. moves_through rest (suc m) now z x) (level d)
      where
        level : (d : ℤ) → d ≡ (d +ℤ pos 0) -ℤ pos 0
        level d = omega (arith, ints)

-- ---- a list with exactly the moves

-- t is an end and has the exponent of its move.
record Reaches (e i : ℕ) (parts : List ℕ) (k r : ℕ) (now : List ℕ) (t : Reached) : Type 0 where
  ends : Ends e i parts k r now t.0
  exponent_is : t.1 ≡ exponent e i parts t.0

abbrev is : List ℕ → Reached → Bool
is nu t = is_eq (compare t.0 nu)

-- All that is in the list is an end, and each end is in it once.
record AreMoves (e i : ℕ) (parts : List ℕ) (k r : ℕ) (now : List ℕ) (xs : List Reached) : Type 0 where
  all : AllByRecursion (Reaches e i parts k r now) xs
  once : (nu : List ℕ) → Ends e i parts k r now nu → filter (is nu) xs ≡ (nu, exponent e i parts nu) ∷ []

none_is : (nu : List ℕ) (xs : List Reached) → AllByRecursion (λ t. t.0 ≢ nu) xs → filter (is nu) xs ≡ []
none_is nu [] h = refl
none_is nu (t ∷ xs) (h, hs) =
    elim (compare t.0 nu) as (λ o. compare t.0 nu ≡ o →
    cond (is_eq o) (t ∷ filter (is nu) xs) (filter (is nu) xs) ≡ []) [
      | Less ↦ λ _. none_is nu xs hs
      | Equal ↦ λ eq. absurd (h (same_lists t.0 nu eq))
      | Greater ↦ λ _. none_is nu xs hs
    ] refl

one_is : (nu now : List ℕ) (x y : ℤ) → now ≡ nu → x ≡ y → filter (is nu) ((now, x) ∷ []) ≡ (nu, y) ∷ []
one_is nu now x y same sum_same =
    ap (λ o. cond (is_eq o) ((now, x) ∷ []) []) (subst (λ l. compare l nu ≡ Equal) (sym same) (equal_self nu))
    ∙ ap₂ (λ a b. (a, b) ∷ []) same sum_same

module _ (e i : ℕ) (he : 2 ≤ e) (parts : List ℕ) (pp : IsPartition parts) where
  module _ (r k : ℕ) (now : List ℕ) (d x : ℤ) (hr : 1 ≤ r) (st : Before e i parts r k now d x) where
    -- no node is left to choose
    no_node_left : AreMoves e i parts k r now ((now, x) ∷ [])
    no_node_left = record {
      all = (
        record {
          ends = record { partition = st.partition; move = st.move; earlier = λ s lo hi. refl };
          exponent_is = st.sum_is;
        },
        tt,
      );
      once = λ nu h.
          let same : now ≡ nu = at_end e i he parts pp r k now d x hr st nu h in
          one_is nu now x (exponent e i parts nu) same (st.sum_is ∙ ap (exponent e i parts) same);
    }

    -- no row is left
    no_row_left : (m : ℕ) → length parts + 1 < r → AreMoves e i parts (k + suc m) r now []
    no_row_left m far = record {
      all = tt;
      once = λ nu h. absurd (no_further_end e i he parts pp r k now d x hr st m nu far h);
    }

    -- one row: its node is chosen, if it can gain one, or it is passed
    module _ (j : ℕ) (chosen passed : List Reached)
        (are_chosen : addable_at e i parts r ≡ true → AreMoves e i parts j (r + 1) (grow (r - 1) now) chosen)
        (are_passed : AreMoves e i parts j (r + 1) now passed) where
      all_in_row : (b : Bool) → addable_at e i parts r ≡ b →
          AllByRecursion (Reaches e i parts j r now) (cond b chosen [])
      all_in_row true can =
          all_weaken (Reaches e i parts j (r + 1) (grow (r - 1) now)) (Reaches e i parts j r now) chosen
          (λ t g. record {
            ends = end_of_chosen e i he parts pp r k now d x hr st can j t.0 g.ends;
            exponent_is = g.exponent_is;
          }) (are_chosen can).all
      all_in_row false _ = tt

      all_past_row : AllByRecursion (Reaches e i parts j r now) passed
      all_past_row =
          all_weaken (Reaches e i parts j (r + 1) now) (Reaches e i parts j r now) passed
          (λ t g. record {
            ends = end_of_passed e i he parts pp r k now d x hr st j t.0 g.ends;
            exponent_is = g.exponent_is;
          }) are_passed.all

      none_in_row : (nu : List ℕ) → part nu r ≡ part parts r → (b : Bool) → addable_at e i parts r ≡ b →
          filter (is nu) (cond b chosen []) ≡ []
      none_in_row nu same true can =
          none_is nu chosen
          (all_weaken (Reaches e i parts j (r + 1) (grow (r - 1) now)) (λ t. t.0 ≢ nu) chosen
          (λ t g. not_chosen e i he parts pp r k now d x hr st can j nu t.0 same g.ends) (are_chosen can).all)
      none_in_row nu same false _ = refl

      none_past_row : (nu : List ℕ) → part nu r ≡ part parts r + 1 → filter (is nu) passed ≡ []
      none_past_row nu more =
          none_is nu passed
          (all_weaken (Reaches e i parts j (r + 1) now) (λ t. t.0 ≢ nu) passed
          (λ t g. not_passed e i he parts pp r k now d x hr st j nu t.0 more g.ends) are_passed.all)

      one_row : AreMoves e i parts j r now (cond (addable_at e i parts r) chosen [] ++ passed)
      one_row = record {
        all =
            all_append (Reaches e i parts j r now) (cond (addable_at e i parts r) chosen []) passed
            (all_in_row (addable_at e i parts r) refl) all_past_row;
        once = λ nu h. filter_append (is nu) (cond (addable_at e i parts r) chosen []) passed
            ∙ settle nu h (row_cases e i he parts pp j nu h.partition h.move r hr);
      }
        where
          settle : (nu : List ℕ) → Ends e i parts j r now nu → RowCase e i parts nu r →
              filter (is nu) (cond (addable_at e i parts r) chosen []) ++ filter (is nu) passed
              ≡ (nu, exponent e i parts nu) ∷ []
          settle nu h (inl same) =
              ap₂ (λ a b. a ++ b) (none_in_row nu same (addable_at e i parts r) refl)
              (are_passed.once nu (passed_end e i he parts pp r k now d x hr st j nu h same))
          settle nu h (inr (more, can)) =
              ap₂ (λ a b. filter (is nu) (cond a chosen []) ++ b) can (none_past_row nu more)
              ∙ ap (λ l. l ++ [])
              ((are_chosen can).once nu (chosen_end e i he parts pp r k now d x hr st can j nu h more))

  -- ---- down the rows

  abbrev marks_from : ℕ → ℕ → List Mark
  marks_from r n = flat_map (row_marks e i parts) (range_with_len r n)

  are_moves : (n r k m : ℕ) (now : List ℕ) (d x : ℤ) → 1 ≤ r → r + n ≡ length parts + 2 →
      Before e i parts r k now d x → AreMoves e i parts (k + m) r now (moves_through (marks_from r n) m now d x)
  unfolding moves_through
  are_moves n r k zero now d x hr total st =
      subst (λ j. AreMoves e i parts j r now ((now, x) ∷ [])) (plain k) (no_node_left r k now d x hr st)
    where
      plain : (k : ℕ) → k ≡ k + 0
      plain k = omega arith
  are_moves zero r k (suc m) now d x hr total st = no_row_left r k now d x hr st m (omega arith)
  are_moves (suc n) r k (suc m) now d x hr total st =
      subst (AreMoves e i parts (k + suc m) r now) (sym (moves_step e i parts r m (marks_from (r + 1) n) now d x he))
      (one_row r k now d x hr st (k + suc m) (moves_through (marks_from (r + 1) n) m (grow (r - 1) now) d (x +ℤ d))
      (moves_through (marks_from (r + 1) n) (suc m) now below x)
      (λ can. subst (λ j. AreMoves e i parts j (r + 1) (grow (r - 1) now)
      (moves_through (marks_from (r + 1) n) m (grow (r - 1) now) d (x +ℤ d))) (moved k m)
      (are_moves n (r + 1) (k + 1) m (grow (r - 1) now) d (x +ℤ d) (omega arith) (omega arith)
      (choose e i he parts pp r k now d x hr st can)))
      (are_moves n (r + 1) k (suc m) now below x (omega arith) (omega arith)
      (pass e i he parts pp r k now d x hr st)))
    where
      moved : (k m : ℕ) → k + 1 + m ≡ k + suc m
      moved k m = omega arith

      below : ℤ
      below = (d +ℤ pos (cond (addable_at e i parts r) 1 0)) -ℤ pos (cond (removable_at e i parts r) 1 0)

  whole_list : (m : ℕ) → AreMoves e i parts m 1 parts (moves e i m parts)
  unfolding moves signature
  whole_list m =
      subst (λ j. AreMoves e i parts j 1 parts (moves e i m parts)) (plain m)
      (are_moves (length parts + 1) 1 0 m parts (pos 0) (pos 0) (omega arith) (omega arith) (start e i parts pp))
    where
      plain : (m : ℕ) → 0 + m ≡ m
      plain m = omega arith

-- ---- the theorem

-- t is reached by a move of m nodes, and has its exponent
pub record IsMoveOf (e i m : ℕ) (parts : List ℕ) (t : Reached) : Type 0 where
  pub partition : IsPartition t.0
  pub degree_is : degree t.0 ≡ degree parts + m
  pub is_one : is_move e i m parts t.0 ≡ true
  pub exponent_is : t.1 ≡ exponent e i parts t.0

-- All in the list are moves.
pub all_moves : (e i m : ℕ) (parts : List ℕ) → 2 ≤ e → IsPartition parts →
    AllByRecursion (IsMoveOf e i m parts) (moves e i m parts)
all_moves e i m parts he pp =
    all_weaken (Reaches e i parts m 1 parts) (IsMoveOf e i m parts) (moves e i m parts)
    (λ t g. record {
      partition = g.ends.partition;
      degree_is = degree_of e i he parts pp m t.0 g.ends.partition g.ends.move;
      is_one = facts_move e i m parts t.0 g.ends.move;
      exponent_is = g.exponent_is;
    }) (whole_list e i he parts pp m).all

-- What the list has for one partition: the move that ends there, if there is one.
pub moves_to : (e i m : ℕ) (parts nu : List ℕ) → 2 ≤ e → IsPartition parts → IsPartition nu →
    filter (λ t. is_eq (compare t.0 nu)) (moves e i m parts) ≡ cond (is_move e i m parts nu)
    ((nu, exponent e i parts nu) ∷ []) []
moves_to e i m parts nu he pp pn = by_test (is_move e i m parts nu) refl
  where
    by_test : (b : Bool) → is_move e i m parts nu ≡ b →
        filter (is nu) (moves e i m parts) ≡ cond b ((nu, exponent e i parts nu) ∷ []) []
    by_test true mv =
        (whole_list e i he parts pp m).once nu
        (record { partition = pn; move = move_facts e i m parts nu mv; earlier = λ s lo hi. absurd (omega arith) })
    by_test false other =
        none_is nu (moves e i m parts)
        (all_weaken (IsMoveOf e i m parts) (λ t. t.0 ≢ nu) (moves e i m parts)
        (λ t g same. true≢false (sym g.is_one ∙ ap (is_move e i m parts) same ∙ other))
        (all_moves e i m parts he pp))
