-- The share at a rank is the lift of what is left at its partition, once the later shares have been given. So a search
-- downwards for the first lift that isn't 0 finds the next rank.
use Rattle.std.proofs.Common.{◌≡◌, ◌≢◌, ℕ, zero, suc, ◌<◌, ◌≤◌, Bool, true, false, cond, nat_lt, List, [], ◌∷◌, ◌++◌}
use Rattle.std.proofs.Common.{length, get_or, drop, refl, sym, ◌∙◌, ap, ap₂, subst, arith, Some, None, filter}
use Rattle.std.proofs.Common.{reverse, Less}
use Rattle.std.specs.List.{AllByRecursion, find, range_with_len}
use Rattle.sp_defs.specs.Partition.{degree, regulars, compare, Ascending}
use Rattle.sp_defs.specs.Laurent.{Laurent, plus, negate, lift}
use Rattle.sp_defs.specs.Power.{Vector}
use Rattle.sp_defs.specs.Ladder.{ladder_vector}
use Rattle.sp_defs.specs.Row.{combination, earlier, regular_row, shares, shares_over}
use Rattle.sp_defs.specs.Statements.{IsLabel}
use Rattle.sp_lists.proofs.Elements.{all_every, all_both, all_left, all_right}
use Rattle.sp_triangle.proofs.Shares.{rows, keys-shares, from_keys}
use Rattle.sp_triangle.proofs.NextShare.{share_of, next_share}
use Rattle.sp_row_law.proofs.Setting.{Good, IsBefore, good, good_earlier, earlier_before, earlier_ascends, triangle}
use Rattle.sp_row_law.proofs.Setting.{rows_same, IsLaurent-ladder_vector}
use Rattle.sp_outcome_law.specs.Asking.{is_nonzero, share_at, given, next_rank, left}
use Rattle.sp_outcome_law.proofs.Listed.{IsPlace, place_of}
use Rattle.sp_outcome_law.proofs.Downwards.{find_down, find_down_none, find_down_some, none_below}
use Rattle.sp_outcome_law.proofs.Listed.{no_element, has_element}
use Rattle.sp_outcome_law.proofs.Reached.{next_at, next_zero, Passed, passed_more, passed_start, step}
use Rattle.sp_outcome_law.proofs.Ranks.{earlier_at}
use Rattle.sp_outcome_law.proofs.Left.{combination_nonzero, left_same}

-- ---- an ascending list in two parts

ascending_right : (xs ys : List (List ℕ)) → Ascending (xs ++ ys) → Ascending ys
ascending_right [] ys up = up
ascending_right (x ∷ xs) ys (u, us) = ascending_right xs ys us

all_lower : (xs ys : List (List ℕ)) → Ascending (xs ++ ys) →
    AllByRecursion (λ y. AllByRecursion (λ x. compare x y ≡ Less) xs) ys
all_lower [] ys up = all_every (λ y. AllByRecursion (λ x. compare x y ≡ Less) []) ys (λ y. tt)
all_lower (x ∷ xs) ys (u, us) =
    all_both (λ y. compare x y ≡ Less) (λ y. AllByRecursion (λ x. compare x y ≡ Less) xs) ys
    (all_right (λ y. compare x y ≡ Less) xs ys u) (all_lower xs ys us)

-- ---- the shares over a list in two parts

shares_from : (A : List ℕ → Vector) (mu : List ℕ) (lower later : List (List ℕ)) →
    drop (length lower) (shares_over A mu (lower ++ later)) ≡ shares_over A mu later
unfolding shares_over
shares_from A mu [] later = refl
shares_from A mu (x ∷ lower) later = shares_from A mu lower later

shares_past : (A : List ℕ → Vector) (mu nu : List ℕ) (lower later : List (List ℕ)) →
    drop (suc (length lower)) (shares_over A mu (lower ++ (nu ∷ later))) ≡ shares_over A mu later
unfolding shares_over
shares_past A mu nu [] later = refl
shares_past A mu nu (x ∷ lower) later = shares_past A mu nu lower later

share_here : (A : List ℕ → Vector) (mu nu : List ℕ) (lower later : List (List ℕ)) (d : List ℕ × Laurent) →
    get_or (shares_over A mu (lower ++ (nu ∷ later))) (length lower) d ≡ (nu, share_of A mu nu later)
unfolding shares_over
share_here A mu nu [] later d = refl
share_here A mu nu (x ∷ lower) later d = share_here A mu nu lower later d

-- ---- at one rank

module _ (e : ℕ) (mu : List ℕ) (is : IsLabel e mu) where
  abbrev A : List ℕ → Vector
  A = ladder_vector e

  -- where the earlier partitions are cut at nu
  module _ (nu : List ℕ) (lower later : List (List ℕ)) (cut_at : earlier e mu ≡ lower ++ (nu ∷ later)) where
    abbrev i : ℕ
    i = length lower

    at_cut : share_at e mu i ≡ (nu, share_of A mu nu later)
    unfolding share_at shares
    at_cut = ap (λ s. get_or (shares_over A mu s) i ([], [])) cut_at ∙ share_here A mu nu lower later ([], [])

    given_later : given e mu (suc i) ≡ filter is_nonzero (shares_over A mu later)
    unfolding given shares
    given_later =
        ap (λ s. filter is_nonzero (drop (suc i) (shares_over A mu s))) cut_at
        ∙ ap (filter is_nonzero) (shares_past A mu nu lower later)

    two : Ascending (lower ++ (nu ∷ later))
    two = subst Ascending cut_at (earlier_ascends e mu)

    good_two : AllByRecursion (Good e mu) (lower ++ (nu ∷ later))
    good_two = subst (AllByRecursion (Good e mu)) cut_at (good_earlier e mu)

    before_later : AllByRecursion (λ f. IsBefore e mu f.0) (shares_over A mu later)
    before_later = from_keys (IsBefore e mu) (shares_over A mu later)
        (subst (AllByRecursion (IsBefore e mu)) (sym (keys-shares A mu later))
        (all_right (IsBefore e mu) lower (nu ∷ later)
        (subst (AllByRecursion (IsBefore e mu)) cut_at (earlier_before e mu))).1)

    left_at_cut :
        left e mu (suc i) nu
        ≡ plus (A mu nu) (negate (combination (rows A (lower ++ (nu ∷ later))) (shares_over A mu later) nu))
    unfolding left
    left_at_cut =
        ap (λ fs. plus (A mu nu) (negate (combination (regular_row e) fs nu))) given_later
        ∙ ap (λ p. plus (A mu nu) (negate p))
        (combination_nonzero (regular_row e) (shares_over A mu later) nu
        ∙ sym (rows_same e mu (shares_over A mu later) nu before_later)
        ∙ ap (λ s. combination (rows A s) (shares_over A mu later) nu) cut_at)

    lift_at_cut : share_of A mu nu later ≡ lift (left e mu (suc i) nu)
    lift_at_cut =
        next_share (Good e mu) A (triangle e mu is) (IsLaurent-ladder_vector e) mu nu lower later (good e mu is)
        (all_left (Good e mu) lower (nu ∷ later) good_two) (all_right (Good e mu) lower (nu ∷ later) good_two)
        (all_lower lower (nu ∷ later) two).0 (all_lower lower (nu ∷ later) two).1
        (ascending_right lower (nu ∷ later) two)
        ∙ ap lift (sym left_at_cut)

  -- the share is the lift of what is left at its partition
  pub share_lift : (i : ℕ) → i < length (earlier e mu) →
      (share_at e mu i).1 ≡ lift (left e mu (suc i) (share_at e mu i).0)
  share_lift i h = from (place_of (earlier e mu) i h)
    where
      from : IsPlace (earlier e mu) i → (share_at e mu i).1 ≡ lift (left e mu (suc i) (share_at e mu i).0)
      from p = subst (λ n. (share_at e mu n).1 ≡ lift (left e mu (suc n) (share_at e mu n).0)) p.place
          (ap (λ a. a.1) (at_cut p.element p.lower p.later p.whole)
          ∙ lift_at_cut p.element p.lower p.later p.whole
          ∙ ap (λ a. lift (left e mu (suc (length p.lower)) a.0)) (sym (at_cut p.element p.lower p.later p.whole)))

  -- ---- the search downwards

  -- the lift of what is left at the partition of the rank i
  abbrev pub lift_at : ℕ → ℕ → List ℕ → Laurent
  lift_at t i d = lift (left e mu t (get_or (regulars e (degree mu)) i d))

  -- after ranks without shares, the share at the next lower one is the lift
  pub share_found : (i t : ℕ) (d : List ℕ) → i < length (earlier e mu) → Passed e mu (suc i) t →
      share_at e mu i ≡ (get_or (regulars e (degree mu)) i d, lift_at t i d)
  share_found i t d h p = ap₂ (λ x y. (x, y)) (sym same) value
    where
      same : get_or (regulars e (degree mu)) i d ≡ (share_at e mu i).0
      same = earlier_at e mu is i d h

      value : (share_at e mu i).1 ≡ lift_at t i d
      value =
          share_lift i h
          ∙ ap lift (left_same e mu (suc i) t p (share_at e mu i).0)
          ∙ ap (λ x. lift (left e mu t x)) (sym same)

  -- so a lift that is 0 is passed
  pub passed_lift : (i t : ℕ) (d : List ℕ) → i < length (earlier e mu) → Passed e mu (suc i) t → lift_at t i d ≡ [] →
      Passed e mu i t
  passed_lift i t d h p z =
      passed_more e mu i t (ap is_nonzero (share_found i t d h p) ∙ ap (λ q. nat_lt 0 (length q)) z ∙ refl) p

  -- and the first that isn't 0 is the next share
  pub next_lift : (i t : ℕ) (d : List ℕ) → i < length (earlier e mu) → Passed e mu (suc i) t → lift_at t i d ≢ [] →
      next_rank e mu t ≡ Some i
  next_lift i t d h p ne =
      p.same_next
      ∙ next_at e mu i
      ∙ ap (λ b. cond b (Some i) (next_rank e mu i))
      (ap is_nonzero (share_found i t d h p) ∙ has_element (lift_at t i d) ne)

  -- in one equation
  pub next_found : (t : ℕ) (d : List ℕ) → t ≤ length (earlier e mu) →
      next_rank e mu t ≡ find (λ i. nat_lt 0 (length (lift_at t i d))) (reverse (range_with_len 0 t))
  next_found t d h = down t h (passed_start e mu t)
    where
      p : ℕ → Bool
      p i = nat_lt 0 (length (lift_at t i d))

      down : (i : ℕ) → i ≤ length (earlier e mu) → Passed e mu i t →
          next_rank e mu i ≡ find p (reverse (range_with_len 0 i))
      down zero le q = next_zero e mu
      down (suc i) le q =
          next_at e mu i
          ∙ tested (down i (omega (arith, le))) (p i) refl
          ∙ sym (find_down p i)
        where
          same : is_nonzero (share_at e mu i) ≡ p i
          same = ap is_nonzero (share_found i t d (omega (arith, le)) q)

          tested : (Passed e mu i t → next_rank e mu i ≡ find p (reverse (range_with_len 0 i))) → (b : Bool) → p i ≡ b →
              cond (is_nonzero (share_at e mu i)) (Some i) (next_rank e mu i)
              ≡ cond (p i) (Some i) (find p (reverse (range_with_len 0 i)))
          tested ih true w =
              ap (λ b. cond b (Some i) (next_rank e mu i)) (same ∙ w)
              ∙ sym (ap (λ b. cond b (Some i) (find p (reverse (range_with_len 0 i)))) w)
          tested ih false w =
              ap (λ b. cond b (Some i) (next_rank e mu i)) (same ∙ w)
              ∙ ih (passed_more e mu i t (same ∙ w) q)
              ∙ sym (ap (λ b. cond b (Some i) (find p (reverse (range_with_len 0 i)))) w)

  -- no rank is next exactly where all lifts below are 0
  pub no_next : (t : ℕ) (d : List ℕ) → t ≤ length (earlier e mu) → ((i : ℕ) → i < t → lift_at t i d ≡ []) →
      next_rank e mu t ≡ None
  no_next t d h f =
      next_found t d h
      ∙ find_down_none (λ i. nat_lt 0 (length (lift_at t i d))) t (λ i lt. ap (λ q. nat_lt 0 (length q)) (f i lt))

  -- where no rank is next, each lift below is 0
  pub no_lift : (t : ℕ) (d : List ℕ) → t ≤ length (earlier e mu) → next_rank e mu t ≡ None → (i : ℕ) → i < t →
      lift_at t i d ≡ []
  no_lift t d h z i lt = no_element (lift_at t i d)
      (none_below (λ i. nat_lt 0 (length (lift_at t i d))) t (sym (next_found t d h) ∙ z) i lt)

  -- the next rank by the lifts alone
  pub next_is : (t j : ℕ) (d : List ℕ) → t ≤ length (earlier e mu) → j < t → lift_at t j d ≢ [] →
      ((i : ℕ) → j < i → i < t → lift_at t i d ≡ []) → next_rank e mu t ≡ Some j
  next_is t j d h lt ne f =
      next_found t d h
      ∙ find_down_some (λ i. nat_lt 0 (length (lift_at t i d))) t j lt (has_element (lift_at t j d) ne)
      (λ i lo hi. ap (λ q. nat_lt 0 (length q)) (f i lo hi))

  -- and the share there
  pub next_share_at : (t j : ℕ) (d : List ℕ) → t ≤ length (earlier e mu) → next_rank e mu t ≡ Some j →
      share_at e mu j ≡ (get_or (regulars e (degree mu)) j d, lift_at t j d)
  next_share_at t j d h n =
      let s = step e mu t j n in
      share_found j t d (omega (arith, h, s.lower)) s.between
