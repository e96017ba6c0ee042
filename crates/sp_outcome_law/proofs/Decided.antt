-- When the outcome is decided: it is too large exactly where something is past the limit once all shares are given, and
-- what is past the limit earlier stays so.
use Rattle.std.proofs.Common.{◌≡◌, ℕ, ◌+◌, ◌*◌, ◌<◌, ◌≤◌, Bool, true, false, cond, ◌||◌, nat_lt, List}
use Rattle.std.proofs.Common.{map, refl, sym, ◌∙◌, ap, ap₂, subst, arith, sum_by, Option, Some, None, ◌⊎◌, inl, inr}
use Rattle.std.proofs.Common.{length, ltb-true, lt-ltb, ltb-false, le-ltb, drop}
use Rattle.std.proofs.Math.Bool.{or-false}
use Rattle.std.specs.List.{list_any}
use Rattle.sp_defs.specs.Partition.{degree, partitions, IsPartitionOf}
use Rattle.sp_defs.specs.Laurent.{Laurent, size}
use Rattle.sp_defs.specs.Power.{greatest}
use Rattle.sp_defs.specs.Ladder.{ladder_vector, ladder_weight, steps}
use Rattle.sp_defs.specs.Row.{Factors, earlier, regular_row, shares, needed, weight, stray, outcome, Outcome}
use Rattle.sp_defs.specs.Row.{TooLarge}
use Rattle.sp_defs.specs.Row.{Stray, Row}
use Rattle.sp_defs.specs.Statements.{IsLabel}
use Rattle.sp_shapes.proofs.Listing.{each_partition, all_partitions}
use Rattle.sp_ladder_law.proofs.Weights.{partial_whole, within_weight, degree_after_all}
use Rattle.sp_outcome_law.specs.Asking.{is_nonzero, share_at, given, next_rank, total, is_too_large, given_past}
use Rattle.sp_outcome_law.specs.Asking.{total_past, share_past, is_past}
use Rattle.sp_outcome_law.proofs.Exceeding.{past_max, greatest_past}
use Rattle.sp_outcome_law.proofs.Listed.{sum_drop}
use Rattle.sp_outcome_law.proofs.Reached.{Passed, all_passed, given_none, step, next_zero}
use Rattle.sp_outcome_law.proofs.Ranks.{length_shares}
use Rattle.sp_outcome_law.proofs.Left.{sum_nonzero, total_start, total_step}
use Rattle.sp_outcome_law.proofs.Next.{IsNext, is_next}
use Rattle.sp_outcome_law.proofs.Splitting.{needed_split}
use Rattle.std.proofs.lemmas.Bool.{or_cases, or_left, or_right, or_parts}
use Rattle.sp_lists.proofs.Occurrence.{Occurs, at_occurs, occurs_filter, some_passes, passing, from_filter}
use Rattle.sp_lists.proofs.Occurrence.{occurs_drop, none_passes}
use Rattle.sp_lists.proofs.Maps.{any-alike, any-map}

-- ---- too large, by the weights

abbrev made : Option (List ℕ) → Outcome
made None = Row
made (Some lambda) = Stray lambda

-- with a needed weight past the limit the outcome is too large; otherwise the stray partition says it
pub outcome_by : (e limit : ℕ) (mu : List ℕ) →
    outcome e limit mu
    ≡ cond (list_any (λ kappa. nat_lt limit (weight e kappa)) (needed e mu)) TooLarge (made (stray e mu))
unfolding outcome
outcome_by e limit mu = refl

made_fits : (o : Option (List ℕ)) → is_too_large (made o) ≡ false
made_fits None = refl
made_fits (Some lambda) = refl

-- the outcome that is no vector is too large
pub large_outcome : (o : Outcome) → o ≡ TooLarge → is_too_large o ≡ true
large_outcome o h = ap is_too_large h

-- by the weights
pub too_large_by : (e limit : ℕ) (mu : List ℕ) →
    is_too_large (outcome e limit mu) ≡ list_any (λ kappa. nat_lt limit (weight e kappa)) (needed e mu)
too_large_by e limit mu =
    ap is_too_large (outcome_by e limit mu)
    ∙ tested (list_any (λ kappa. nat_lt limit (weight e kappa)) (needed e mu)) (made (stray e mu))
    (made_fits (stray e mu))
  where
    tested : (b : Bool) (o : Outcome) → is_too_large o ≡ false → is_too_large (cond b TooLarge o) ≡ b
    tested true o h = refl
    tested false o h = h

-- where it isn't too large there is a row, or a stray partition
pub row_of : (e limit : ℕ) (mu : List ℕ) → is_too_large (outcome e limit mu) ≡ false → stray e mu ≡ None →
    outcome e limit mu ≡ Row
row_of e limit mu h s =
    outcome_by e limit mu
    ∙ ap (λ b. cond b TooLarge (made (stray e mu))) (sym (too_large_by e limit mu) ∙ h)
    ∙ ap made s

-- with a stray partition it is that
pub stray_of : (e limit : ℕ) (mu lambda : List ℕ) → is_too_large (outcome e limit mu) ≡ false →
    stray e mu ≡ Some lambda → outcome e limit mu ≡ Stray lambda
stray_of e limit mu lambda h s =
    outcome_by e limit mu
    ∙ ap (λ b. cond b TooLarge (made (stray e mu))) (sym (too_large_by e limit mu) ∙ h)
    ∙ ap made s

-- where it is, the outcome is no other
pub too_large_of : (e limit : ℕ) (mu : List ℕ) → is_too_large (outcome e limit mu) ≡ true →
    outcome e limit mu ≡ TooLarge
too_large_of e limit mu h =
    outcome_by e limit mu
    ∙ ap (λ b. cond b TooLarge (made (stray e mu))) (sym (too_large_by e limit mu) ∙ h)

-- ---- a weight is past the limit where the ladder vector's is, or the sizes at some partition

-- all that is added up at a partition
all_sizes : (e : ℕ) (mu lambda : List ℕ) →
    size (ladder_vector e mu lambda) + sum_by (λ a. size a.1 * size (regular_row e a.0 lambda)) (shares e mu)
    ≡ total e mu 0 lambda
unfolding total given
all_sizes e mu lambda =
    ap (λ n. size (ladder_vector e mu lambda) + n)
    (sym (sum_nonzero (λ nu. size (regular_row e nu lambda)) (shares e mu)))

-- by the greatest total
pub total_past_by : (e limit : ℕ) (mu : List ℕ) (t : ℕ) →
    total_past e limit mu t ≡ nat_lt limit (greatest (map (total e mu t) (partitions (degree mu))))
unfolding total_past
total_past_by e limit mu t = sym
    (greatest_past limit (map (total e mu t) (partitions (degree mu)))
    ∙ any-map (nat_lt limit) (total e mu t) (partitions (degree mu)))

weight_past : (e limit : ℕ) (mu : List ℕ) →
    nat_lt limit (weight e mu) ≡ (nat_lt limit (ladder_weight e mu) || total_past e limit mu 0)
unfolding weight total_past
weight_past e limit mu =
    past_max limit (ladder_weight e mu) (greatest (map sizes (partitions (degree mu))))
    ∙ ap (λ b. nat_lt limit (ladder_weight e mu) || b)
    (greatest_past limit (map sizes (partitions (degree mu)))
    ∙ any-map (nat_lt limit) sizes (partitions (degree mu))
    ∙ any-alike (λ lambda. nat_lt limit (sizes lambda)) (λ lambda. nat_lt limit (total e mu 0 lambda))
    (partitions (degree mu)) (λ lambda. ap (nat_lt limit) (all_sizes e mu lambda)))
  where
    sizes : List ℕ → ℕ
    sizes lambda =
        size (ladder_vector e mu lambda) + sum_by (λ a. size a.1 * size (regular_row e a.0 lambda)) (shares e mu)

-- ---- so the outcome is too large exactly where something is past the limit once all shares are given

-- the three reasons are the same for ranks without shares between them
pub past_same : (e limit : ℕ) (mu : List ℕ) (i t : ℕ) → Passed e mu i t → is_past e limit mu i ≡ is_past e limit mu t
unfolding is_past given_past total_past total
past_same e limit mu i t h = ap₂ past h.same_given (sym h.same_next)
  where
    past : Factors → Option ℕ → Bool
    past fs o =
        nat_lt limit (ladder_weight e mu) ||
        (list_any (λ a. is_too_large (outcome e limit a.0)) fs ||
        (list_any
        (λ lambda. nat_lt limit
        (size (ladder_vector e mu lambda) + sum_by (λ a. size a.1 * size (regular_row e a.0 lambda)) fs))
        (partitions (degree mu)) || share_past e limit mu o))

outcome_past : (e limit : ℕ) (mu : List ℕ) → is_too_large (outcome e limit mu) ≡ is_past e limit mu 0
unfolding is_past given_past share_past
outcome_past e limit mu =
    too_large_by e limit mu
    ∙ needed_split e (λ kappa. nat_lt limit (weight e kappa)) mu
    ∙ ap₂ (λ a b. a || b) (weight_past e limit mu)
    (any-alike (λ a. list_any (λ kappa. nat_lt limit (weight e kappa)) (needed e a.0))
    (λ a. is_too_large (outcome e limit a.0)) (given e mu 0) (λ a. sym (too_large_by e limit a.0)))
    ∙ regrouped (nat_lt limit (ladder_weight e mu)) (total_past e limit mu 0)
    (list_any (λ a. is_too_large (outcome e limit a.0)) (given e mu 0))
    ∙ ap
    (λ o. nat_lt limit (ladder_weight e mu) ||
    (list_any (λ a. is_too_large (outcome e limit a.0)) (given e mu 0) ||
    (total_past e limit mu 0 || share_past e limit mu o))) (sym (next_zero e mu))
  where
    regrouped : (a b c : Bool) → ((a || b) || c) ≡ (a || (c || (b || false)))
    regrouped true b c = refl
    regrouped false true true = refl
    regrouped false true false = refl
    regrouped false false true = refl
    regrouped false false false = refl

-- at the end the outcome is too large exactly where something is past the limit
pub decided_end : (e limit : ℕ) (mu : List ℕ) (t : ℕ) → next_rank e mu t ≡ None →
    is_too_large (outcome e limit mu) ≡ is_past e limit mu t
decided_end e limit mu t h = outcome_past e limit mu ∙ past_same e limit mu 0 t (all_passed e mu t h)

-- ---- what is past the limit earlier stays so

total_grows : (e : ℕ) (mu : List ℕ) (t : ℕ) (lambda : List ℕ) → total e mu t lambda ≤ total e mu 0 lambda
unfolding total given
total_grows e mu t lambda =
    omega (arith, sum_drop is_nonzero (λ a. size a.1 * size (regular_row e a.0 lambda)) t (shares e mu))

given_grows : (e : ℕ) (mu : List ℕ) (t : ℕ) (a : List ℕ × Laurent) → Occurs a (given e mu t) → Occurs a (given e mu 0)
unfolding given
given_grows e mu t a o =
    let f = from_filter is_nonzero a (drop t (shares e mu)) o in
    occurs_filter is_nonzero a (shares e mu) f.1 (occurs_drop a t (shares e mu) f.0)

module _ (e limit : ℕ) (mu : List ℕ) (is : IsLabel e mu) where
  given_stays : (t : ℕ) → given_past e limit mu t ≡ true → given_past e limit mu 0 ≡ true
  unfolding given_past
  given_stays t h = found (passing (λ a. is_too_large (outcome e limit a.0)) (given e mu t) h)
    where
      found : (a : List ℕ × Laurent) × Occurs a (given e mu t) × (is_too_large (outcome e limit a.0) ≡ true) →
          list_any (λ a. is_too_large (outcome e limit a.0)) (given e mu 0) ≡ true
      found (a, o, s) =
          some_passes (λ a. is_too_large (outcome e limit a.0)) a (given e mu 0) (given_grows e mu t a o) s

  -- sizes past the limit at one partition
  past_at : (lambda : List ℕ) → Occurs lambda (partitions (degree mu)) → limit < total e mu 0 lambda →
      total_past e limit mu 0 ≡ true
  unfolding total_past
  past_at lambda o h = some_passes (λ lambda. nat_lt limit (total e mu 0 lambda)) lambda (partitions (degree mu)) o
      (lt-ltb limit (total e mu 0 lambda) h)

  total_stays : (t : ℕ) → total_past e limit mu t ≡ true → total_past e limit mu 0 ≡ true
  unfolding total_past
  total_stays t h = found (passing (λ lambda. nat_lt limit (total e mu t lambda)) (partitions (degree mu)) h)
    where
      found : (lambda : List ℕ) × Occurs lambda (partitions (degree mu)) × (nat_lt limit (total e mu t lambda) ≡ true) →
          total_past e limit mu 0 ≡ true
      found (lambda, o, s) =
          past_at lambda o
          (omega (arith, ltb-true limit (total e mu t lambda) s, total_grows e mu t lambda))

  -- a large share is added up at its own partition
  share_stays : (t : ℕ) (next : Option ℕ) → next_rank e mu t ≡ next → share_past e limit mu next ≡ true →
      total_past e limit mu 0 ≡ true
  unfolding share_past
  share_stays t None n h = absurd (cc)
  share_stays t (Some j) n h =
      past_at nu (each_partition (degree mu) nu x.regular.partition x.regular.total)
      (omega (arith, ltb-true limit (size (share_at e mu j).1) h, total_step e mu t j n nu, own, total_grows e mu j nu))
    where
      x : IsNext e mu t j
      x = is_next e mu is t j n

      nu : List ℕ
      nu = (share_at e mu j).0

      once : (m k : ℕ) → k ≡ 1 → m * k ≡ m
      once m k h = ap (λ k. m * k) h ∙ plain m
        where
          plain : (m : ℕ) → m * 1 ≡ m
          plain m = omega arith

      own : size (share_at e mu j).1 * size (regular_row e nu nu) ≡ size (share_at e mu j).1
      own = once (size (share_at e mu j).1) (size (regular_row e nu nu)) (ap (λ p. size p) x.at_itself)

  -- past the limit, the outcome is too large
  pub decided : (t : ℕ) → is_past e limit mu t ≡ true → is_too_large (outcome e limit mu) ≡ true
  unfolding is_past
  decided t h = outcome_past e limit mu ∙ by_reason (or_cases ladder (given_past e limit mu t || others t) h)
    where
      ladder : Bool
      ladder = nat_lt limit (ladder_weight e mu)

      others : ℕ → Bool
      others s = total_past e limit mu s || share_past e limit mu (next_rank e mu s)

      by_total : total_past e limit mu 0 ≡ true → (ladder || (given_past e limit mu 0 || others 0)) ≡ true
      by_total w = or_right ladder (given_past e limit mu 0 || others 0)
          (or_right (given_past e limit mu 0) (others 0)
          (or_left (total_past e limit mu 0) (share_past e limit mu (next_rank e mu 0)) w))

      by_others : (total_past e limit mu t ≡ true) ⊎ (share_past e limit mu (next_rank e mu t) ≡ true) →
          (ladder || (given_past e limit mu 0 || others 0)) ≡ true
      by_others (inl w) = by_total (total_stays t w)
      by_others (inr w) = by_total (share_stays t (next_rank e mu t) refl w)

      by_given : (given_past e limit mu t ≡ true) ⊎ (others t ≡ true) →
          (ladder || (given_past e limit mu 0 || others 0)) ≡ true
      by_given (inl w) = or_right ladder (given_past e limit mu 0 || others 0)
          (or_left (given_past e limit mu 0) (others 0) (given_stays t w))
      by_given (inr w) =
          by_others (or_cases (total_past e limit mu t) (share_past e limit mu (next_rank e mu t)) w)

      by_reason : (ladder ≡ true) ⊎ ((given_past e limit mu t || others t) ≡ true) →
          (ladder || (given_past e limit mu 0 || others 0)) ≡ true
      by_reason (inl w) = or_left ladder (given_past e limit mu 0 || others 0) w
      by_reason (inr w) = by_given (or_cases (given_past e limit mu t) (others t) w)

  -- ---- from rank to rank

  -- with the next row given, the new reasons are that its outcome is too large, a total, or the share after it
  pub past_step : (t j : ℕ) → is_past e limit mu t ≡ false → next_rank e mu t ≡ Some j →
      is_past e limit mu j
      ≡ (is_too_large (outcome e limit (share_at e mu j).0) ||
      (total_past e limit mu j || share_past e limit mu (next_rank e mu j)))
  unfolding is_past given_past
  past_step t j h n =
      ap (λ fs. ladder || (list_any test fs || others)) (step e mu t j n).more
      ∙ kept ladder (test (share_at e mu j)) (list_any test (given e mu t)) others (or_parts ladder _ h).0
      (or_parts (list_any test (given e mu t)) _ (or_parts ladder _ h).1).0
    where
      ladder : Bool
      ladder = nat_lt limit (ladder_weight e mu)

      test : List ℕ × Laurent → Bool
      test a = is_too_large (outcome e limit a.0)

      others : Bool
      others = total_past e limit mu j || share_past e limit mu (next_rank e mu j)

      kept : (a b c d : Bool) → a ≡ false → c ≡ false → (a || ((b || c) || d)) ≡ (b || d)
      kept a b c d x y = ap₂ (λ u w. u || ((b || w) || d)) x y ∙ ap (λ u. u || d) (or-false b)

  -- and at the start they are the ladder vector's weight and the first share
  pub past_start : (t : ℕ) → length (earlier e mu) ≤ t →
      is_past e limit mu t ≡ (nat_lt limit (ladder_weight e mu) || share_past e limit mu (next_rank e mu t))
  unfolding is_past given_past total_past
  past_start t h =
      ap (λ fs. ladder || (list_any test fs || (totals || share)))
      (given_none e mu t (omega (arith, h, length_shares e mu)))
      ∙ covered ladder totals share within
    where
      ladder : Bool
      ladder = nat_lt limit (ladder_weight e mu)

      test : List ℕ × Laurent → Bool
      test a = is_too_large (outcome e limit a.0)

      totals : Bool
      totals = list_any (λ lambda. nat_lt limit (total e mu t lambda)) (partitions (degree mu))

      share : Bool
      share = share_past e limit mu (next_rank e mu t)

      ladder_size : (lambda : List ℕ) → Occurs lambda (partitions (degree mu)) → ladder_weight e mu ≤ limit →
          size (ladder_vector e mu lambda) ≤ limit
      ladder_size lambda o w =
          subst (λ p. size p ≤ limit) (partial_whole e mu lambda)
          ((within_weight limit e mu is w).sizes (length (steps e mu)) (omega arith) lambda
          (subst (λ n. IsPartitionOf n lambda) (sym (degree_after_all e mu is))
          (at_occurs (IsPartitionOf (degree mu)) lambda (partitions (degree mu)) o (all_partitions (degree mu)))))

      within : ladder ≡ false → totals ≡ false
      within w = none_passes (λ lambda. nat_lt limit (total e mu t lambda)) (partitions (degree mu))
          (λ lambda o. ap (nat_lt limit) (total_start e mu t h lambda)
          ∙ le-ltb limit (size (ladder_vector e mu lambda))
          (ladder_size lambda o (ltb-false limit (ladder_weight e mu) w)))

      covered : (a b c : Bool) → (a ≡ false → b ≡ false) → (a || (b || c)) ≡ (a || c)
      covered true b c f = refl
      covered false b c f = ap (λ b. b || c) (f refl)
