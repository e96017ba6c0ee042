-- What a builder keeps: the tally, and the shares so far, at the start and from rank to rank.
use Rattle.std.proofs.Common.{◌≡◌, ℕ, ◌+◌, ◌*◌, ◌<◌, ◌≤◌, true, false, ◌||◌, List}
use Rattle.std.proofs.Common.{[], ◌∷◌, ◌++◌, map, length}
use Rattle.std.proofs.Common.{reverse, sym, ◌∙◌, ap, ap₂, arith, Some, nat_lt, lt-ltb, le-ltb, ℤ}
use Rattle.std.proofs.Common.{inl, inr, subst}
use Rattle.std.proofs.lemmas.Int.{ints}
use Rattle.std.proofs.Math.Bool.{or-true}
use Rattle.std.proofs.lemmas.Bool.{or_parts}
use Rattle.std.proofs.lemmas.List.{reverse-append}
use Rattle.sp_defs.specs.Partition.{degree, partitions, IsPartitionOf}
use Rattle.sp_defs.specs.Laurent.{Laurent, coefficient, plus, negate, times, size}
use Rattle.sp_defs.specs.Power.{FockVector, fock_vector, entries, vector_of, greatest}
use Rattle.sp_defs.specs.Ladder.{ladder_vector, ladder_weight}
use Rattle.sp_defs.specs.Row.{earlier, regular_row, outcome}
use Rattle.sp_algebra.proofs.Laws.{coefficient-plus, coefficient-negate, IsLaurent-negate, IsLaurent-times, plus_negate}
use Rattle.sp_algebra.proofs.Laws.{plus_times, nought_times}
use Rattle.sp_algebra.proofs.Coefficients.{same_laurent}
use Rattle.sp_lists.proofs.Elements.{le_or_lt}
use Rattle.sp_lists.proofs.Maps.{map-alike}
use Rattle.sp_lists.proofs.Greatest.{within_greatest, within_map}
use Rattle.sp_lists.proofs.Occurrence.{at_occurs}
use Rattle.sp_shapes.proofs.Listing.{all_partitions, each_partition}
use Rattle.sp_shapes.proofs.Order.{all_mono}
use Rattle.sp_fock_law.specs.Tally.{TallyValue, tally_of, subtracted, subtraction_weight, grown_total}
use Rattle.sp_fock_law.specs.Tally.{total_of}
use Rattle.sp_fock_law.proofs.Vectors.{entries-alike, vector_of-entries}
use Rattle.sp_fock_law.proofs.Totals.{total_of-totals}
use Rattle.sp_outcome_law.specs.Asking.{share_at, given, next_rank, left, total, is_past}
use Rattle.sp_outcome_law.specs.Asking.{total_past, given_past, share_past, is_too_large}
use Rattle.sp_outcome_law.proofs.Reached.{given_none, step}
use Rattle.sp_outcome_law.proofs.Left.{left_start, total_start, left_step, total_step}
use Rattle.sp_outcome_law.proofs.Ranks.{length_shares}
use Rattle.sp_outcome_law.proofs.Decided.{past_start, past_step, total_past_by}
use Rattle.sp_slots.proofs.Reading.{totals-alike}
use Rattle.sp_core.specs.declared.piece.Key.{Key}
use Rattle.sp_llt.specs.declared.share.Share.{Share}
use Rattle.sp_llt.specs.Place.{IsPlace, place, label}
use Rattle.sp_llt.specs.Shares.{given_shares, ranked_share}
use Rattle.sp_llt.specs.Reached.{ladder_tally, tally_at, IsWithin}
use Rattle.sp_llt.proofs.Positive.{nothing}
use Rattle.sp_llt.proofs.Labels.{LabelFacts, label_facts}

-- ---- a negative factor

-- the product with a negated factor is negated
pub negate_times : (a b : Laurent) → times (negate a) b ≡ negate (times a b)
negate_times a b = same_laurent (times (negate a) b) (negate (times a b)) (IsLaurent-times (negate a) b)
    (IsLaurent-negate (times a b)) by_power
  where
    none : plus (times a b) (times (negate a) b) ≡ []
    none = sym (plus_times a (negate a) b) ∙ ap (λ q. times q b) (plus_negate a) ∙ nought_times b

    by_power : (j : ℤ) → coefficient (times (negate a) b) j ≡ coefficient (negate (times a b)) j
    by_power j = omega (
      arith,
      ints,
      ap (λ q. coefficient q j) none,
      nothing j,
      coefficient-plus (times a b) (times (negate a) b) j,
      coefficient-negate (times a b) j,
    )

-- ---- numbers at the partitions of n

numbers_alike : (n : ℕ) (f g : List ℕ → ℕ) → ((lambda : List ℕ) → IsPartitionOf n lambda → f lambda ≡ g lambda) →
    map f (partitions n) ≡ map g (partitions n)
numbers_alike n f g h =
    map-alike f g (partitions n) (all_mono (IsPartitionOf n) (λ x. f x ≡ g x) (partitions n) h (all_partitions n))

abbrev tally_value : FockVector → List (List ℕ × ℕ) → TallyValue
tally_value v ts = record { vector = v; totals = ts }

module _ (key : Key) (rank : ℕ) (p : IsPlace (place key rank)) where
  abbrev e : ℕ
  e = key.e

  abbrev n : ℕ
  n = key.degree

  abbrev mu : List ℕ
  mu = label key rank

  f : LabelFacts key rank
  f = label_facts key rank p

  start : length (earlier e mu) ≤ rank
  start = omega (arith, f.count)

  -- ---- at the start

  -- the ladder vector's tally is that of mu's own rank
  pub tally_start : ladder_tally e mu ≡ tally_at key mu rank
  tally_start =
      ap (λ d. tally_of (fock_vector d (ladder_vector e mu))) f.total
      ∙ ap₂ (λ es ts. tally_value (record { degree = n; entries = es }) ts)
      (entries-alike n (ladder_vector e mu) (left e mu rank) (λ lambda h. sym (left_start e mu rank start lambda)))
      (totals-alike n (λ lambda. size (vector_of (entries n (ladder_vector e mu)) lambda)) (total e mu rank)
      (λ lambda h.
      ap (λ q. size q) (vector_of-entries n (ladder_vector e mu) lambda h)
      ∙ sym (total_start e mu rank start lambda)))

  -- no share is given at the start
  pub shares_start : [] ≡ given_shares e mu rank
  unfolding given_shares
  shares_start =
      sym (ap (λ fs. reverse (map (ranked_share e) fs)) (given_none e mu rank (omega (
        arith,
        start,
        length_shares e mu,
      ))))

  -- nothing is past the limit at the start, where the ladder weight is within it
  pub within_start : ladder_weight e mu ≤ key.limit → IsWithin key mu rank
  within_start le =
      past_start e key.limit mu f.is_label rank start
      ∙ ap (λ b. b || share_past e key.limit mu (next_rank e mu rank)) (le-ltb key.limit (ladder_weight e mu) le)

  -- and the rank is past the limit where the ladder weight is
  pub past_at_start : key.limit < ladder_weight e mu → is_past e key.limit mu rank ≡ true
  past_at_start lt =
      past_start e key.limit mu f.is_label rank start
      ∙ ap (λ b. b || share_past e key.limit mu (next_rank e mu rank)) (lt-ltb key.limit (ladder_weight e mu) lt)

  -- ---- where nothing is past the limit

  -- no total is, so the tally has none past it
  pub totals_within : (t : ℕ) → is_past e key.limit mu t ≡ false → (lambda : List ℕ) →
      IsPartitionOf (tally_at key mu t).vector.degree lambda →
      total_of (tally_at key mu t).totals lambda ≤ key.limit
  unfolding is_past
  totals_within t h lambda k =
      subst (λ m. m ≤ key.limit) (sym (total_of-totals n (total e mu t) lambda k))
      (at_occurs (λ x. total e mu t x ≤ key.limit) lambda (partitions n) (each_partition n lambda k.partition k.total)
      (within_map (total e mu t) key.limit (partitions n)
      (within_greatest key.limit (map (total e mu t) (partitions n)) small)))
    where
      none : total_past e key.limit mu t ≡ false
      none =
          (or_parts (total_past e key.limit mu t) (share_past e key.limit mu (next_rank e mu t))
          (or_parts (given_past e key.limit mu t) _ (or_parts (nat_lt key.limit (ladder_weight e mu)) _ h).1).1).0

      greatest_total : ℕ
      greatest_total = greatest (map (total e mu t) (partitions n))

      small : greatest_total ≤ key.limit
      small = elim (le_or_lt greatest_total key.limit) [
        | inl le ↦ le
        | inr lt ↦ absurd
            (let w : false ≡ true =
            sym none ∙ total_past_by e key.limit mu t
            ∙ ap (λ d. nat_lt key.limit (greatest (map (total e mu t) (partitions d)))) f.total
            ∙ lt-ltb key.limit greatest_total lt in cc)
      ]

  -- ---- from rank to rank

  module _ (t j : ℕ) (alpha : Laurent) (nu : List ℕ) (next : next_rank e mu t ≡ Some j)
      (is : share_at e mu j ≡ (nu, alpha)) where
    abbrev row : FockVector
    row = fock_vector n (regular_row e nu)

    grown : (lambda : List ℕ) → IsPartitionOf n lambda → grown_total (tally_at key mu t) alpha row lambda ≡
        total e mu j lambda
    grown lambda h =
        ap₂ (λ x q. x + size alpha * size q) (total_of-totals n (total e mu t) lambda h)
        (vector_of-entries n (regular_row e nu) lambda h)
        ∙ sym
        (total_step e mu t j next lambda
        ∙ ap (λ a. total e mu t lambda + size a.1 * size (regular_row e a.0 lambda)) is)

    rest : (lambda : List ℕ) → IsPartitionOf n lambda →
        plus (vector_of (entries n (left e mu t)) lambda)
        (times (negate alpha) (vector_of (entries n (regular_row e nu)) lambda))
        ≡ left e mu j lambda
    rest lambda h =
        ap₂ (λ x y. plus x (times (negate alpha) y)) (vector_of-entries n (left e mu t) lambda h)
        (vector_of-entries n (regular_row e nu) lambda h)
        ∙ ap (plus (left e mu t lambda)) (negate_times alpha (regular_row e nu lambda))
        ∙ sym
        (left_step e mu t j next lambda
        ∙ ap (λ a. plus (left e mu t lambda) (negate (times a.1 (regular_row e a.0 lambda)))) is)

    -- the tally after the next row is taken off
    pub tally_step : subtracted (tally_at key mu t) alpha row ≡ tally_at key mu j
    tally_step =
        ap₂ (λ es ts. tally_value (record { degree = n; entries = es }) ts)
        (entries-alike n
        (λ lambda.
        plus (vector_of (entries n (left e mu t)) lambda)
        (times (negate alpha) (vector_of (entries n (regular_row e nu)) lambda)))
        (left e mu j) rest)
        (totals-alike n (grown_total (tally_at key mu t) alpha row) (total e mu j) grown)

    -- the greatest total decides
    weight_step : total_past e key.limit mu j ≡ nat_lt key.limit (subtraction_weight (tally_at key mu t) alpha row)
    weight_step =
        total_past_by e key.limit mu j
        ∙ ap (λ d. nat_lt key.limit (greatest (map (total e mu j) (partitions d)))) f.total
        ∙ ap (λ xs. nat_lt key.limit (greatest xs))
        (sym (numbers_alike n (grown_total (tally_at key mu t) alpha row) (total e mu j) grown))

    reasons : is_past e key.limit mu t ≡ false →
        is_past e key.limit mu j
        ≡ (is_too_large (outcome e key.limit nu)
        || (total_past e key.limit mu j || share_past e key.limit mu (next_rank e mu j)))
    reasons h =
        past_step e key.limit mu f.is_label t j h next
        ∙ ap
        (λ a.
        is_too_large (outcome e key.limit a.0)
        || (total_past e key.limit mu j || share_past e key.limit mu (next_rank e mu j))) is

    -- the rank is past the limit where the next row is too large
    pub past_row : is_past e key.limit mu t ≡ false → is_too_large (outcome e key.limit nu) ≡ true →
        is_past e key.limit mu j ≡ true
    past_row h large =
        reasons h
        ∙ ap (λ b. b || (total_past e key.limit mu j || share_past e key.limit mu (next_rank e mu j))) large

    -- or where a total gets too large
    pub past_totals : is_past e key.limit mu t ≡ false →
        key.limit < subtraction_weight (tally_at key mu t) alpha row → is_past e key.limit mu j ≡ true
    past_totals h large =
        reasons h
        ∙ ap (λ b. is_too_large (outcome e key.limit nu) || (b || share_past e key.limit mu (next_rank e mu j)))
        (weight_step ∙ lt-ltb key.limit (subtraction_weight (tally_at key mu t) alpha row) large)
        ∙ or-true (is_too_large (outcome e key.limit nu))

    -- and within it where neither is so
    pub within_step : is_past e key.limit mu t ≡ false → is_too_large (outcome e key.limit nu) ≡ false →
        subtraction_weight (tally_at key mu t) alpha row ≤ key.limit → IsWithin key mu j
    within_step h fits small =
        reasons h
        ∙ ap₂ (λ a b. a || (b || share_past e key.limit mu (next_rank e mu j))) fits
        (weight_step ∙ le-ltb key.limit (subtraction_weight (tally_at key mu t) alpha row) small)

    -- the shares given then are those before and the next one
    pub shares_step : length (earlier e nu) ≡ j →
        given_shares e mu t ++ (record { rank = j; alpha = alpha } ∷ []) ≡ given_shares e mu j
    unfolding given_shares
    shares_step count = sym
        (ap (λ fs. reverse (map (ranked_share e) fs)) (step e mu t j next).more
        ∙ reverse-append (ranked_share e (share_at e mu j) ∷ []) (map (ranked_share e) (given e mu t))
        ∙ ap (λ s. reverse (map (ranked_share e) (given e mu t)) ++ (s ∷ []))
        (ap (ranked_share e) is ∙ ap (λ k. share k alpha) count))
      where
        share : ℕ → Laurent → Share
        share k a = record { rank = k; alpha = a }
