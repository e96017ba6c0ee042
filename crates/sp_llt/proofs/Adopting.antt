-- A listed column, share by share: what is left of the ladder vector, and the weight so far.
use Rattle.std.proofs.Common.{◌≡◌, ◌≢◌, ℕ, ◌+◌, ◌*◌, ◌<◌, ◌≤◌, List, [], ◌∷◌, ◌++◌, map, reverse, length}
use Rattle.std.proofs.Common.{get_or, take, drop, refl, sym, ◌∙◌, ap, ap₂, subst, arith, sum_by, ℤ}
use Rattle.std.proofs.Common.{◌⊎◌, inl, inr}
use Rattle.std.specs.List.{AllByRecursion}
use Rattle.std.proofs.lemmas.Int.{ints}
use Rattle.std.proofs.lemmas.List.{reverse-append, map-append, take-append-drop, take_more}
use Rattle.std.proofs.lemmas.List.Sums.{sum_by-append, sum_by_push}
use Rattle.sp_defs.specs.Partition.{degree, partitions, IsEarlier, Ascending, IsPartitionOf, IsRegularOf}
use Rattle.sp_defs.specs.Laurent.{Laurent, plus, negate, times, size, coefficient, collect, sum_over}
use Rattle.sp_defs.specs.Power.{Vector, FockVector, fock_vector, entries, vector_of, greatest}
use Rattle.sp_defs.specs.Ladder.{ladder_vector, ladder_weight, steps}
use Rattle.sp_defs.specs.Row.{Factors, combination, regular_row}
use Rattle.sp_defs.specs.Within.{PowersWithin, ProductWithin}
use Rattle.sp_lists.proofs.Elements.{all_append, all_map, all_reverse, le_or_lt}
use Rattle.sp_lists.proofs.Places.{all_weaken}
use Rattle.sp_lists.proofs.Greatest.{greatest_within, within_greatest, map_within, within_map}
use Rattle.sp_lists.proofs.Occurrence.{at_occurs}
use Rattle.sp_shapes.proofs.Listing.{all_partitions, each_partition, regulars_ascend}
use Rattle.sp_shapes.proofs.Order.{ascends_at}
use Rattle.sp_algebra.proofs.Laws.{coefficient-plus, coefficient-negate, IsLaurent-plus, plus_nought}
use Rattle.sp_algebra.proofs.Coefficients.{same_laurent}
use Rattle.sp_algebra.proofs.Sizes.{product_within}
use Rattle.sp_fock_law.specs.Tally.{TallyValue, tally_of, subtracted, subtraction_weight, grown_total, total_of}
use Rattle.sp_fock_law.proofs.Vectors.{entries-alike, vector_of-entries}
use Rattle.sp_fock_law.proofs.Totals.{total_of-totals}
use Rattle.sp_triangle.proofs.Triangle.{combination-cons, combination-append}
use Rattle.sp_ladder_law.proofs.Weights.{partial_whole, within_weight, degree_after_all}
use Rattle.sp_row_law.proofs.Setting.{IsBefore, IsLaurent-ladder_vector}
use Rattle.sp_row_bounds.specs.Powers.{row_bound}
use Rattle.sp_row_bounds.proofs.Entries.{row_entries}
use Rattle.sp_row_bounds.proofs.Ranks.{count_law}
use Rattle.sp_slots.proofs.Reading.{totals-alike}
use Rattle.sp_laurent.specs.Held.{power_limit}
use Rattle.sp_column_law.specs.Column.{column_size, column_weight}
use Rattle.sp_column_law.proofs.Unique.{AreShares}
use Rattle.sp_core.specs.declared.piece.Key.{Key}
use Rattle.sp_llt.specs.declared.share.Share.{Share}
use Rattle.sp_llt.specs.Place.{IsPlace, place, label, labels}
use Rattle.sp_llt.specs.Reached.{ladder_tally}
use Rattle.sp_llt.specs.Adopting.{Falling, AreListedShares, factors_at, left_without, tally_without, IsLeft}
use Rattle.sp_llt.specs.Adopting.{listed_powers}
use Rattle.sp_llt.proofs.Labels.{LabelFacts, label_facts, lower_place}
use Rattle.sp_llt.proofs.Tallies.{negate_times}
use Rattle.sp_llt.proofs.Positive.{nothing}

-- no factors add up to 0
no_sum : (A : List ℕ → Vector) (lambda : List ℕ) (j : ℤ) → coefficient (combination A [] lambda) j ≡ coefficient [] j
unfolding combination sum_over
no_sum A lambda j = refl

-- ---- the shares of a listed row

-- one more at the end, later than all others
ascending_more : (xs : List (List ℕ)) (x : List ℕ) → Ascending xs → AllByRecursion (λ y. IsEarlier y x) xs →
    Ascending (xs ++ (x ∷ []))
ascending_more [] x h k = (tt, tt)
ascending_more (y ∷ xs) x (h, hs) (k, ks) =
    (all_append (IsEarlier y) xs (x ∷ []) h (k, tt), ascending_more xs x hs ks)

module _ (key : Key) (k : ℕ) (p : IsPlace (place key k)) where
  abbrev e : ℕ
  e = key.e

  abbrev n : ℕ
  n = key.degree

  abbrev mu : List ℕ
  mu = label key k

  f : LabelFacts key k
  f = label_facts key k p

  -- a lower rank is that of an e-regular partition before mu
  lower_before : (j : ℕ) → j < k → IsBefore e mu (label key j)
  lower_before j lt = (
    subst (λ d. IsRegularOf e d (label key j)) (sym f.total)
        (label_facts key j (lower_place key k j p lt)).regular,
    ascends_at (labels key) (regulars_ascend e n) j k lt p.rank,
  )

  factors_ascend : (shares : List Share) → AllByRecursion (λ s. s.rank < k) shares →
      Falling (map (λ s. s.rank) shares) → Ascending (map (λ a. a.0) (reverse (factors_at key shares)))
  factors_ascend [] lower falls = tt
  factors_ascend (s ∷ shares) (l, lower) (g, falls) =
      subst (λ xs. Ascending (map (λ a. a.0) xs)) (sym (reverse-append (factor s ∷ []) (factors_at key shares)))
      (subst Ascending (sym (map-append (λ a. a.0) (reverse (factors_at key shares)) (factor s ∷ [])))
      (ascending_more (map (λ a. a.0) (reverse (factors_at key shares))) (label key s.rank)
      (factors_ascend shares lower falls)
      (all_map (λ y. IsEarlier y (label key s.rank)) (λ a. a.0) (reverse (factors_at key shares))
      (all_reverse (λ a. IsEarlier a.0 (label key s.rank)) (factors_at key shares)
      (earlier shares lower g)))))
    where
      factor : Share → List ℕ × Laurent
      factor s = (label key s.rank, s.alpha)

      earlier : (ts : List Share) → AllByRecursion (λ t. t.rank < k) ts →
          AllByRecursion (λ j. j < s.rank) (map (λ t. t.rank) ts) →
          AllByRecursion (λ a. IsEarlier a.0 (label key s.rank)) (factors_at key ts)
      earlier [] ls gs = tt
      earlier (t ∷ ts) (_, ls) (lt, gs) =
          (ascends_at (labels key) (regulars_ascend e n) t.rank s.rank lt (omega (arith, p.rank, l)), earlier ts ls gs)

  -- listed shares are known to be shares of a column of mu
  pub known_shares : (shares : List Share) → AreListedShares k shares → AreShares e mu (factors_at key shares)
  known_shares shares h = record {
    before =
        all_map (λ a. IsBefore e mu a.0) (λ (s : Share). (label key s.rank, s.alpha)) shares
        (all_weaken (λ (s : Share). s.rank < k) (λ s. IsBefore e mu (label key s.rank)) shares
        (λ s lt. lower_before s.rank lt) h.lower);
    ascending = factors_ascend shares h.lower h.falling;
    nonzero = all_map (λ a. a.1 ≢ []) (λ (s : Share). (label key s.rank, s.alpha)) shares h.nonzero;
  }

  -- ---- weights

  abbrev size_with : Factors → List ℕ → ℕ
  size_with = column_size e (regular_row e) mu

  abbrev weight_with : Factors → ℕ
  weight_with = column_weight e (regular_row e) mu

  -- the weight is within a limit where the ladder vector's is and each sum of sizes
  pub weight_fits : (limit : ℕ) (fs : Factors) → ladder_weight e mu ≤ limit →
      ((lambda : List ℕ) → IsPartitionOf n lambda → size_with fs lambda ≤ limit) → weight_with fs ≤ limit
  unfolding column_weight
  weight_fits limit fs ladder sizes =
      let small : greatest (map (size_with fs) (partitions (degree mu))) ≤ limit = greatest_within limit _
      (map_within (size_with fs) limit (partitions (degree mu))
      (all_weaken (IsPartitionOf (degree mu)) (λ x. size_with fs x ≤ limit) (partitions (degree mu))
      (λ x h. sizes x (record { partition = h.partition; total = h.total ∙ f.total }))
      (all_partitions (degree mu)))) in
      omega arith

  -- the ladder weight is within a limit that the weight of the column is within
  pub ladder_fits : (limit : ℕ) (fs : Factors) → weight_with fs ≤ limit → ladder_weight e mu ≤ limit
  unfolding column_weight
  ladder_fits limit fs le = omega (arith, le)

  -- so is what the column sums up to at each partition
  pub sizes_fit : (limit : ℕ) (fs : Factors) → weight_with fs ≤ limit → (lambda : List ℕ) → IsPartitionOf n lambda →
      size_with fs lambda ≤ limit
  unfolding column_weight
  sizes_fit limit fs le lambda h =
      at_occurs (λ x. size_with fs x ≤ limit) lambda (partitions (degree mu))
      (each_partition (degree mu) lambda h.partition (h.total ∙ sym f.total))
      (within_map (size_with fs) limit (partitions (degree mu))
      (within_greatest limit (map (size_with fs) (partitions (degree mu))) (omega (arith, le))))

  -- with more shares the weight is no less
  pub weight_more : (limit : ℕ) (fs gs : Factors) → weight_with (fs ++ gs) ≤ limit → weight_with fs ≤ limit
  weight_more limit fs gs le = weight_fits limit fs (ladder_fits limit (fs ++ gs) le)
      (λ lambda h. omega (
        arith,
        sizes_fit limit (fs ++ gs) le lambda h,
        sum_by-append (λ a. size a.1 * size (regular_row e a.0 lambda)) fs gs,
      ))

  -- past the limit with some shares, it is past it with more
  pub weight_stays : (limit : ℕ) (fs gs : Factors) → limit < weight_with fs → limit < weight_with (fs ++ gs)
  weight_stays limit fs gs lt = settle (le_or_lt (weight_with (fs ++ gs)) limit)
    where
      settle : (weight_with (fs ++ gs) ≤ limit) ⊎ (limit < weight_with (fs ++ gs)) → limit < weight_with (fs ++ gs)
      settle (inl le) = absurd (omega (arith, weight_more limit fs gs le, lt))
      settle (inr past) = past

  -- so it is where the ladder vector's weight is past it
  pub ladder_past : (limit : ℕ) (fs : Factors) → limit < ladder_weight e mu → limit < weight_with fs
  ladder_past limit fs lt = settle (le_or_lt (weight_with fs) limit)
    where
      settle : (weight_with fs ≤ limit) ⊎ (limit < weight_with fs) → limit < weight_with fs
      settle (inl le) = absurd (omega (arith, ladder_fits limit fs le, lt))
      settle (inr past) = past

  -- so it is with all shares where it is with some first ones
  pub taken_past : (limit i : ℕ) (shares : List Share) → limit < weight_with (factors_at key (take i shares)) →
      limit < weight_with (factors_at key shares)
  taken_past limit i shares lt =
      subst (λ fs. limit < weight_with fs)
      (sym (map-append (λ (s : Share). (label key s.rank, s.alpha)) (take i shares) (drop i shares))
      ∙ ap (factors_at key) (take-append-drop i shares))
      (weight_stays limit (factors_at key (take i shares)) (factors_at key (drop i shares)) lt)

  -- ---- at the start

  ladder_size : ladder_weight e mu ≤ key.limit → (lambda : List ℕ) → IsPartitionOf n lambda →
      size (ladder_vector e mu lambda) ≤ key.limit
  ladder_size w lambda h =
      subst (λ q. size q ≤ key.limit) (partial_whole e mu lambda)
      ((within_weight key.limit e mu f.is_label w).sizes (length (steps e mu)) (omega arith) lambda
      (subst (λ d. IsPartitionOf d lambda) (sym (degree_after_all e mu f.is_label ∙ f.total)) h))

  none_left : (lambda : List ℕ) → ladder_vector e mu lambda ≡ left_without e mu [] lambda
  unfolding left_without combination sum_over negate collect
  none_left lambda = sym (plus_nought (ladder_vector e mu lambda) (IsLaurent-ladder_vector e mu lambda))

  none_sized : (lambda : List ℕ) → size_with [] lambda ≡ size (ladder_vector e mu lambda)
  none_sized lambda = omega arith

  -- at the start the ladder vector is left
  pub left_at_start : ladder_weight e mu ≤ key.limit →
      IsLeft key mu [] (ladder_tally e mu)
  left_at_start w = record {
    tally =
        ap (λ d. tally_of (fock_vector d (ladder_vector e mu))) f.total
        ∙ ap₂ tally (entries-alike n (ladder_vector e mu) (left_without e mu []) (λ lambda h. none_left lambda))
        (totals-alike n (λ lambda. size (vector_of (entries n (ladder_vector e mu)) lambda)) (size_with [])
        (λ lambda h.
        ap (λ q. size q) (vector_of-entries n (ladder_vector e mu) lambda h) ∙ sym (none_sized lambda)));
    fits = weight_fits key.limit [] w
        (λ lambda h. omega (arith, ladder_size w lambda h, none_sized lambda));
  }
    where
      tally : List (List ℕ × Laurent) → List (List ℕ × ℕ) → TallyValue
      tally es ts = record { vector = record { degree = n; entries = es }; totals = ts }

  -- ---- with one more share

  module _ (fs : Factors) (nu : List ℕ) (alpha : Laurent) (slots : TallyValue) (left : IsLeft key mu fs slots) where
    abbrev row : FockVector
    row = fock_vector n (regular_row e nu)

    abbrev more : Factors
    more = fs ++ ((nu, alpha) ∷ [])

    more_sized : (lambda : List ℕ) → IsPartitionOf n lambda →
        grown_total (tally_without key mu fs) alpha row lambda ≡ size_with more lambda
    more_sized lambda h =
        ap₂ (λ x q. x + size alpha * size q) (total_of-totals n (size_with fs) lambda h)
        (vector_of-entries n (regular_row e nu) lambda h)
        ∙ regrouped (size (ladder_vector e mu lambda))
        (sum_by (λ a. size a.1 * size (regular_row e a.0 lambda)) fs) (size alpha * size (regular_row e nu lambda))
        ∙ ap (λ m. size (ladder_vector e mu lambda) + m)
        (sym (sum_by_push (λ a. size a.1 * size (regular_row e a.0 lambda)) fs (nu, alpha)))
      where
        regrouped : (a b c : ℕ) → a + b + c ≡ a + (b + c)
        regrouped a b c = omega arith

    more_left : (lambda : List ℕ) → IsPartitionOf n lambda →
        plus (vector_of (entries n (left_without e mu fs)) lambda)
        (times (negate alpha) (vector_of (entries n (regular_row e nu)) lambda))
        ≡ left_without e mu more lambda
    unfolding left_without
    more_left lambda h =
        ap₂ (λ x y. plus x (times (negate alpha) y)) (vector_of-entries n (left_without e mu fs) lambda h)
        (vector_of-entries n (regular_row e nu) lambda h)
        ∙ ap (plus (left_without e mu fs lambda)) (negate_times alpha (regular_row e nu lambda))
        ∙ same_laurent _ _ (IsLaurent-plus (left_without e mu fs lambda) (negate product))
        (IsLaurent-plus (ladder_vector e mu lambda) (negate (combination (regular_row e) more lambda))) by_power
      where
        product : Laurent
        product = times alpha (regular_row e nu lambda)

        before : Laurent
        before = combination (regular_row e) fs lambda

        last : Laurent
        last = combination (regular_row e) ((nu, alpha) ∷ []) lambda

        by_power : (j : ℤ) → coefficient (plus (left_without e mu fs lambda) (negate product)) j
            ≡ coefficient (plus (ladder_vector e mu lambda) (negate (combination (regular_row e) more lambda))) j
        by_power j = omega (
          arith,
          ints,
          coefficient-plus (left_without e mu fs lambda) (negate product) j,
          coefficient-negate product j,
          coefficient-plus (ladder_vector e mu lambda) (negate before) j,
          coefficient-negate before j,
          coefficient-plus (ladder_vector e mu lambda) (negate (combination (regular_row e) more lambda)) j,
          coefficient-negate (combination (regular_row e) more lambda) j,
          ap (λ q. coefficient q j) (combination-append (regular_row e) fs ((nu, alpha) ∷ []) lambda),
          coefficient-plus before last j,
          ap (λ q. coefficient q j) (combination-cons (regular_row e) nu alpha [] lambda),
          coefficient-plus product (combination (regular_row e) [] lambda) j,
          no_sum (regular_row e) lambda j,
          nothing j,
        )

    weight_grown : (lambda : List ℕ) → IsPartitionOf n lambda →
        grown_total slots alpha row lambda ≡ size_with more lambda
    weight_grown lambda h = ap (λ t. grown_total t alpha row lambda) left.tally ∙ more_sized lambda h

    -- one share more is taken off
    pub left_more : subtraction_weight slots alpha row ≤ key.limit → IsLeft key mu more (subtracted slots alpha row)
    left_more small = record {
      tally =
          ap (λ t. subtracted t alpha row) left.tally
          ∙ ap₂ tally
          (entries-alike n
          (λ lambda.
          plus (vector_of (entries n (left_without e mu fs)) lambda)
          (times (negate alpha) (vector_of (entries n (regular_row e nu)) lambda)))
          (left_without e mu more) more_left)
          (totals-alike n (grown_total (tally_without key mu fs) alpha row) (size_with more) more_sized);
      fits = weight_fits key.limit more (ladder_fits key.limit fs left.fits)
          (λ lambda h. subst (λ m. m ≤ key.limit) (weight_grown lambda h)
          (at_occurs (λ x. grown_total slots alpha row x ≤ key.limit) lambda (partitions n)
          (each_partition n lambda h.partition h.total)
          (within_map (grown_total slots alpha row) key.limit (partitions n)
          (within_greatest key.limit (map (grown_total slots alpha row) (partitions n)) (degrees small)))));
    }
      where
        tally : List (List ℕ × Laurent) → List (List ℕ × ℕ) → TallyValue
        tally es ts = record { vector = record { degree = n; entries = es }; totals = ts }

        degrees : subtraction_weight slots alpha row ≤ key.limit →
            greatest (map (grown_total slots alpha row) (partitions n)) ≤ key.limit
        degrees h = subst (λ d. greatest (map (grown_total slots alpha row) (partitions d)) ≤ key.limit)
            (ap (λ (t : TallyValue). t.vector.degree) left.tally) h

    subtraction_fits : weight_with more ≤ key.limit → subtraction_weight slots alpha row ≤ key.limit
    subtraction_fits le =
        subst (λ d. greatest (map (grown_total slots alpha row) (partitions d)) ≤ key.limit)
        (sym (ap (λ (t : TallyValue). t.vector.degree) left.tally))
        (greatest_within key.limit _
        (map_within (grown_total slots alpha row) key.limit (partitions n)
        (all_weaken (IsPartitionOf n) (λ x. grown_total slots alpha row x ≤ key.limit) (partitions n)
        (λ x h. subst (λ m. m ≤ key.limit) (sym (weight_grown x h)) (sizes_fit key.limit more le x h))
        (all_partitions n))))

    -- where the subtraction is past the limit, so is the weight with the share
    pub subtraction_past : key.limit < subtraction_weight slots alpha row → key.limit < weight_with more
    subtraction_past lt = settle (le_or_lt (weight_with more) key.limit)
      where
        settle : (weight_with more ≤ key.limit) ⊎ (key.limit < weight_with more) → key.limit < weight_with more
        settle (inl le) = absurd (omega (arith, subtraction_fits le, lt))
        settle (inr past) = past

  -- no total is past the limit
  pub totals_left : (fs : Factors) (slots : TallyValue) → IsLeft key mu fs slots → (lambda : List ℕ) →
      IsPartitionOf slots.vector.degree lambda → total_of slots.totals lambda ≤ key.limit
  totals_left fs slots left lambda h =
      let here : IsPartitionOf n lambda =
      subst (λ (t : TallyValue). IsPartitionOf t.vector.degree lambda) left.tally h in
      subst (λ (t : TallyValue). total_of t.totals lambda ≤ key.limit) (sym left.tally)
      (subst (λ m. m ≤ key.limit) (sym (total_of-totals n (size_with fs) lambda here))
      (sizes_fit key.limit fs left.fits lambda here))

-- ---- powers

-- a listed share times an earlier row
pub listed_product : (key : Key) (j : ℕ) (alpha : Laurent) → IsPlace (place key j) → PowersWithin listed_powers alpha →
    AllByRecursion (λ t. ProductWithin power_limit alpha t.1) (entries key.degree (regular_row key.e (label key j)))
listed_product key j alpha p h =
    all_weaken (λ t. PowersWithin 5043600 t.1) (λ t. ProductWithin power_limit alpha t.1)
    (entries key.degree (regular_row key.e (label key j)))
    (λ t k. product_within listed_powers 5043600 power_limit alpha t.1 (omega arith) h k)
    (subst (λ d. AllByRecursion (λ t. PowersWithin 5043600 t.1) (entries d (regular_row key.e (label key j)))) f.total
    (row_entries key.e (label key j) 5043600 f.is_label bound))
  where
    f : LabelFacts key j
    f = label_facts key j p

    bound : row_bound key.e (label key j) ≤ 5043600
    bound = count_law.row_bound_30 key.e (label key j) f.is_label (omega (arith, f.total, p.key.degree))

-- one share more
pub factors_more : (key : Key) (shares : List Share) (i : ℕ) (s : Share) → i < length shares → s ≡ get_or shares i s →
    factors_at key (take (i + 1) shares) ≡ factors_at key (take i shares) ++ ((label key s.rank, s.alpha) ∷ [])
factors_more key shares i s lt is =
    ap (factors_at key) (take_more shares i s lt ∙ ap (λ t. take i shares ++ (t ∷ [])) (sym is))
    ∙ map-append (λ (s : Share). (label key s.rank, s.alpha)) (take i shares) (s ∷ [])
