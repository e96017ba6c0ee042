-- A listed column that is right and not too large is the row, with its shares; and how the tests tell that it is right.
use Rattle.std.proofs.Common.{◌≡◌, ◌≢◌, ℕ, ◌<◌, ◌≤◌, Bool, true, false, not, ◌&&◌, ◌||◌, ◌+◌, ◌*◌, List, [], ◌∷◌}
use Rattle.std.proofs.Common.{map, reverse}
use Rattle.std.proofs.Common.{refl, sym, ◌∙◌, ap, ap₂, subst, arith, None, sum_by}
use Rattle.std.proofs.Common.{Ordering, Less, Equal, Greater, le-ltb}
use Rattle.std.specs.List.{AllByRecursion, find, list_any}
use Rattle.std.specs.Option.{option_map}
use Rattle.std.specs.Ordering.{is_eq}
use Rattle.std.proofs.lemmas.Int.{ints}
use Rattle.std.proofs.lemmas.List.{reverse-reverse}
use Rattle.std.proofs.lemmas.List.Sorted.{sum_by-IsPermutation, IsPermutation-reverse}
use Rattle.sp_defs.specs.Partition.{degree, partitions, compare, IsPartitionOf}
use Rattle.sp_defs.specs.Laurent.{Laurent, IsLaurent, one, plus, negate, coefficient, size, IsBarInvariant, IsPositive}
use Rattle.sp_defs.specs.Power.{Vector, FockVector, fock_vector, entries, vector_of, IsVector, greatest}
use Rattle.sp_defs.specs.Ladder.{ladder_vector, ladder_weight}
use Rattle.sp_defs.specs.Row.{Factors, combination, regular_row, is_positive, stray, outcome, Row}
use Rattle.sp_lists.proofs.Finding.{find_none, none_found}
use Rattle.sp_lists.proofs.Maps.{map-reverse}
use Rattle.sp_lists.proofs.Elements.{all_map, map_all, all_reverse, reverse_all}
use Rattle.sp_lists.proofs.Places.{all_weaken}
use Rattle.sp_lists.proofs.Greatest.{greatest_within, map_within}
use Rattle.sp_lists.proofs.Occurrence.{at_occurs, none_passes}
use Rattle.sp_shapes.proofs.Order.{same_lists, equal_self}
use Rattle.sp_shapes.proofs.Listing.{all_partitions, each_partition}
use Rattle.sp_algebra.proofs.Laws.{coefficient-plus, coefficient-negate, IsLaurent-plus}
use Rattle.sp_algebra.proofs.Coefficients.{same_laurent}
use Rattle.sp_fock_law.proofs.Vectors.{entries-alike, entries-vector_of, vector_of-entries, IsLaurent-vector_of}
use Rattle.sp_row_law.proofs.Setting.{IsLaurent-ladder_vector}
use Rattle.sp_outcome_law.specs.Asking.{given, total, is_past, given_past, total_past, share_past, next_rank}
use Rattle.sp_outcome_law.specs.Asking.{is_too_large}
use Rattle.sp_outcome_law.proofs.Decided.{decided_end, total_past_by, row_of}
use Rattle.sp_outcome_law.proofs.Reached.{next_zero}
use Rattle.sp_column_law.proofs.Unique.{AreShares, right_shares, right_row}
use Rattle.sp_core.specs.declared.piece.Key.{Key}
use Rattle.sp_llt.specs.declared.share.Share.{Share}
use Rattle.sp_llt.specs.Place.{IsPlace, place, label}
use Rattle.sp_llt.specs.Found.{IsWhole}
use Rattle.sp_llt.specs.Refusals.{outcome_at}
use Rattle.sp_llt.specs.Search.{is_stray_entry}
use Rattle.sp_llt.specs.Shares.{given_shares, ranked_share}
use Rattle.sp_llt.specs.Adopting.{AreListedShares, factors_at, listed_weight, IsRightlyListed, left_without}
use Rattle.sp_llt.proofs.Adopting.{known_shares, ladder_fits, sizes_fit}
use Rattle.sp_llt.proofs.Labels.{LabelFacts, label_facts, lower_place}
use Rattle.sp_llt.proofs.Positive.{same_test, test_positive}
use Rattle.sp_llt.proofs.Strays.{listed_stray}

-- only positive powers, as the test says it
positive_test : (p : Laurent) → IsLaurent p → IsPositive p → is_positive p ≡ true
positive_test p laurent h = sym (same_test true p laurent ((λ _. h), (λ _. refl)))

module _ (key : Key) (k : ℕ) (p : IsPlace (place key k)) (shares : List Share) (row : FockVector)
    (vector : IsVector row.degree row.entries) (same_degree : row.degree ≡ key.degree) where
  abbrev e : ℕ
  e = key.e

  abbrev n : ℕ
  n = key.degree

  abbrev mu : List ℕ
  mu = label key k

  abbrev fs : Factors
  fs = factors_at key shares

  abbrev w : Vector
  w = vector_of row.entries

  f : LabelFacts key k
  f = label_facts key k p

  polynomial : (lambda : List ℕ) → IsLaurent (w lambda)
  polynomial = IsLaurent-vector_of row.entries vector.polynomials

  row_entries : row.entries ≡ entries n w
  row_entries = sym (entries-vector_of row.degree row.entries vector) ∙ ap (λ d. entries d w) same_degree

  of_degree : (lambda : List ℕ) → IsPartitionOf (degree mu) lambda → IsPartitionOf n lambda
  of_degree lambda h = record { partition = h.partition; total = h.total ∙ f.total }

  of_mu : (lambda : List ℕ) → IsPartitionOf n lambda → IsPartitionOf (degree mu) lambda
  of_mu lambda h = record { partition = h.partition; total = h.total ∙ sym f.total }

  -- ---- the tests

  abbrev is_stray : List ℕ → Bool
  is_stray lambda = not (is_eq (compare lambda mu)) && not (is_positive (w lambda))

  stray_is :
      option_map (λ t. t.0) (find (is_stray_entry mu) (reverse row.entries)) ≡ find is_stray (reverse (partitions n))
  stray_is =
      ap (λ es. option_map (λ t. t.0) (find (is_stray_entry mu) (reverse es))) row_entries
      ∙ listed_stray mu w (partitions n)

  not_stray : (lambda : List ℕ) → lambda ≢ mu → is_stray lambda ≡ false → IsPositive (w lambda)
  not_stray lambda other h = test_positive (w lambda) (settle (compare lambda mu) refl (is_positive (w lambda)) h)
    where
      settle : (o : Ordering) → compare lambda mu ≡ o → (b : Bool) → (not (is_eq o) && not b) ≡ false → b ≡ true
      settle o e true h = refl
      settle Less e false h = absurd (cc)
      settle Greater e false h = absurd (cc)
      settle Equal e false h = absurd (other (same_lists lambda mu e))

  is_no_stray : (lambda : List ℕ) → (lambda ≢ mu → IsPositive (w lambda)) → is_stray lambda ≡ false
  is_no_stray lambda h = settle (compare lambda mu) refl
    where
      off : (o : Ordering) → compare lambda mu ≡ o → o ≢ Equal → lambda ≢ mu
      off o e ne same = ne (sym e ∙ ap (λ x. compare x mu) same ∙ equal_self mu)

      by : lambda ≢ mu → (b : Bool) → (b && not (is_positive (w lambda))) ≡ false
      by other true = ap not (positive_test (w lambda) (polynomial lambda) (h other))
      by other false = refl

      settle : (o : Ordering) → compare lambda mu ≡ o → is_stray lambda ≡ false
      settle Less e = by (off Less e (λ z. cc)) (not (is_eq (compare lambda mu)))
      settle Greater e = by (off Greater e (λ z. cc)) (not (is_eq (compare lambda mu)))
      settle Equal e = ap (λ o. not (is_eq o) && not (is_positive (w lambda))) e

  -- what is left is the row exactly where the sum is right
  sum_from : row ≡ fock_vector n (left_without e mu fs) → (lambda : List ℕ) → IsPartitionOf n lambda →
      ladder_vector e mu lambda ≡ plus (w lambda) (combination (regular_row e) fs lambda)
  unfolding left_without
  sum_from is lambda h = same_laurent _ _ (IsLaurent-ladder_vector e mu lambda)
      (IsLaurent-plus (w lambda) (combination (regular_row e) fs lambda))
      (λ j. omega (
        arith,
        ints,
        ap (λ q. coefficient q j)
            (ap (λ (v : FockVector). vector_of v.entries lambda) is
            ∙ vector_of-entries n (left_without e mu fs) lambda h),
        coefficient-plus (ladder_vector e mu lambda) (negate (combination (regular_row e) fs lambda)) j,
        coefficient-negate (combination (regular_row e) fs lambda) j,
        coefficient-plus (w lambda) (combination (regular_row e) fs lambda) j,
      ))

  left_from : ((lambda : List ℕ) → IsPartitionOf n lambda →
      ladder_vector e mu lambda ≡ plus (w lambda) (combination (regular_row e) fs lambda)) →
      row ≡ fock_vector n (left_without e mu fs)
  unfolding left_without
  left_from sum = ap₂ vector_with same_degree (row_entries ∙ entries-alike n w (left_without e mu fs) alike)
    where
      vector_with : ℕ → List (List ℕ × Laurent) → FockVector
      vector_with d es = record { degree = d; entries = es }

      alike : (lambda : List ℕ) → IsPartitionOf n lambda → w lambda ≡ left_without e mu fs lambda
      alike lambda h = same_laurent _ _ (polynomial lambda)
          (IsLaurent-plus (ladder_vector e mu lambda) (negate (combination (regular_row e) fs lambda)))
          (λ j. omega (
            arith,
            ints,
            ap (λ q. coefficient q j) (sum lambda h),
            coefficient-plus (ladder_vector e mu lambda) (negate (combination (regular_row e) fs lambda)) j,
            coefficient-negate (combination (regular_row e) fs lambda) j,
            coefficient-plus (w lambda) (combination (regular_row e) fs lambda) j,
          ))

  -- what the tests of a column tell makes it right
  pub right_from : w mu ≡ one →
      option_map (λ t. t.0) (find (is_stray_entry mu) (reverse row.entries)) ≡ None →
      AllByRecursion (λ s. IsBarInvariant s.alpha) shares → row ≡ fock_vector n (left_without e mu fs) →
      IsRightlyListed key k shares row
  right_from starts stray invariant is = record {
    at_mu = starts;
    elsewhere = λ lambda h other. not_stray lambda other
        (at_occurs (λ x. is_stray x ≡ false) lambda (partitions n)
        (each_partition n lambda (of_degree lambda h).partition (of_degree lambda h).total) none);
    invariant = all_map (λ a. IsBarInvariant a.1) (λ (s : Share). (label key s.rank, s.alpha)) shares invariant;
    sum = λ lambda h. sum_from is lambda (of_degree lambda h);
  }
    where
      none : AllByRecursion (λ x. is_stray x ≡ false) (partitions n)
      none = reverse_all (λ x. is_stray x ≡ false) (partitions n)
          (find_none is_stray (reverse (partitions n)) (sym stray_is ∙ stray))

  -- and a right column passes them: no partition is stray,
  pub right_stray : IsRightlyListed key k shares row →
      option_map (λ t. t.0) (find (is_stray_entry mu) (reverse row.entries)) ≡ None
  right_stray right =
      stray_is
      ∙ none_found is_stray (reverse (partitions n))
      (all_reverse (λ x. is_stray x ≡ false) (partitions n)
      (all_weaken (IsPartitionOf n) (λ x. is_stray x ≡ false) (partitions n)
      (λ x h. is_no_stray x (right.elsewhere x (of_mu x h))) (all_partitions n)))

  -- the shares are bar-invariant,
  pub right_invariant : IsRightlyListed key k shares row → AllByRecursion (λ s. IsBarInvariant s.alpha) shares
  right_invariant right =
      map_all (λ a. IsBarInvariant a.1) (λ (s : Share). (label key s.rank, s.alpha)) shares right.invariant

  -- and the row is what is left
  pub right_left : IsRightlyListed key k shares row → row ≡ fock_vector n (left_without e mu fs)
  right_left right = left_from (λ lambda h. right.sum lambda (of_mu lambda h))

  -- ---- a right column is the row

  module _ (known : AreListedShares k shares) (right : IsRightlyListed key k shares row) where
    is_known : AreShares e mu fs
    is_known = known_shares key k p shares known

    row_is : (lambda : List ℕ) → IsPartitionOf n lambda → w lambda ≡ regular_row e mu lambda
    row_is lambda h = right_row e mu f.is_label fs is_known w (λ lambda _. polynomial lambda) right lambda
        (of_mu lambda h)

    given_is : given e mu 0 ≡ reverse fs
    given_is = right_shares e mu f.is_label fs is_known w (λ lambda _. polynomial lambda) right

    -- the row is the regular row
    pub adopted_row : row ≡ fock_vector n (regular_row e mu)
    adopted_row = ap₂ vector_with same_degree (row_entries ∙ entries-alike n w (regular_row e mu) row_is)
      where
        vector_with : ℕ → List (List ℕ × Laurent) → FockVector
        vector_with d es = record { degree = d; entries = es }

    ranked_again : (ss : List Share) → AllByRecursion (λ s. s.rank < k) ss →
        map (ranked_share e) (factors_at key ss) ≡ ss
    ranked_again [] h = refl
    ranked_again (s ∷ ss) (lt, h) =
        ap₂ (λ r rest. share r s.alpha ∷ rest) (label_facts key s.rank (lower_place key k s.rank p lt)).count
        (ranked_again ss h)
      where
        share : ℕ → Laurent → Share
        share r a = record { rank = r; alpha = a }

    -- and the shares are those of the rank
    pub adopted_shares : shares ≡ given_shares e mu 0
    unfolding given_shares
    adopted_shares = sym
        (ap (λ gs. reverse (map (ranked_share e) gs)) given_is
        ∙ ap reverse (map-reverse (ranked_share e) fs)
        ∙ reverse-reverse (map (ranked_share e) fs)
        ∙ ranked_again shares known.lower)

    -- ---- its outcome

    no_stray_partition : stray e mu ≡ None
    no_stray_partition =
        none_found _ (reverse (partitions (degree mu)))
        (all_reverse (λ x. stray_at x ≡ false) (partitions (degree mu))
        (all_weaken (IsPartitionOf (degree mu)) (λ x. stray_at x ≡ false) (partitions (degree mu))
        (λ x h. ap (λ q. not (is_eq (compare x mu)) && not (is_positive q)) (sym (row_is x (of_degree x h)))
        ∙ is_no_stray x (right.elsewhere x h))
        (all_partitions (degree mu))))
      where
        stray_at : List ℕ → Bool
        stray_at x = not (is_eq (compare x mu)) && not (is_positive (regular_row e mu x))

    module _ (fits : listed_weight key k shares ≤ key.limit)
        (rows : AllByRecursion (λ s. outcome_at (place key s.rank) ≡ Row) shares) where
      total_is : (lambda : List ℕ) →
          total e mu 0 lambda
          ≡ size (ladder_vector e mu lambda) + sum_by (λ a. size a.1 * size (regular_row e a.0 lambda)) fs
      unfolding total
      total_is lambda =
          ap (λ gs. size (ladder_vector e mu lambda) + sum_by (λ a. size a.1 * size (regular_row e a.0 lambda)) gs)
          given_is
          ∙ ap (λ m. size (ladder_vector e mu lambda) + m)
          (sum_by-IsPermutation (λ a. size a.1 * size (regular_row e a.0 lambda)) fs (reverse fs)
          (IsPermutation-reverse fs))

      no_total : total_past e key.limit mu 0 ≡ false
      no_total =
          total_past_by e key.limit mu 0
          ∙ le-ltb key.limit (greatest (map (total e mu 0) (partitions (degree mu))))
          (greatest_within key.limit (map (total e mu 0) (partitions (degree mu)))
          (map_within (total e mu 0) key.limit (partitions (degree mu))
          (all_weaken (IsPartitionOf (degree mu)) (λ x. total e mu 0 x ≤ key.limit) (partitions (degree mu))
          (λ x h. subst (λ m. m ≤ key.limit) (sym (total_is x))
          (sizes_fit key k p key.limit fs fits x (of_degree x h)))
          (all_partitions (degree mu)))))

      no_given : given_past e key.limit mu 0 ≡ false
      unfolding given_past
      no_given =
          ap (list_any (λ a. is_too_large (outcome e key.limit a.0))) given_is
          ∙ none_passes (λ a. is_too_large (outcome e key.limit a.0)) (reverse fs)
          (λ a o. at_occurs (λ a. is_too_large (outcome e key.limit a.0) ≡ false) a (reverse fs) o
          (all_reverse (λ a. is_too_large (outcome e key.limit a.0) ≡ false) fs
          (all_map (λ a. is_too_large (outcome e key.limit a.0) ≡ false)
          (λ (s : Share). (label key s.rank, s.alpha)) shares
          (all_weaken (λ (s : Share). outcome_at (place key s.rank) ≡ Row)
          (λ s. is_too_large (outcome e key.limit (label key s.rank)) ≡ false) shares (λ s h. ap is_too_large h)
          rows))))

      not_large : is_too_large (outcome e key.limit mu) ≡ false
      unfolding is_past share_past
      not_large =
          decided_end e key.limit mu 0 (next_zero e mu)
          ∙ ap (λ b. b || (given_past e key.limit mu 0 ||
          (total_past e key.limit mu 0 || share_past e key.limit mu (next_rank e mu 0))))
          (le-ltb key.limit (ladder_weight e mu) (ladder_fits key k p key.limit fs fits))
          ∙ ap₂ (λ b c. b || (c || share_past e key.limit mu (next_rank e mu 0))) no_given no_total
          ∙ ap (share_past e key.limit mu) (next_zero e mu)

      -- then the outcome is the row
      pub adopted_outcome : outcome e key.limit mu ≡ Row
      adopted_outcome = row_of e key.limit mu not_large no_stray_partition

      -- so the entry holds what is left, and the shares
      pub adopted_whole : (left : FockVector) → left ≡ row → IsWhole key mu left shares None
      adopted_whole left is = record {
        fits = not_large;
        row = is ∙ adopted_row;
        shares = adopted_shares;
        stray = sym no_stray_partition;
      }
