-- The columns of all rows are a certificate, and each of them is accepted.
use Rattle.std.proofs.Common.{◌≡◌, ◌≢◌, ℕ, ◌+◌, ◌*◌, ◌<◌, ◌≤◌, ◌⊎◌, inl, inr, true, false}
use Rattle.std.proofs.Common.{nat_lt, List, [], ◌∷◌, ◌++◌, map, reverse, length, Option, Some, None, refl, sym}
use Rattle.std.proofs.Common.{◌∙◌, ap, ap₂, subst, arith, max, append-nil, sum_by, get_or, lt-ltb, true≢false}
use Rattle.std.specs.List.{AllByRecursion}
use Rattle.std.specs.Int.RustNames.{unsigned_abs}
use Rattle.std.proofs.lemmas.List.{get_or-append-add, get_or_append_left}
use Rattle.std.proofs.lemmas.List.Sorted.{sum_by-IsPermutation, IsPermutation-reverse}
use Rattle.sp_defs.specs.Partition.{degree, partitions, Ascending, IsPartitionOf, IsRegularOf}
use Rattle.sp_defs.specs.Laurent.{Laurent, plus, negate, size, IsLaurent, IsBarInvariant, IsPositive}
use Rattle.sp_defs.specs.Power.{entries, vector_of, greatest}
use Rattle.sp_defs.specs.Ladder.{ladder_vector, ladder_weight}
use Rattle.sp_defs.specs.Row.{combination, regular_row, shares, earlier, weight, needed, outcome, stray}
use Rattle.sp_defs.specs.Row.{Stray, Row}
use Rattle.sp_defs.specs.Statements.{IsLabel, SameContent}
use Rattle.sp_defs.specs.Within.{PowersWithin}
use Rattle.sp_lists.proofs.Elements.{all_every, all_filter, all_map, map_all, all_reverse, all_right, le_or_lt}
use Rattle.sp_lists.proofs.Elements.{all_both}
use Rattle.sp_lists.proofs.Maps.{map-alike}
use Rattle.sp_lists.proofs.Places.{all_weaken}
use Rattle.sp_lists.proofs.Occurrence.{Occurs, at_occurs, occurs_reverse, some_passes, occurs_left, occurs_right}
use Rattle.sp_lists.proofs.Occurrence.{all_occur}
use Rattle.sp_shapes.proofs.Listing.{each_regular}
use Rattle.sp_fock_law.proofs.Vectors.{vector_of-entries}
use Rattle.sp_row_law.proofs.Setting.{good_earlier, earlier_ascends}
use Rattle.sp_row_law.proofs.RowsLaw.{rows_law}
use Rattle.sp_row_bounds.proofs.Entries.{row_entries, entries_all}
use Rattle.sp_row_bounds.specs.Powers.{row_bound}
use Rattle.sp_row_bounds.proofs.Rows.{powers_law}
use Rattle.sp_algebra.proofs.Laws.{IsLaurent-bar}
use Rattle.sp_algebra.proofs.Sizes.{size_plus, size_negate, within_more}
use Rattle.sp_laurent.specs.Readable.{IsReadable, read_limit}
use Rattle.sp_row_bounds.proofs.Ranks.{count_law}
use Rattle.sp_partition.proofs.Progress.{factor_le}
use Rattle.sp_outcome_law.specs.Asking.{given, left, is_nonzero, is_too_large}
use Rattle.sp_outcome_law.proofs.Decided.{too_large_by, stray_of}
use Rattle.sp_outcome_law.proofs.Left.{combination_nonzero, sum_nonzero, left_end, IsLaurent-row}
use Rattle.sp_outcome_law.proofs.Reached.{next_zero}
use Rattle.sp_outcome_law.proofs.Needed.{own as needs_itself}
use Rattle.sp_outcome_law.proofs.Ranks.{keys}
use Rattle.sp_column_law.specs.Column.{column_size, column_weight, IsRight}
use Rattle.sp_column_law.proofs.Refilled.{combination-reverse}
use Rattle.sp_core.specs.declared.piece.Key.{Key}
use Rattle.sp_llt.specs.declared.share.Share.{Share}
use Rattle.sp_llt.specs.Place.{IsKey, IsPlace, place, key_of, label, labels}
use Rattle.sp_llt.specs.Shares.{rank_of, ranked_share, given_shares}
use Rattle.sp_llt.specs.Adopting.{AreListedShares, factors_at, listed_powers}
use Rattle.sp_llt.specs.Laws.{ObeysRowLaw, ObeysShareLaw}
use Rattle.sp_llt.proofs.Adopting.{sizes_fit}
use Rattle.sp_llt.proofs.Laws.{obeys_row, obey_shares}
use Rattle.sp_llt.proofs.NoStray.{row_without_stray}
use Rattle.sp_cert.specs.declared.certificate.Column.{Column}
use Rattle.sp_cert.specs.declared.fault.CertFault.{CertFault}
use Rattle.sp_cert.specs.declared.fault.CertFault.TheVariants.{Malformed, TooLarge as LargeFault, Wrong, Memory}
use Rattle.sp_cert.specs.Order.{columns_of}
use Rattle.sp_cert.specs.Rules.{IsListedColumn}
use Rattle.sp_cert.specs.Verdict.{listed_in, IsAccepted, IsRowColumn, IsCause}
use Rattle.sp_cert.specs.Written.{row_column, row_columns, HasAllRows, IsAcceptedWhole}
use Rattle.sp_cert.proofs.Blocks.{IsAmong, InBlock, in_columns, all_columns, place_of, IsAt}
use Rattle.sp_cert.proofs.Factors.{kept_ascending, falling_ranks, factors_back, combination_size, terms_within}
use Rattle.sp_cert.proofs.Listed.{Same, weights_alike, right_alike, same_back, listed_row}
use Rattle.sp_cert.proofs.Ranking.{IsRanked, ranked}

-- ---- the column of one row

module _ (key : Key) (held : IsKey key) (mu : List ℕ) (r : IsRegularOf key.e key.degree mu)
    (row : outcome key.e key.limit mu ≡ Row) where
  abbrev e : ℕ
  e = key.e

  abbrev n : ℕ
  n = key.degree

  is_label : IsLabel e mu
  is_label = record { e_least = held.e_least; partition = r.partition; regular = r.regular }

  -- mu stands at its rank
  pub stands : IsRanked e n mu
  stands = ranked e n mu held.e_least r

  at_place : IsPlace (place key (rank_of e mu))
  at_place = record { key = held; rank = stands.within }

  small : degree mu ≤ 30
  small = omega (arith, held.degree, r.total)

  -- ---- its shares

  given_regular : AllByRecursion (λ a. IsRegularOf e n a.0) (given e mu 0)
  unfolding given
  given_regular =
      all_filter (λ a. IsRegularOf e n a.0) is_nonzero (shares e mu)
      (all_weaken (λ a. IsRegularOf e n a.0) (λ a. is_nonzero a ≡ true → IsRegularOf e n a.0) (shares e mu) (λ a h _. h)
      (map_all (IsRegularOf e n) (λ a. a.0) (shares e mu)
      (subst (AllByRecursion (IsRegularOf e n)) (sym (keys e mu))
      (subst (λ d. AllByRecursion (IsRegularOf e d) (earlier e mu)) r.total (good_earlier e mu)))))

  given_ascends : Ascending (map (λ a. a.0) (given e mu 0))
  unfolding given
  given_ascends =
      kept_ascending is_nonzero (shares e mu) (subst Ascending (sym (keys e mu)) (earlier_ascends e mu))

  -- the shares have their partitions' factors
  given_factors : factors_at key (given_shares e mu 0) ≡ reverse (given e mu 0)
  unfolding given_shares
  given_factors =
      factors_back key (given e mu 0)
      (all_weaken (λ a. IsRegularOf e n a.0) (λ a. label key (rank_of e a.0) ≡ a.0) (given e mu 0)
      (λ a h. (ranked e n a.0 held.e_least h).at) given_regular)

  obey : AllByRecursion (ObeysShareLaw (place key (rank_of e mu))) (given_shares e mu 0)
  obey =
      subst (λ m. AllByRecursion (ObeysShareLaw (place key (rank_of e mu))) (given_shares e m 0)) stands.at
      (obey_shares key (rank_of e mu) at_place)

  few_powers : n * n ≤ listed_powers
  few_powers =
      omega (
        arith,
        factor_le (degree mu * degree mu) (rank_of e mu + 1) (omega arith),
        count_law.row_bound_30 e mu is_label small,
        commuted (degree mu * degree mu) (rank_of e mu + 1),
        ap (λ d. d * d) r.total,
      )
    where
      commuted : (a b : ℕ) → a * b ≡ b * a
      commuted a b = omega arith

  -- the shares keep the rules
  pub listed_shares : AreListedShares (rank_of e mu) (given_shares e mu 0)
  unfolding given_shares
  listed_shares = record {
    lower = all_weaken (ObeysShareLaw (place key (rank_of e mu))) (λ s. s.rank < rank_of e mu) (given_shares e mu 0)
        (λ s h. h.earlier) obey;
    falling = falling_ranks e n (given e mu 0) given_ascends given_regular;
    nonzero = all_weaken (ObeysShareLaw (place key (rank_of e mu))) (λ s. s.alpha ≢ []) (given_shares e mu 0)
        (λ s h. h.nonzero) obey;
    powers = all_weaken (ObeysShareLaw (place key (rank_of e mu))) (λ s. PowersWithin listed_powers s.alpha)
        (given_shares e mu 0)
        (λ s h. all_weaken (λ t. unsigned_abs t.0 ≤ n * n) (λ t. unsigned_abs t.0 ≤ listed_powers) s.alpha
        (λ t le. omega (arith, le, few_powers)) h.powers)
        obey;
  }

  -- ---- its row

  listed_entries : AllByRecursion (λ t. PowersWithin listed_powers t.1) (entries n (regular_row e mu))
  listed_entries =
      subst (λ d. AllByRecursion (λ t. PowersWithin listed_powers t.1) (entries d (regular_row e mu))) r.total
      (row_entries e mu listed_powers is_label (omega (arith, count_law.row_bound_30 e mu is_label small)))

  -- the row obeys the law of rows
  pub obeys : ObeysRowLaw (place key (rank_of e mu)) (entries n (regular_row e mu))
  obeys =
      subst (λ m. ObeysRowLaw (place key (rank_of e mu)) (entries n (regular_row e m))) stands.at
      (obeys_row key (rank_of e mu) at_place)

  -- the column keeps the rules
  pub listed_column : IsListedColumn 2 e n (row_column e n mu)
  listed_column = record {
    degree = refl;
    shares = listed_shares;
    powers = listed_entries;
    content = λ two. record {
      shares = all_weaken (ObeysShareLaw (place key (rank_of e mu)))
          (λ s. SameContent e mu (label (key_of e n 1) s.rank)) (given_shares e mu 0)
          (λ s h. subst (λ m. SameContent e m (label key s.rank)) stands.at h.content) obey;
      entries = subst (λ m. AllByRecursion (λ t. SameContent e m t.0) (entries n (regular_row e mu))) stands.at
          obeys.contents;
    };
  }

  -- ---- it fits

  within_limit : is_too_large (outcome e key.limit mu) ≡ false
  within_limit = ap is_too_large row

  weight_fits : weight e mu ≤ key.limit
  weight_fits = settle (le_or_lt (weight e mu) key.limit)
    where
      settle : (weight e mu ≤ key.limit) ⊎ (key.limit < weight e mu) → weight e mu ≤ key.limit
      settle (inl le) = le
      settle (inr lt) =
          absurd (true≢false (sym (some_passes (λ kappa. nat_lt key.limit (weight e kappa)) mu (needed e mu)
          (needs_itself e mu (earlier e mu)) (lt-ltb key.limit (weight e mu) lt))
          ∙ sym (too_large_by e key.limit mu) ∙ within_limit))

  weight_is : column_weight e (regular_row e) mu (reverse (given e mu 0)) ≡ weight e mu
  unfolding column_weight weight given
  weight_is =
      ap (λ xs. max (ladder_weight e mu) (greatest xs))
      (map-alike (column_size e (regular_row e) mu (reverse (given e mu 0)))
      (λ lambda. size (ladder_vector e mu lambda)
      + sum_by (λ a. size a.1 * size (regular_row e a.0 lambda)) (shares e mu))
      (partitions (degree mu))
      (all_every _ (partitions (degree mu)) (λ lambda. ap (λ m. size (ladder_vector e mu lambda) + m)
      (sum_by-IsPermutation (λ a. size a.1 * size (regular_row e a.0 lambda)) (given e mu 0) (reverse (given e mu 0))
      (IsPermutation-reverse (given e mu 0))
      ∙ sum_nonzero (λ nu. size (regular_row e nu lambda)) (shares e mu)))))

  -- ---- it is right

  no_stray : stray e mu ≡ None
  no_stray = by (stray e mu) refl
    where
      other : (lambda : List ℕ) → Stray lambda ≡ Row → ⊥
      other lambda h = cc

      by : (o : Option (List ℕ)) → stray e mu ≡ o → o ≡ None
      by None is = refl
      by (Some lambda) is = absurd (other lambda (sym (stray_of e key.limit mu lambda within_limit is) ∙ row))

  value : (lambda : List ℕ) → IsPartitionOf (degree mu) lambda →
      vector_of (entries n (regular_row e mu)) lambda ≡ regular_row e mu lambda
  value lambda p =
      vector_of-entries n (regular_row e mu) lambda
      (record { partition = p.partition; total = p.total ∙ r.total })

  given_invariant : AllByRecursion (λ a. IsBarInvariant a.1) (given e mu 0)
  unfolding given
  given_invariant =
      all_filter (λ a. IsBarInvariant a.1) is_nonzero (shares e mu)
      (all_weaken (λ a. IsBarInvariant a.1) (λ a. is_nonzero a ≡ true → IsBarInvariant a.1) (shares e mu) (λ a h _. h)
      (rows_law e mu is_label).shares_invariant)

  right_row : IsRight e (regular_row e) mu (reverse (given e mu 0)) (vector_of (entries n (regular_row e mu)))
  unfolding given
  right_row = record {
    at_mu = value mu (record { partition = r.partition; total = refl }) ∙ (rows_law e mu is_label).at_mu;
    elsewhere = λ lambda p other.
        subst (λ q. IsPositive q) (sym (value lambda p))
        ((row_without_stray e mu is_label no_stray).elsewhere lambda p.partition other);
    invariant = all_reverse (λ a. IsBarInvariant a.1) (given e mu 0) given_invariant;
    sum = λ lambda p.
        (rows_law e mu is_label).shares_sum lambda
        ∙ ap₂ plus (sym (value lambda p))
        (sym (combination-reverse (regular_row e) (given e mu 0) lambda
        ∙ combination_nonzero (regular_row e) (shares e mu) lambda));
  }

  -- ---- its polynomials are read

  column_sizes : (lambda : List ℕ) → IsPartitionOf n lambda →
      column_size e (regular_row e) mu (reverse (given e mu 0)) lambda ≤ key.limit
  column_sizes lambda p =
      subst (λ m. column_size e (regular_row e) m (reverse (given e mu 0)) lambda ≤ key.limit) stands.at
      (sizes_fit key (rank_of e mu) at_place key.limit (reverse (given e mu 0))
      (subst (λ m. column_weight e (regular_row e) m (reverse (given e mu 0)) ≤ key.limit) (sym stands.at)
      (subst (λ w. w ≤ key.limit) (sym weight_is) weight_fits)) lambda p)

  row_size : (lambda : List ℕ) → IsPartitionOf n lambda → size (regular_row e mu lambda) ≤ key.limit
  unfolding left
  row_size lambda p =
      omega (
        arith,
        ap size (left_end e mu 0 is_label (next_zero e mu) lambda),
        size_plus (ladder_vector e mu lambda) (negate (combination (regular_row e) (given e mu 0) lambda)),
        size_negate (combination (regular_row e) (given e mu 0) lambda),
        ap size (combination-reverse (regular_row e) (given e mu 0) lambda),
        combination_size (regular_row e) (reverse (given e mu 0)) lambda,
        column_sizes lambda p,
      )

  -- the polynomials of its row
  pub entries_readable : AllByRecursion (λ t. IsReadable t.1) (entries n (regular_row e mu))
  entries_readable =
      entries_all IsReadable n (regular_row e mu)
      (λ lambda p. record {
        laurent = IsLaurent-row e mu lambda;
        small = omega (arith, row_size lambda p, held.limit_most);
        powers = within_more (row_bound e mu) read_limit (regular_row e mu lambda)
            (omega (arith, count_law.row_bound_30 e mu is_label small))
            ((powers_law e mu is_label).row lambda p.partition);
      })

  share_size : (a : List ℕ × Laurent) → Occurs a (given e mu 0) → IsRegularOf e n a.0 → size a.1 ≤ key.limit
  share_size a o g =
      omega (
        arith,
        own,
        at_occurs (λ b. size b.1 * size (regular_row e b.0 a.0) ≤ shared) a (reverse (given e mu 0))
            (occurs_reverse a (given e mu 0) o)
            (terms_within (λ b. size b.1 * size (regular_row e b.0 a.0)) (reverse (given e mu 0)) shared (omega arith)),
        column_sizes a.0 (record { partition = g.partition; total = g.total }),
      )
    where
      shared : ℕ
      shared = sum_by (λ b. size b.1 * size (regular_row e b.0 a.0)) (reverse (given e mu 0))

      own : size a.1 * size (regular_row e a.0 a.0) ≡ size a.1
      own =
          ap (λ q. size a.1 * size q)
          (rows_law e a.0 (record { e_least = held.e_least; partition = g.partition; regular = g.regular })).at_mu
          ∙ omega arith

  -- the factors of its shares
  pub shares_readable : AllByRecursion (λ s. IsReadable s.alpha) (given_shares e mu 0)
  unfolding given_shares
  shares_readable =
      all_weaken (λ (s : Share). (IsLaurent s.alpha × size s.alpha ≤ key.limit) × PowersWithin listed_powers s.alpha)
      (λ s. IsReadable s.alpha) (given_shares e mu 0)
      (λ s h. record {
        laurent = h.0.0;
        small = omega (arith, h.0.1, held.limit_most);
        powers = h.1;
      })
      (all_both (λ (s : Share). IsLaurent s.alpha × size s.alpha ≤ key.limit) (λ s. PowersWithin listed_powers s.alpha)
      (given_shares e mu 0)
      (all_reverse (λ (s : Share). IsLaurent s.alpha × size s.alpha ≤ key.limit) (map (ranked_share e) (given e mu 0))
      (all_map (λ (s : Share). IsLaurent s.alpha × size s.alpha ≤ key.limit) (ranked_share e) (given e mu 0)
      (all_weaken (λ a. (Occurs a (given e mu 0) × IsRegularOf e n a.0) × IsBarInvariant a.1)
      (λ a. IsLaurent a.1 × size a.1 ≤ key.limit) (given e mu 0)
      (λ a h. (subst IsLaurent h.1 (IsLaurent-bar a.1), share_size a h.0.0 h.0.1))
      (all_both (λ a. Occurs a (given e mu 0) × IsRegularOf e n a.0) (λ a. IsBarInvariant a.1) (given e mu 0)
      (all_both (λ a. Occurs a (given e mu 0)) (λ a. IsRegularOf e n a.0) (given e mu 0) (all_occur (given e mu 0))
      given_regular)
      given_invariant))))
      listed_shares.powers)

  -- the column is that of a row
  pub row_is_listed : IsRowColumn key (row_column e n mu)
  row_is_listed = record {
    outcome = ap (outcome e key.limit) stands.at ∙ row;
    row = refl;
    shares = refl;
  }

  -- where what is listed for its shares is their rows, it is accepted
  pub row_accepted : (columns : List Column) →
      Same (degree mu) (listed_in columns) (regular_row e) (factors_at key (given_shares e mu 0)) →
      IsAccepted key columns (row_column e n mu)
  row_accepted columns same = record {
    fits = subst (λ m. m ≤ key.limit)
        (sym (weights_alike e mu (listed_in columns) (regular_row e) (factors_at key (given_shares e mu 0)) same
        ∙ ap (column_weight e (regular_row e) mu) given_factors
        ∙ weight_is)) weight_fits;
    right = right_alike e mu (regular_row e) (listed_in columns) (factors_at key (given_shares e mu 0))
        (vector_of (entries n (regular_row e mu)))
        (same_back (degree mu) (listed_in columns) (regular_row e) (factors_at key (given_shares e mu 0)) same)
        (subst (λ fs. IsRight e (regular_row e) mu fs (vector_of (entries n (regular_row e mu)))) (sym given_factors)
        right_row);
  }

  -- each share is that of a partition of its content
  pub share_among : AllByRecursion (λ s. IsAmong 2 e n mu (label key s.rank)) (given_shares e mu 0)
  share_among =
      all_weaken (λ s. ObeysShareLaw (place key (rank_of e mu)) s × IsRegularOf e n (label key s.rank))
      (λ s. IsAmong 2 e n mu (label key s.rank)) (given_shares e mu 0)
      (λ s h. record {
        regular = h.1;
        content = λ two. subst (λ m. SameContent e m (label key s.rank)) stands.at h.0.content;
      })
      (all_both (ObeysShareLaw (place key (rank_of e mu))) (λ s. IsRegularOf e n (label key s.rank))
      (given_shares e mu 0) obey regular)
    where
      regular : AllByRecursion (λ s. IsRegularOf e n (label key s.rank)) (given_shares e mu 0)
      regular =
          map_all (λ a. IsRegularOf e n a.0) (λ (s : Share). (label key s.rank, s.alpha)) (given_shares e mu 0)
          (subst (AllByRecursion (λ a. IsRegularOf e n a.0)) (sym given_factors)
          (all_reverse (λ a. IsRegularOf e n a.0) (given e mu 0) given_regular))

-- ---- all columns

at_block : (xs front block rest : List (List ℕ)) (i j : ℕ) → xs ≡ front ++ (block ++ rest) → i ≡ length front + j →
    j < length block → get_or xs i [] ≡ get_or block j []
at_block xs front block rest i j whole at lt =
    ap₂ (λ ys k. get_or ys k []) whole at
    ∙ get_or-append-add front (block ++ rest) j [] ∙ get_or_append_left block rest [] j lt

own_columns : (e n : ℕ) (xs : List (List ℕ)) → map (λ c. c.mu) (map (row_column e n) xs) ≡ xs
own_columns e n [] = refl
own_columns e n (x ∷ xs) = ap (λ ys. x ∷ ys) (own_columns e n xs)

module _ (key : Key) (held : IsKey key) (all : HasAllRows key) where
  abbrev order : List (List ℕ)
  order = columns_of 2 key.e key.degree

  abbrev columns : List Column
  columns = row_columns key.e key.degree

  regular : AllByRecursion (IsRegularOf key.e key.degree) order
  regular = all_columns key.e key.degree 2

  row_at : (mu : List ℕ) → IsRegularOf key.e key.degree mu → outcome key.e key.limit mu ≡ Row
  row_at mu r =
      at_occurs (λ x. outcome key.e key.limit x ≡ Row) mu (labels key) (each_regular key.e key.degree mu r) all

  row_columns_listed : AllByRecursion (IsRowColumn key) columns
  row_columns_listed =
      all_map (IsRowColumn key) (row_column key.e key.degree) order
      (all_weaken (IsRegularOf key.e key.degree) (λ mu. IsRowColumn key (row_column key.e key.degree mu)) order
      (λ mu r. row_is_listed key held mu r (row_at mu r)) regular)

  -- a partition of the content of a column has a column
  among_occurs : (mu nu : List ℕ) → Occurs mu order → IsAmong 2 key.e key.degree mu nu → Occurs nu order
  among_occurs mu nu o among =
      let a = place_of mu order o in
      let b = in_columns key.e key.degree 2 a.place (omega arith) (omega arith) a.within in
      subst (Occurs nu) (sym b.whole)
      (occurs_right nu b.front (b.block ++ b.rest)
      (occurs_left nu b.block b.rest (b.closed nu
      (subst (λ m. IsAmong 2 key.e key.degree m nu) (sym a.is ∙ in_block a b) among))))
    where
      in_block : (a : IsAt mu order) (b : InBlock (IsAmong 2 key.e key.degree) order a.place) →
          get_or order a.place [] ≡ get_or b.block b.place []
      in_block a b = at_block order b.front b.block b.rest a.place b.place b.whole b.at b.within

  same_rows : (mu : List ℕ) → Occurs mu order → (r : IsRegularOf key.e key.degree mu) →
      Same (degree mu) (listed_in columns) (regular_row key.e) (factors_at key (given_shares key.e mu 0))
  same_rows mu o r =
      all_map (λ a. (lambda : List ℕ) → IsPartitionOf (degree mu) lambda →
      listed_in columns a.0 lambda ≡ regular_row key.e a.0 lambda) (λ (s : Share). (label key s.rank, s.alpha))
      (given_shares key.e mu 0)
      (all_weaken (λ (s : Share). IsAmong 2 key.e key.degree mu (label key s.rank))
      (λ s. (lambda : List ℕ) → IsPartitionOf (degree mu) lambda →
      listed_in columns (label key s.rank) lambda ≡ regular_row key.e (label key s.rank) lambda)
      (given_shares key.e mu 0)
      (λ s among lambda p. listed (label key s.rank) (among_occurs mu (label key s.rank) o among) lambda p)
      (share_among key held mu r (row_at mu r)))
    where
      listed : (nu : List ℕ) → Occurs nu order → (lambda : List ℕ) → IsPartitionOf (degree mu) lambda →
          listed_in columns nu lambda ≡ regular_row key.e nu lambda
      listed nu k lambda p =
          ap (λ cs. listed_in cs nu lambda) (sym (append-nil columns))
          ∙ listed_row key columns [] nu row_columns_listed
          (subst (Occurs nu) (sym (own_columns key.e key.degree order)) k) lambda
          (record { partition = p.partition; total = p.total ∙ r.total })

  all_accepted : AllByRecursion (IsAccepted key columns) columns
  all_accepted =
      all_map (IsAccepted key columns) (row_column key.e key.degree) order
      (all_weaken (λ mu. Occurs mu order × IsRegularOf key.e key.degree mu)
      (λ mu. IsAccepted key columns (row_column key.e key.degree mu)) order
      (λ mu h. row_accepted key held mu h.1 (row_at mu h.1) columns (same_rows mu h.0 h.1))
      (all_both (λ mu. Occurs mu order) (IsRegularOf key.e key.degree) order (all_occur order) regular))

  failing_accepted : (front : List Column) (c : Column) (others : List Column) → columns ≡ front ++ (c ∷ others) →
      IsAccepted key columns c
  failing_accepted front c others place =
      (all_right (IsAccepted key columns) front (c ∷ others)
      (subst (AllByRecursion (IsAccepted key columns)) place all_accepted)).0

  -- no column is a cause to refuse the certificate
  only_memory : (fault : CertFault) → IsCause key columns fault → fault ≡ Memory
  only_memory (Malformed line) cause = absurd cause
  only_memory (LargeFault at) cause =
      let bad : key.limit < _ = cause.bad in
      absurd (omega (arith, bad, (failing_accepted cause.accepted cause.failing cause.others cause.place).fits))
  only_memory (Wrong at) cause =
      absurd (cause.bad.wrong (failing_accepted cause.accepted cause.failing cause.others cause.place).right)
  only_memory Memory cause = refl

  -- the columns of all rows are a certificate, and each is accepted
  pub accepted_whole : IsAcceptedWhole key
  accepted_whole = record {
    rules = record {
      version_least = omega arith;
      version_most = omega arith;
      e_least = held.e_least;
      e_most = held.e_most;
      degree = held.degree;
      order = own_columns key.e key.degree order;
      each = all_map (IsListedColumn 2 key.e key.degree) (row_column key.e key.degree) order
          (all_weaken (IsRegularOf key.e key.degree)
          (λ mu. IsListedColumn 2 key.e key.degree (row_column key.e key.degree mu)) order
          (λ mu r. listed_column key held mu r (row_at mu r)) regular);
    };
    accepted = all_accepted;
    no_cause = only_memory;
  }
