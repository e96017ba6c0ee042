-- One step of the test of a certificate.
use Rattle.std.proofs.Common.{◌≡◌, ℕ, zero, suc, ◌+◌, ◌-◌, ◌<◌, ◌≤◌, List, [], ◌∷◌}
use Rattle.std.proofs.Common.{◌++◌, map, length, get_or, take, drop}
use Rattle.std.proofs.Common.{refl, sym, ◌∙◌, ap, ap₂, subst, arith, ◌⊎◌, inl, inr, append_assoc}
use Rattle.std.proofs.lemmas.List.{get_or-map, get_or-take, length-map, length-take-le}
use Rattle.std.proofs.lemmas.List.{take_more, map-append, drop-append-le}
use Rattle.std.proofs.lemmas.List.{length-drop, take-append-drop}
use Rattle.std.proofs.Math.Seq.{take-length}
use Rattle.std.specs.List.{AllByRecursion}
use Rattle.sp_defs.specs.Partition.{degree, IsPartitionOf, IsRegularOf}
use Rattle.sp_defs.specs.Power.{fock_vector, vector_of}
use Rattle.sp_defs.specs.Row.{regular_row, Row}
use Rattle.sp_defs.specs.Statements.{SameContent}
use Rattle.sp_lists.proofs.Places.{all_from}
use Rattle.sp_lists.proofs.Elements.{le_or_lt, all_append, all_map, all_every}
use Rattle.sp_lists.proofs.Places.{all_at, all_weaken}
use Rattle.sp_lists.proofs.Occurrence.{Occurs, contains}
use Rattle.sp_column_law.specs.Column.{column_weight, IsRight}
use Rattle.sp_core.specs.declared.piece.Key.{Key}
use Rattle.sp_llt.specs.declared.share.Share.{Share}
use Rattle.sp_llt.specs.Place.{Place, place, label, key_of}
use Rattle.sp_llt.specs.Shares.{rank_of, given_shares}
use Rattle.sp_llt.specs.Refusals.{outcome_at}
use Rattle.sp_llt.specs.Adopting.{Rising, AreListedShares, AreEarlierRows, HasRank}
use Rattle.sp_llt.specs.Adopting.{factors_at, listed_weight, IsRightlyListed}
use Rattle.sp_cert.specs.declared.certificate.Column.{Column}
use Rattle.sp_cert.specs.Rules.{Listing, IsCertificate, IsListedColumn}
use Rattle.sp_cert.specs.Verdict.{listed_in, IsLarge, Fits, IsRightColumn, IsAccepted, IsRowColumn, FailsFirst, IsWrong}
use Rattle.sp_cert.specs.Checked.{entry_for, ranks_in, rank_at, IsStart, IsChecked}
use Rattle.sp_cert.proofs.Ranking.{own_at, regular_at, regular_own, IsShareBefore, share_before, ranked}
use Rattle.sp_cert.proofs.Listed.{Same, same_back, weights_alike, right_alike, listed_row}

-- ---- lists of entries

-- one that stands from a place on
occurs_from : (ps : List Place) (start i : ℕ) (d : Place) → start ≤ i → i < length ps →
    Occurs (get_or ps i d).rank (ranks_in (drop start ps))
occurs_from [] start i d le lt = absurd (omega arith)
occurs_from (p ∷ ps) zero zero d le lt = inl refl
occurs_from (p ∷ ps) zero (suc i) d le lt = inr (occurs_from ps zero i d (omega arith) (omega arith))
occurs_from (p ∷ ps) (suc start) zero d le lt = absurd (omega arith)
occurs_from (p ∷ ps) (suc start) (suc i) d le lt = occurs_from ps start i d (omega arith) (omega arith)

-- one rank more, above all
rising_more : (xs : List ℕ) (k : ℕ) → Rising xs → AllByRecursion (λ x. x < k) xs → Rising (xs ++ (k ∷ []))
rising_more [] k h l = (tt, tt)
rising_more (x ∷ xs) k (h, hs) (l, ls) = (all_append (λ y. x < y) xs (k ∷ []) h (l, tt), rising_more xs k hs ls)

-- ranks that rise are all below k where the last is
pub all_lower : (ps : List Place) (k : ℕ) → Rising (ranks_in ps) →
    ((d : Place) (j : ℕ) → j + 1 ≡ length ps → (get_or ps j d).rank < k) → AllByRecursion (λ p. p.rank < k) ps
all_lower [] k h last = tt
all_lower (p ∷ []) k h last = (last p zero (omega arith), tt)
all_lower (p ∷ q ∷ ps) k ((pq, h), hs) last =
    let rest : AllByRecursion (λ r. r.rank < k) (q ∷ ps) =
    all_lower (q ∷ ps) k hs (λ d j e. last d (suc j) (omega (arith, e))) in
    (omega (arith, pq, rest.0), rest)

module _ (c : Listing) (h : IsCertificate c) (key : Key) (i : ℕ) (entries : List Place) (start : ℕ)
    (checked : IsChecked key c i entries start) (d : Column) (lt : i < length c.columns)
    (is : d ≡ get_or c.columns i d) where
  abbrev cs : List Column
  cs = c.columns

  e_is : key.e ≡ c.e
  e_is = ap (λ (k : Key). k.e) checked.key_is

  n_is : key.degree ≡ c.degree
  n_is = ap (λ (k : Key). k.degree) checked.key_is

  listed : IsListedColumn c.version c.e c.degree d
  listed = subst (IsListedColumn c.version c.e c.degree) (sym is)
      (all_at (IsListedColumn c.version c.e c.degree) cs i d h.each lt)

  -- the partition of the column is e-regular
  pub own_regular : IsRegularOf key.e key.degree d.mu
  own_regular = subst (λ n. IsRegularOf key.e n d.mu) (sym n_is)
      (subst (λ e. IsRegularOf e c.degree d.mu) (sym e_is) (regular_own c h i d lt is))

  -- its entries have the degree of the context
  pub own_degree : d.entries.degree ≡ key.degree
  own_degree = listed.degree ∙ sym n_is

  -- there are as many entries as columns before
  pub entry_count : length entries ≡ i
  entry_count =
      ap length checked.made ∙ length-map (take i cs) (entry_for key) ∙ length-take-le i cs (omega (arith, lt))

  -- the rank of an entry is that of its column
  entry_rank : (q : ℕ) (x : Place) → q < i → (get_or entries q x).rank ≡ rank_at c.e cs q
  entry_rank q x low =
      ap (λ (p : Place). p.rank)
      (ap (λ ps. get_or ps q x) checked.made
      ∙ get_or-map (entry_for key) (take i cs) q d x
      (omega (arith, low, length-take-le i cs (omega (arith, lt))))
      ∙ ap (entry_for key) (get_or-take i cs q d low))
      ∙ ap (λ e. rank_of e (get_or cs q d).mu) e_is
      ∙ ap (rank_of c.e) (sym (own_at c h q d (omega (arith, low, lt))))

  own_rank : rank_at c.e cs i ≡ rank_of key.e d.mu
  own_rank =
      ap (rank_of c.e) (own_at c h i d lt ∙ ap (λ (m : Column). m.mu) (sym is)) ∙ ap (λ e. rank_of e d.mu) (sym e_is)

  -- ---- what the columns before are

  prefix_rows : AllByRecursion (IsRowColumn key) (take i cs)
  prefix_rows = checked.rows

  module _ (k next : ℕ) (k_is : k ≡ rank_of key.e d.mu) (st : IsStart entries k start next) where
    starts_next : (q : ℕ) → q + 1 ≡ next → rank_at c.e cs next ≤ rank_at c.e cs q
    starts_next q e = settle st.moved
      where
        settle : (next ≡ start) ⊎ ((next ≡ length entries)
            × ((x : Place) → 0 < length entries → k ≤ (get_or entries (length entries - 1) x).rank)) →
            rank_at c.e cs next ≤ rank_at c.e cs q
        settle (inl s) = subst (λ m. rank_at c.e cs m ≤ rank_at c.e cs q) (sym s) (checked.starts q (e ∙ s))
        settle (inr (s, last)) =
            let at_end : next ≡ i = s ∙ entry_count in
            let q_is : length entries - 1 ≡ q = omega (arith, e, s) in
            let high : k ≤ (get_or entries q (entry_for key d)).rank =
            subst (λ m. k ≤ (get_or entries m (entry_for key d)).rank) q_is
            (last (entry_for key d) (omega (arith, e, s))) in
            let here : rank_at c.e cs next ≡ k = ap (rank_at c.e cs) at_end ∙ own_rank ∙ sym k_is in
            omega (arith, high, here, entry_rank q (entry_for key d) (omega (arith, e, at_end)))

    -- the entries that are looked up begin among those there are
    pub next_within : next ≤ i
    next_within = omega (arith, st.within, entry_count)

    -- its shares are as adopting wants them
    pub listed_shares : AreListedShares k d.shares
    listed_shares = subst (λ r. AreListedShares r d.shares) (sym (k_is ∙ ap (λ e. rank_of e d.mu) e_is)) listed.shares

    -- the entries that are looked up are earlier rows
    pub earlier_rows : AreEarlierRows key k (drop next entries)
    earlier_rows = record {
      of = all_from (λ p. p.key ≡ key) next entries
          (subst (AllByRecursion (λ p. p.key ≡ key)) (sym checked.made)
          (all_map (λ p. p.key ≡ key) (entry_for key) (take i cs)
          (all_every (λ c. key ≡ key) (take i cs) (λ c. refl))));
      rows = all_from (λ p. outcome_at p ≡ Row) next entries
          (subst (AllByRecursion (λ p. outcome_at p ≡ Row)) (sym checked.made)
          (all_map (λ p. outcome_at p ≡ Row) (entry_for key) (take i cs)
          (all_weaken (IsRowColumn key) (λ c. outcome_at (entry_for key c) ≡ Row) (take i cs) (λ c r. r.outcome)
          checked.rows)));
      lower = st.lower;
      rising = st.rising;
    }

    -- a share stands before its column
    before : (s : Share) → s.rank < k → (c.version ≡ 2 → SameContent c.e d.mu (label (key_of c.e c.degree 1) s.rank)) →
        IsShareBefore c h i s.rank
    before s low content =
        share_before c h i d lt is s (omega (arith, low, k_is, ap (λ e. rank_of e d.mu) e_is)) content

    has_rank : (s : Share) → IsShareBefore c h i s.rank → HasRank (drop next entries) s.rank
    has_rank s b = contains s.rank (ranks_in (drop next entries))
        (subst (λ r. Occurs r (ranks_in (drop next entries)))
        (entry_rank b.place (entry_for key d) b.lower ∙ b.is)
        (occurs_from entries next b.place (entry_for key d) (from_start (le_or_lt next b.place))
        (omega (arith, b.lower, entry_count))))
      where
        from_start : (next ≤ b.place) ⊎ (b.place < next) → next ≤ b.place
        from_start (inl le) = le
        from_start (inr low) =
            let back = starts_next (next - 1) (omega (arith, low)) in
            let one : next - 1 + 1 ≡ next = omega (arith, low) in
            let up : rank_at c.e cs (next - 1) < rank_at c.e cs next =
            subst (λ m. rank_at c.e cs (next - 1) < rank_at c.e cs m) one
            (b.chain (next - 1) (omega (arith, low)) (omega (arith, low, next_within))) in
            absurd (omega (arith, back, up))

    shares_before : AllByRecursion (λ s. IsShareBefore c h i s.rank) d.shares
    shares_before = by d.shares listed_shares.lower (λ two. (listed.content two).shares)
      where
        by : (ss : List Share) → AllByRecursion (λ s. s.rank < k) ss →
            (c.version ≡ 2 → AllByRecursion (λ s. SameContent c.e d.mu (label (key_of c.e c.degree 1) s.rank)) ss) →
            AllByRecursion (λ s. IsShareBefore c h i s.rank) ss
        by [] ls f = tt
        by (s ∷ ss) (l, ls) f = (before s l (λ two. (f two).0), by ss ls (λ two. (f two).1))

    -- each share has its entry among them
    pub have_ranks : AllByRecursion (λ s. HasRank (drop next entries) s.rank) d.shares
    have_ranks = all_weaken (λ s. IsShareBefore c h i s.rank) (λ s. HasRank (drop next entries) s.rank) d.shares
        has_rank shares_before

    -- ---- what is listed for the shares are their rows

    own_label : label key k ≡ d.mu
    own_label =
        ap (label key) k_is
        ∙ (ranked key.e key.degree d.mu (subst (λ e. 2 ≤ e) (sym e_is) h.e_least) own_regular).at

    listed_are_rows : Same (degree d.mu) (listed_in cs) (regular_row key.e) (factors_at key d.shares)
    listed_are_rows =
        all_map (λ a. (lambda : List ℕ) → IsPartitionOf (degree d.mu) lambda →
        listed_in cs a.0 lambda ≡ regular_row key.e a.0 lambda) (λ (s : Share). (label key s.rank, s.alpha)) d.shares
        (all_weaken (λ s. IsShareBefore c h i s.rank)
        (λ s. (lambda : List ℕ) → IsPartitionOf (degree d.mu) lambda →
        listed_in cs (label key s.rank) lambda ≡ regular_row key.e (label key s.rank) lambda) d.shares row_of
        shares_before)
      where
        row_of : (s : Share) → IsShareBefore c h i s.rank → (lambda : List ℕ) → IsPartitionOf (degree d.mu) lambda →
            listed_in cs (label key s.rank) lambda ≡ regular_row key.e (label key s.rank) lambda
        row_of s b lambda p =
            ap (λ xs. listed_in xs (label key s.rank) lambda) (sym (take-append-drop i cs))
            ∙ listed_row key (take i cs) (drop i cs) (label key s.rank) checked.rows
            (subst (λ m. Occurs m (map (λ c. c.mu) (take i cs))) at_place (occurs_in (take i cs) b.place d
            (omega (arith, b.lower, length-take-le i cs (omega (arith, lt))))))
            lambda (record { partition = p.partition; total = p.total ∙ own_regular.total })
          where
            occurs_in : (xs : List Column) (q : ℕ) (x : Column) → q < length xs →
                Occurs (get_or xs q x).mu (map (λ c. c.mu) xs)
            occurs_in [] q x l = absurd (omega arith)
            occurs_in (y ∷ xs) zero x l = inl refl
            occurs_in (y ∷ xs) (suc q) x l = inr (occurs_in xs q x (omega arith))

            column_regular : IsRegularOf key.e key.degree (get_or cs b.place d).mu
            column_regular = subst (λ n. IsRegularOf key.e n (get_or cs b.place d).mu) (sym n_is)
                (subst (λ e. IsRegularOf e c.degree (get_or cs b.place d).mu) (sym e_is)
                (subst (IsRegularOf c.e c.degree) (own_at c h b.place d (omega (arith, b.lower, lt)))
                (regular_at c h b.place (omega (arith, b.lower, lt)))))

            place_rank : rank_of key.e (get_or cs b.place d).mu ≡ s.rank
            place_rank =
                ap (λ e. rank_of e (get_or cs b.place d).mu) e_is
                ∙ ap (rank_of c.e) (sym (own_at c h b.place d (omega (arith, b.lower, lt)))) ∙ b.is

            at_place : (get_or (take i cs) b.place d).mu ≡ label key s.rank
            at_place =
                ap (λ (m : Column). m.mu) (get_or-take i cs b.place d b.lower)
                ∙ sym (ranked key.e key.degree (get_or cs b.place d).mu (subst (λ e. 2 ≤ e) (sym e_is) h.e_least)
                column_regular).at
                ∙ ap (label key) place_rank

    -- so what is said of the listed column with the rows is true of it with the listed columns
    weight_is : listed_weight key k d.shares ≡ column_weight key.e (listed_in cs) d.mu (factors_at key d.shares)
    weight_is =
        ap (λ m. column_weight key.e (regular_row key.e) m (factors_at key d.shares)) own_label
        ∙ sym (weights_alike key.e d.mu (listed_in cs) (regular_row key.e) (factors_at key d.shares) listed_are_rows)

    -- too large with the rows is too large with the listed columns
    pub large_column : key.limit < listed_weight key k d.shares → IsLarge key cs d
    large_column large = subst (λ m. key.limit < m) weight_is large

    -- and so is what fits
    pub fitting_column : listed_weight key k d.shares ≤ key.limit → Fits key cs d
    fitting_column fits = subst (λ m. m ≤ key.limit) weight_is fits

    -- what is right with the rows is right with the listed columns
    pub right_column : IsRightlyListed key k d.shares d.entries → IsRightColumn key cs d
    right_column right =
        right_alike key.e d.mu (regular_row key.e) (listed_in cs) (factors_at key d.shares)
        (vector_of d.entries.entries)
        (same_back (degree d.mu) (listed_in cs) (regular_row key.e) (factors_at key d.shares) listed_are_rows)
        (subst (λ m. IsRight key.e (regular_row key.e) m (factors_at key d.shares) (vector_of d.entries.entries))
        own_label right)

    -- and the other way round
    pub rightly_listed : IsRightColumn key cs d → IsRightlyListed key k d.shares d.entries
    rightly_listed right =
        subst (λ m. IsRight key.e (regular_row key.e) m (factors_at key d.shares) (vector_of d.entries.entries))
        (sym own_label)
        (right_alike key.e d.mu (listed_in cs) (regular_row key.e) (factors_at key d.shares)
        (vector_of d.entries.entries) listed_are_rows right)

    -- ---- the next step

    split : cs ≡ take i cs ++ (d ∷ drop (i + 1) cs)
    split =
        sym (take-append-drop (i + 1) cs)
        ∙ ap (λ xs. xs ++ drop (i + 1) cs) (take_more cs i d lt ∙ ap (λ x. take i cs ++ (x ∷ [])) (sym is))
        ∙ append_assoc (take i cs) (d ∷ []) (drop (i + 1) cs)

    -- a column that is too large is the first that fails
    pub fails_large : key.limit < listed_weight key k d.shares → FailsFirst (IsLarge key cs) key cs d.mu
    fails_large large = record {
      accepted = take i cs;
      failing = d;
      others = drop (i + 1) cs;
      place = split;
      before = checked.accepted;
      mu = refl;
      bad = large_column large;
    }

    -- so is one that is wrong
    pub fails_wrong : listed_weight key k d.shares ≤ key.limit → (IsRightlyListed key k d.shares d.entries → ⊥) →
        FailsFirst (IsWrong key cs) key cs d.mu
    fails_wrong fits wrong = record {
      accepted = take i cs;
      failing = d;
      others = drop (i + 1) cs;
      place = split;
      before = checked.accepted;
      mu = refl;
      bad = record { fits = fitting_column fits; wrong = λ right. wrong (rightly_listed right) };
    }

    taken : take (i + 1) cs ≡ take i cs ++ (d ∷ [])
    taken = take_more cs i d lt ∙ ap (λ x. take i cs ++ (x ∷ [])) (sym is)

    -- one more column is accepted
    pub checked_more : (entry : Place) → entry ≡ place key k → outcome_at (place key k) ≡ Row →
        d.entries ≡ fock_vector key.degree (regular_row key.e (label key k)) →
        d.shares ≡ given_shares key.e (label key k) 0 → listed_weight key k d.shares ≤ key.limit →
        IsRightlyListed key k d.shares d.entries → IsChecked key c (i + 1) (entries ++ (entry ∷ [])) next
    checked_more entry made outcome row shares fits right = record {
      key_is = checked.key_is;
      made =
          ap₂ (λ ps p. ps ++ (p ∷ [])) checked.made (made ∙ ap (place key) k_is)
          ∙ sym (ap (map (entry_for key)) taken ∙ map-append (entry_for key) (take i cs) (d ∷ []));
      accepted = subst (AllByRecursion (IsAccepted key cs)) (sym taken)
          (all_append (IsAccepted key cs) (take i cs) (d ∷ []) checked.accepted
          (record { fits = fitting_column fits; right = right_column right }, tt));
      rows = subst (AllByRecursion (IsRowColumn key)) (sym taken)
          (all_append (IsRowColumn key) (take i cs) (d ∷ []) checked.rows (
            record {
              outcome = ap (λ r. outcome_at (place key r)) (sym k_is) ∙ outcome;
              row = row ∙ ap (λ m. fock_vector key.degree (regular_row key.e m)) own_label;
              shares = shares ∙ ap (λ m. given_shares key.e m 0) own_label;
            },
            tt,
          ));
      within = omega (arith, next_within);
      rising = subst Rising (sym ranks)
          (rising_more (ranks_in (drop next entries)) entry.rank st.rising
          (all_map (λ x. x < entry.rank) (λ (p : Place). p.rank) (drop next entries)
          (subst (λ r. AllByRecursion (λ p. p.rank < r) (drop next entries)) (sym (ap (λ (p : Place). p.rank) made))
          st.lower)));
      starts = starts_next;
    }
      where
        ranks : ranks_in (drop next (entries ++ (entry ∷ []))) ≡ ranks_in (drop next entries) ++ (entry.rank ∷ [])
        ranks =
            ap ranks_in (drop-append-le next entries (entry ∷ []) st.within)
            ∙ map-append (λ (p : Place). p.rank) (drop next entries) (entry ∷ [])

-- the column that is read at a place
pub column_at : (c : Listing) (xs : List Column) (i : ℕ) (d : Column) → xs ≡ c.columns → d ≡ get_or xs i d →
    d ≡ get_or c.columns i d
column_at c xs i d same at = at ∙ ap (λ ys. get_or ys i d) same

-- all from a place on, as a slice tells it
pub rest_is : (n : ℕ) (ps : List Place) → take (length ps - n) (drop n ps) ≡ drop n ps
rest_is n ps = ap (λ m. take m (drop n ps)) (sym (length-drop n ps)) ∙ take-length (drop n ps)

-- ---- the start and the end

-- no column is tested at the start
pub checked_none : (key : Key) (c : Listing) (entries : List Place) → key ≡ key_of c.e c.degree key.limit →
    entries ≡ [] → IsChecked key c 0 entries 0
checked_none key c entries is none = record {
  key_is = is;
  made = none;
  accepted = tt;
  rows = tt;
  within = omega arith;
  rising = subst (λ ps. Rising (ranks_in ps)) (sym none) tt;
  starts = λ q e. absurd (omega (arith, e));
}

-- all columns have been passed
pub record IsWhole (key : Key) (c : Listing) (entries : List Place) : Type 0 where
  pub made : entries ≡ map (entry_for key) c.columns
  pub accepted : AllByRecursion (IsAccepted key c.columns) c.columns
  pub rows : AllByRecursion (IsRowColumn key) c.columns

-- all columns are accepted at the end
pub checked_all : (key : Key) (c : Listing) (i : ℕ) (entries : List Place) (start : ℕ) → i ≡ length c.columns →
    IsChecked key c i entries start → IsWhole key c entries
checked_all key c i entries start end h = record {
  made = h.made ∙ ap (map (entry_for key)) all;
  accepted = subst (AllByRecursion (IsAccepted key c.columns)) all h.accepted;
  rows = subst (AllByRecursion (IsRowColumn key)) all h.rows;
}
  where
    all : take i c.columns ≡ c.columns
    all = ap (λ m. take m c.columns) end ∙ take-length c.columns
