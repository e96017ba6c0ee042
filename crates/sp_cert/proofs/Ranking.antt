-- Ranks of the columns, and of the shares among them.
use Rattle.std.proofs.Common.{◌≡◌, ℕ, ◌+◌, ◌<◌, ◌≤◌, List, [], map, length, get_or, refl}
use Rattle.std.proofs.Common.{sym, ◌∙◌, ap, subst, arith}
use Rattle.std.specs.Ordering.{is_lt}
use Rattle.std.proofs.lemmas.List.{get_or-map, length-map}
use Rattle.sp_defs.specs.Partition.{degree, regulars, IsEarlier, IsRegularOf}
use Rattle.sp_defs.specs.Row.{before}
use Rattle.sp_defs.specs.Statements.{IsLabel, SameContent}
use Rattle.sp_lists.proofs.Places.{all_at}
use Rattle.sp_lists.proofs.Occurrence.{occurs_filter}
use Rattle.sp_shapes.proofs.Before.{before_before, Ascending-before}
use Rattle.sp_shapes.proofs.Listing.{all_regulars, each_regular, regulars_ascend}
use Rattle.sp_row_bounds.proofs.Shares.{fewer_before}
use Rattle.sp_outcome_law.proofs.Ranks.{at_rank, rank_within, rank_of as place_rank}
use Rattle.sp_llt.specs.declared.share.Share.{Share}
use Rattle.sp_llt.specs.Place.{label, key_of}
use Rattle.sp_llt.specs.Shares.{rank_of}
use Rattle.sp_cert.specs.declared.certificate.Column.{Column}
use Rattle.sp_cert.specs.Rules.{Listing, IsCertificate}
use Rattle.sp_cert.specs.Order.{columns_of}
use Rattle.sp_cert.specs.Checked.{rank_at}
use Rattle.sp_cert.proofs.Blocks.{IsAmong, IsLower, in_columns, lower_in, all_columns}
use Rattle.sp_shapes.proofs.Order.{ascends_at}

-- an earlier e-regular partition of n has a lower rank
pub rank_lower : (e n : ℕ) (nu mu : List ℕ) → IsRegularOf e n nu → IsRegularOf e n mu → IsEarlier nu mu →
    rank_of e nu < rank_of e mu
rank_lower e n nu mu hn hm lt =
    let fewer = fewer_before nu (before mu (regulars e (degree mu)))
    (Ascending-before mu (regulars e (degree mu)) (regulars_ascend e (degree mu)))
    (occurs_filter _ nu (regulars e (degree mu)) (ap is_lt lt)
    (each_regular e (degree mu) nu (subst (λ d. IsRegularOf e d nu) (sym hm.total) hn))) in
    let same = ap length (before_before nu mu (regulars e (degree mu)) lt
    ∙ ap (λ d. before nu (regulars e d)) (hm.total ∙ sym hn.total)) in
    omega (arith, fewer, same)

-- the partition of a rank, and the rank of a partition
pub record IsRanked (e n : ℕ) (mu : List ℕ) : Type 0 where
  pub within : rank_of e mu < length (regulars e n)
  pub at : get_or (regulars e n) (rank_of e mu) [] ≡ mu

-- an e-regular partition of n stands at its rank
pub ranked : (e n : ℕ) (mu : List ℕ) → 2 ≤ e → IsRegularOf e n mu → IsRanked e n mu
ranked e n mu least h = record {
  within = subst (λ d. rank_of e mu < length (regulars e d)) h.total (rank_within e mu is);
  at = subst (λ d. get_or (regulars e d) (rank_of e mu) [] ≡ mu) h.total (at_rank e mu is []);
}
  where
    is : IsLabel e mu
    is = record { e_least = least; partition = h.partition; regular = h.regular }

-- ---- the columns of a certificate

-- the partition of a column
abbrev pub own : Column → List ℕ
own c = c.mu

module _ (c : Listing) (h : IsCertificate c) where
  -- there are as many columns as partitions in the order
  pub count : length (columns_of c.version c.e c.degree) ≡ length c.columns
  count = ap length (sym h.order) ∙ length-map c.columns own

  -- each column is at an e-regular partition of n
  pub regular_at : (i : ℕ) → i < length c.columns → IsRegularOf c.e c.degree (get_or (map own c.columns) i [])
  regular_at i lt =
      subst (λ xs. IsRegularOf c.e c.degree (get_or xs i [])) (sym h.order)
      (all_at (IsRegularOf c.e c.degree) (columns_of c.version c.e c.degree) i []
      (all_columns c.e c.degree c.version) (omega (arith, lt, count)))

  -- the partition of a column, and of one at a place
  pub own_at : (i : ℕ) (d : Column) → i < length c.columns → get_or (map own c.columns) i [] ≡ (get_or c.columns i d).mu
  own_at i d lt = get_or-map own c.columns i d [] lt

  -- so is the column that stands at a place
  pub regular_own : (i : ℕ) (d : Column) → i < length c.columns → d ≡ get_or c.columns i d →
      IsRegularOf c.e c.degree d.mu
  regular_own i d lt is =
      subst (λ (m : Column). IsRegularOf c.e c.degree m.mu) (sym is)
      (subst (IsRegularOf c.e c.degree) (own_at i d lt) (regular_at i lt))

  -- The rank of a share stands before its column, and from there on the ranks ascend.
  pub record IsShareBefore (i rank : ℕ) : Type 0 where
    pub place : ℕ
    pub lower : place < i
    pub is : rank_at c.e c.columns place ≡ rank
    pub chain : (q : ℕ) → place ≤ q → q < i → rank_at c.e c.columns q < rank_at c.e c.columns (q + 1)

  -- the rank of each share stands before its column
  pub share_before : (i : ℕ) (d : Column) → i < length c.columns → d ≡ get_or c.columns i d → (s : Share) →
      s.rank < rank_of c.e d.mu →
      (c.version ≡ 2 → SameContent c.e d.mu (label (key_of c.e c.degree 1) s.rank)) → IsShareBefore i s.rank
  share_before i d lt is s low content = record {
    place = b.place;
    lower = b.lower;
    is = ap (rank_of c.e) (ap (λ xs. get_or xs b.place []) h.order ∙ b.is)
        ∙ sym (place_rank c.e c.degree s.rank nu [] s_within refl regular.total);
    chain = λ q lo hi. rank_lower c.e c.degree (get_or (map own c.columns) q []) (get_or (map own c.columns) (q + 1) [])
        (regular_at q (omega (arith, hi, lt))) (regular_at (q + 1) (omega (arith, hi, lt)))
        (subst (λ xs. IsEarlier (get_or xs q []) (get_or xs (q + 1) [])) (sym h.order) (b.chain q lo hi));
  }
    where
      nu : List ℕ
      nu = get_or (regulars c.e c.degree) s.rank []

      own_ranked : IsRanked c.e c.degree d.mu
      own_ranked = ranked c.e c.degree d.mu h.e_least (regular_own i d lt is)

      s_within : s.rank < length (regulars c.e c.degree)
      s_within = omega (arith, low, own_ranked.within)

      regular : IsRegularOf c.e c.degree nu
      regular = all_at (IsRegularOf c.e c.degree) (regulars c.e c.degree) s.rank [] (all_regulars c.e c.degree) s_within

      before_own : IsEarlier nu d.mu
      before_own = subst (IsEarlier nu) own_ranked.at
          (ascends_at (regulars c.e c.degree) (regulars_ascend c.e c.degree) s.rank (rank_of c.e d.mu) low
          own_ranked.within)

      d_is : get_or (columns_of c.version c.e c.degree) i [] ≡ d.mu
      d_is = ap (λ xs. get_or xs i []) (sym h.order) ∙ own_at i d lt ∙ ap own (sym is)

      b : IsLower (columns_of c.version c.e c.degree) i nu
      b = lower_in (IsAmong c.version c.e c.degree) (columns_of c.version c.e c.degree) i
          (in_columns c.e c.degree c.version i h.version_least h.version_most (omega (arith, lt, count))) nu
          (record { regular = regular; content = λ two. subst (λ m. SameContent c.e m nu) (sym d_is) (content two) })
          (subst (IsEarlier nu) (sym d_is) before_own)
