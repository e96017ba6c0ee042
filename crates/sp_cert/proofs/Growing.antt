-- A column that grows by a share or an entry keeps its rules.
use Rattle.std.proofs.Common.{◌≡◌, ◌≢◌, ℕ, ◌-◌, ◌<◌, ◌≤◌, Bool, true, false, nat_eq, nat_lt, ◌&&◌, ◌||◌, List, []}
use Rattle.std.proofs.Common.{◌∷◌, ◌++◌, map, length, reverse, refl, sym, ◌∙◌, ap, subst, arith}
use Rattle.std.proofs.Common.{suc, Some, Vec, Global, Ordering, Less, Equal, Greater}
use Rattle.std.proofs.lemmas.Bool.{and_parts, ltb-true}
use Rattle.std.proofs.lemmas.List.{map-append, reverse-append}
use Rattle.std.specs.List.{AllByRecursion, slice_get}
use Rattle.std.specs.Ordering.{is_lt}
use Rattle.sp_defs.specs.Laurent.{Laurent}
use Rattle.sp_defs.specs.Partition.{degree, compare, IsEarlier, Ascending, IsPartitionOf, IsRegularOf, is_regular}
use Rattle.sp_defs.specs.Power.{Entries}
use Rattle.sp_defs.specs.Statements.{SameContent}
use Rattle.sp_defs.specs.Within.{PowersWithin}
use Rattle.sp_laurent.specs.Readable.{IsReadable, read_limit}
use Rattle.sp_partition.specs.Held.{IsHeld as IsHeldPartition}
use Rattle.sp_partition.specs.declared.TheConstants.{CAPACITY, DEGREE_LIMIT}
use Rattle.sp_fock.specs.Held.{IsHeld}
use Rattle.sp_laurent.proofs.Terms.{readable_held}
use Rattle.sp_lists.proofs.Elements.{all_append}
use Rattle.sp_lists.proofs.Places.{all_weaken}
use Rattle.sp_shapes.proofs.Order.{less_trans}
use Rattle.sp_llt.specs.declared.share.Share.{Share}
use Rattle.sp_llt.specs.Place.{key_of, label}
use Rattle.sp_llt.specs.Shares.{rank_of, ranked_share}
use Rattle.sp_llt.specs.Adopting.{Falling, AreListedShares, listed_powers}
use Rattle.sp_cert.specs.declared.certificate.Column.{Column}
use Rattle.sp_cert.specs.declared.draft.Header.{Header}
use Rattle.sp_cert.specs.declared.draft.Begun.{Begun}
use Rattle.sp_cert.specs.Drafts.{IsHeader, IsBegun, column_of}
use Rattle.sp_cert.specs.Order.{same_content}
use Rattle.sp_cert.specs.Rules.{IsListedColumn}
use Rattle.sp_cert.specs.Grammar.{last_rank, is_below, has_no_entry, has_content, is_next_share, is_next_entry}
use Rattle.sp_cert.specs.Grammar.{with_share, with_entry, new_column}
use Rattle.sp_cert.proofs.Residues.{contents_same}
use Rattle.sp_cert.proofs.Ranking.{ranked}

-- ---- ranks that fall

-- A list that falls still falls with a number behind it that is less than all.
falling_more : (ks : List ℕ) (k : ℕ) → Falling ks → AllByRecursion (λ j. k < j) ks → Falling (ks ++ (k ∷ []))
falling_more [] k h low = (tt, tt)
falling_more (j ∷ ks) k (h, hs) (lt, lts) =
    (all_append (λ i. i < j) ks (k ∷ []) h (lt, tt), falling_more ks k hs lts)

abbrev ranks : List Share → List ℕ
ranks shares = map (λ s. s.rank) shares

lower_shares : (j : ℕ) (ss : List Share) → AllByRecursion (λ i. i < j) (ranks ss) → AllByRecursion (λ s. s.rank < j) ss
lower_shares j [] h = tt
lower_shares j (s ∷ ss) (h, hs) = (h, lower_shares j ss hs)

-- The last rank is at most the one that the shares are below.
last_within : (k : ℕ) (shares : List Share) → AllByRecursion (λ s. s.rank < k) shares → Falling (ranks shares) →
    last_rank k shares ≤ k
last_within k [] h f = omega arith
last_within k (s ∷ shares) (lt, lts) (f, fs) =
    let le = last_within s.rank shares (lower_shares s.rank shares f) fs in omega (arith, le, lt)

-- What is less than the last rank is less than all.
below_last : (k j : ℕ) (shares : List Share) → k < last_rank j shares → Falling (ranks shares) →
    AllByRecursion (λ i. k < i) (ranks shares)
below_last k j [] lt f = tt
below_last k j (s ∷ shares) lt (f, fs) =
    let le = last_within s.rank shares (lower_shares s.rank shares f) fs in
    (omega (arith, le, lt), below_last k s.rank shares lt fs)

-- ---- powers

-- What is read is listed: both limits are one number.
pub powers_listed : (p : Laurent) → PowersWithin read_limit p → PowersWithin listed_powers p
powers_listed p h = h

-- ---- a share more

pub listed_share : (k : ℕ) (shares : List Share) (s : Share) → AreListedShares k shares → s.rank < last_rank k shares →
    s.alpha ≢ [] → IsReadable s.alpha → AreListedShares k (shares ++ (s ∷ []))
listed_share k shares s h lt nonzero readable = record {
  lower = all_append (λ t. t.rank < k) shares (s ∷ []) h.lower (omega (arith, lt, within), tt);
  falling = subst Falling (sym (map-append (λ (t : Share). t.rank) shares (s ∷ [])))
      (falling_more (ranks shares) s.rank h.falling (below_last s.rank k shares lt h.falling));
  nonzero = all_append (λ t. t.alpha ≢ []) shares (s ∷ []) h.nonzero (nonzero, tt);
  powers = all_append (λ t. PowersWithin listed_powers t.alpha) shares (s ∷ []) h.powers
      (powers_listed s.alpha readable.powers, tt);
}
  where
    within : last_rank k shares ≤ k
    within = last_within k shares h.lower h.falling

-- ---- contents

-- In version 2 the test of the content passes only where it is that of the column.
content_held : (version e : ℕ) (mu nu : List ℕ) → 1 ≤ e → has_content version e mu nu ≡ true → version ≡ 2 →
    SameContent e mu nu
content_held version e mu nu least h two =
    contents_same e mu nu least (subst (λ v. (nat_eq v 1 || same_content e mu nu) ≡ true) two h)

-- ---- columns

-- A column without shares and entries keeps the rules.
new_listed : (version e n : ℕ) (mu : List ℕ) → IsListedColumn version e n (new_column n mu)
new_listed version e n mu = record {
  degree = refl;
  shares = record { lower = tt; falling = tt; nonzero = tt; powers = tt };
  powers = tt;
  content = λ two. record { shares = tt; entries = tt };
}

-- A column with one share more, where it is allowed, keeps them.
pub share_listed : (version e n : ℕ) (c : Column) (nu : List ℕ) (alpha : Laurent) → 2 ≤ e →
    IsListedColumn version e n c → is_next_share version e c nu ≡ true → IsPartitionOf n nu → alpha ≢ [] →
    IsReadable alpha → IsListedColumn version e n (with_share e c (nu, alpha))
share_listed version e n c nu alpha least h allowed partition nonzero readable = record {
  degree = h.degree;
  shares = listed_share (rank_of e c.mu) c.shares (ranked_share e (nu, alpha)) h.shares lower nonzero readable;
  powers = h.powers;
  content = λ two. record {
    shares = all_append (λ s. SameContent e c.mu (label (key_of e n 1) s.rank)) c.shares
        (ranked_share e (nu, alpha) ∷ []) (h.content two).shares
        (subst (SameContent e c.mu) (sym at) (content_held version e c.mu nu (omega (arith, least)) third.1 two), tt);
    entries = (h.content two).entries;
  };
}
  where
    first : (has_no_entry c.entries.entries ≡ true) × ((is_regular e nu
        && (nat_lt (rank_of e nu) (last_rank (rank_of e c.mu) c.shares) && has_content version e c.mu nu)) ≡ true)
    first = and_parts (has_no_entry c.entries.entries) _ allowed

    second : (is_regular e nu ≡ true)
        × ((nat_lt (rank_of e nu) (last_rank (rank_of e c.mu) c.shares) && has_content version e c.mu nu) ≡ true)
    second = and_parts (is_regular e nu) _ first.1

    third : (nat_lt (rank_of e nu) (last_rank (rank_of e c.mu) c.shares) ≡ true)
        × (has_content version e c.mu nu ≡ true)
    third = and_parts (nat_lt (rank_of e nu) (last_rank (rank_of e c.mu) c.shares)) _ second.1

    lower : rank_of e nu < last_rank (rank_of e c.mu) c.shares
    lower = ltb-true (rank_of e nu) (last_rank (rank_of e c.mu) c.shares) third.0

    at : label (key_of e n 1) (rank_of e nu) ≡ nu
    at = (ranked e n nu least
        (record { partition = partition.partition; total = partition.total; regular = second.0 })).at

-- A column with one entry more, where it is allowed, keeps them.
pub entry_listed : (version e n : ℕ) (c : Column) (lambda : List ℕ) (p : Laurent) → 2 ≤ e →
    IsListedColumn version e n c → is_next_entry version e c lambda ≡ true → IsReadable p →
    IsListedColumn version e n (with_entry c (lambda, p))
entry_listed version e n c lambda p least h allowed readable = record {
  degree = h.degree;
  shares = h.shares;
  powers = (powers_listed p readable.powers, h.powers);
  content = λ two. record {
    shares = (h.content two).shares;
    entries = (content_held version e c.mu lambda (omega (arith, least)) parts.1 two, (h.content two).entries);
  };
}
  where
    parts : (is_below lambda c.entries.entries ≡ true) × (has_content version e c.mu lambda ≡ true)
    parts = and_parts (is_below lambda c.entries.entries) (has_content version e c.mu lambda) allowed

-- ---- vectors

-- The test of the order passes only where the first is earlier.
earlier_test : (lambda mu : List ℕ) → is_lt (compare lambda mu) ≡ true → IsEarlier lambda mu
earlier_test lambda mu h = by (compare lambda mu) refl h
  where
    by : (o : Ordering) → compare lambda mu ≡ o → is_lt o ≡ true → compare lambda mu ≡ Less
    by Less is k = is
    by Equal is k = absurd (cc)
    by Greater is k = absurd (cc)

-- A partition below the first of an ascending list is below all.
below_all : (lambda : List ℕ) (es : Entries) → is_below lambda es ≡ true → Ascending (map (λ t. t.0) es) →
    AllByRecursion (IsEarlier lambda) (map (λ t. t.0) es)
below_all lambda [] h up = tt
below_all lambda (t ∷ es) h (u, us) =
    let lt = earlier_test lambda t.0 h in (
      lt,
      all_weaken (IsEarlier t.0) (IsEarlier lambda) (map (λ t. t.0) es)
          (λ x later. less_trans lambda t.0 x lt later) u,
    )

-- A vector with one entry more in front, at a partition below all, is held.
pub entry_held : (n : ℕ) (es : Entries) (lambda : List ℕ) (p : Laurent) → n ≤ DEGREE_LIMIT →
    IsHeld (record { degree = n; entries = es }) → is_below lambda es ≡ true → IsPartitionOf n lambda → p ≢ [] →
    IsReadable p → IsHeld (record { degree = n; entries = (lambda, p) ∷ es })
entry_held n es lambda p small h below partition nonzero readable = record {
  vector = record {
    partitions_of = (partition, h.vector.partitions_of);
    ascending = (below_all lambda es below h.vector.ascending, h.vector.ascending);
    polynomials = ((readable.laurent, nonzero), h.vector.polynomials);
  };
  pairs = ((held, readable_held p readable), h.pairs);
}
  where
    within : degree lambda ≤ CAPACITY
    within = omega (arith, small, partition.total)

    held : IsHeldPartition lambda
    held = record { partition = partition.partition; small = within }

-- ---- a column that can go on

-- One that was begun just now.
pub new_begun : (h : Header) (b : Begun) → IsRegularOf h.e h.degree b.mu → b.rank ≡ rank_of h.e b.mu →
    column_of h.degree b ≡ new_column h.degree b.mu → IsBegun h b
new_begun h b regular rank is = record {
  regular = regular;
  rank = rank;
  listed = subst (IsListedColumn h.version h.e h.degree) (sym is) (new_listed h.version h.e h.degree b.mu);
  held = subst (λ (c : Column). IsHeld c.entries) (sym is) (record {
    vector = record { partitions_of = tt; ascending = tt; polynomials = tt };
    pairs = tt;
  });
}

-- One with a share more.
pub share_begun : (h : Header) (b d : Begun) (nu : List ℕ) (alpha : Laurent) → IsHeader h → IsBegun h b →
    is_next_share h.version h.e (column_of h.degree b) nu ≡ true → IsPartitionOf h.degree nu → alpha ≢ [] →
    IsReadable alpha → d.rank ≡ b.rank →
    column_of h.degree d ≡ with_share h.e (column_of h.degree b) (nu, alpha) → IsBegun h d
share_begun h b d nu alpha header begun allowed partition nonzero readable rank is = record {
  regular = subst (IsRegularOf h.e h.degree) (sym mu) begun.regular;
  rank = rank ∙ begun.rank ∙ ap (rank_of h.e) (sym mu);
  listed = subst (IsListedColumn h.version h.e h.degree) (sym is)
      (share_listed h.version h.e h.degree (column_of h.degree b) nu alpha header.e_least begun.listed allowed partition
      nonzero readable);
  held = subst (λ (c : Column). IsHeld c.entries) (sym is) begun.held;
}
  where
    mu : d.mu ≡ b.mu
    mu = ap (λ (c : Column). c.mu) is

-- One with an entry more.
pub entry_begun : (h : Header) (b d : Begun) (lambda : List ℕ) (p : Laurent) → IsHeader h → IsBegun h b →
    is_next_entry h.version h.e (column_of h.degree b) lambda ≡ true → IsPartitionOf h.degree lambda → p ≢ [] →
    IsReadable p → d.rank ≡ b.rank →
    column_of h.degree d ≡ with_entry (column_of h.degree b) (lambda, p) → IsBegun h d
entry_begun h b d lambda p header begun allowed partition nonzero readable rank is = record {
  regular = subst (IsRegularOf h.e h.degree) (sym mu) begun.regular;
  rank = rank ∙ begun.rank ∙ ap (rank_of h.e) (sym mu);
  listed = subst (IsListedColumn h.version h.e h.degree) (sym is)
      (entry_listed h.version h.e h.degree (column_of h.degree b) lambda p header.e_least begun.listed allowed
      readable);
  held = subst (λ (c : Column). IsHeld c.entries) (sym is)
      (entry_held h.degree (column_of h.degree b).entries.entries lambda p header.degree begun.held
      (and_parts (is_below lambda (column_of h.degree b).entries.entries) _ allowed).0 partition nonzero readable);
}
  where
    mu : d.mu ≡ b.mu
    mu = ap (λ (c : Column). c.mu) is

-- ---- the last rank, in the list

-- The rank of the share at the last place.
pub last_is : (k : ℕ) (shares : List Share) (s : Share) → slice_get shares (length shares - 1) ≡ Some s →
    s.rank ≡ last_rank k shares
last_is k [] s h = absurd (cc)
last_is k (x ∷ []) s h = let same : x ≡ s = cc in ap (λ (t : Share). t.rank) (sym same)
last_is k (x ∷ y ∷ shares) s h =
    let e : length (x ∷ y ∷ shares) - 1 ≡ suc (length (y ∷ shares) - 1) = omega arith in
    last_is x.rank (y ∷ shares) s (sym (ap (slice_get (x ∷ y ∷ shares)) e) ∙ h)

-- ---- the test of a share

and_false : (b : Bool) → (b && false) ≡ false
and_false true = refl
and_false false = refl

-- A partition that isn't e-regular has no share.
pub share_none : (version e : ℕ) (c : Column) (nu : List ℕ) → is_regular e nu ≡ false →
    is_next_share version e c nu ≡ false
share_none version e c nu h =
    ap (λ b. has_no_entry c.entries.entries
    && (b && (nat_lt (rank_of e nu) (last_rank (rank_of e c.mu) c.shares) && has_content version e c.mu nu))) h
    ∙ and_false (has_no_entry c.entries.entries)

-- What is left to test of one that is.
pub share_test : (version e k r : ℕ) (c : Column) (nu : List ℕ) → is_regular e nu ≡ true → k ≡ rank_of e nu →
    r ≡ rank_of e c.mu →
    (has_no_entry c.entries.entries && (nat_lt k (last_rank r c.shares) && has_content version e c.mu nu))
    ≡ is_next_share version e c nu
share_test version e k r c nu h k_is r_is =
    ap (λ j. has_no_entry c.entries.entries && (nat_lt j (last_rank r c.shares) && has_content version e c.mu nu)) k_is
    ∙ ap (λ q. has_no_entry c.entries.entries
    && (nat_lt (rank_of e nu) (last_rank q c.shares) && has_content version e c.mu nu)) r_is
    ∙ ap (λ b. has_no_entry c.entries.entries
    && (b && (nat_lt (rank_of e nu) (last_rank (rank_of e c.mu) c.shares) && has_content version e c.mu nu))) (sym h)

-- ---- what is pushed

-- A share behind the others.
pub share_pushed : (h : Header) (b : Begun) (shares : Vec Share Global) (nu : List ℕ) (alpha : Laurent) (k : ℕ) →
    shares.items ≡ b.shares.items ++ (record { rank = k; alpha = alpha } ∷ []) → k ≡ rank_of h.e nu → IsHeader h →
    IsBegun h b → is_next_share h.version h.e (column_of h.degree b) nu ≡ true → IsPartitionOf h.degree nu →
    alpha ≢ [] → IsReadable alpha →
    IsBegun h (record { mu = b.mu; rank = b.rank; shares = shares; entries = b.entries })
share_pushed h b shares nu alpha k is k_is header begun allowed partition nonzero readable =
    share_begun h b (record { mu = b.mu; rank = b.rank; shares = shares; entries = b.entries }) nu alpha header begun
    allowed partition nonzero readable refl
    (ap with_shares (is ∙ ap (λ r. b.shares.items ++ (record { rank = r; alpha = alpha } ∷ [])) k_is))
  where
    with_shares : List Share → Column
    with_shares xs = record {
      mu = b.mu;
      shares = xs;
      entries = record { degree = h.degree; entries = reverse b.entries.items };
    }

-- An entry behind the others.
pub entry_pushed : (h : Header) (b : Begun) (pairs : Vec (List ℕ × Laurent) Global) (lambda : List ℕ) (p : Laurent) →
    pairs.items ≡ b.entries.items ++ ((lambda, p) ∷ []) → IsHeader h → IsBegun h b →
    is_next_entry h.version h.e (column_of h.degree b) lambda ≡ true → IsPartitionOf h.degree lambda → p ≢ [] →
    IsReadable p → IsBegun h (record { mu = b.mu; rank = b.rank; shares = b.shares; entries = pairs })
entry_pushed h b pairs lambda p is header begun allowed partition nonzero readable =
    entry_begun h b (record { mu = b.mu; rank = b.rank; shares = b.shares; entries = pairs }) lambda p header begun
    allowed partition nonzero readable refl
    (ap (λ es. record {
      mu = b.mu;
      shares = b.shares.items;
      entries = record { degree = h.degree; entries = es };
    }) (ap reverse is ∙ reverse-append b.entries.items ((lambda, p) ∷ [])))
