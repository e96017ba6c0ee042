-- The law of rows: the ladder vectors of the e-regular partitions are a triangle, and the algebra of triangles gives
-- the regular row, its uniqueness, and the shares.
use Rattle.std.proofs.Common.{◌≡◌, ◌≢◌, ℕ, List, [], ◌∷◌, ◌++◌, map}
use Rattle.std.proofs.Common.{refl, sym, ◌∙◌, ap, ap₂, subst, Ordering, Less, Equal, Greater}
use Rattle.std.proofs.Common.{ℤ, pos, ◌≤ℤ◌}
use Rattle.std.specs.List.{AllByRecursion}
use Rattle.sp_defs.specs.Partition.{degree, IsPartition, compare, regulars}
use Rattle.sp_defs.specs.Laurent.{Laurent, coefficient, collect, one, plus, IsBarInvariant}
use Rattle.sp_defs.specs.Laurent.{IsPositive, sum_over}
use Rattle.sp_defs.specs.Power.{Vector}
use Rattle.sp_defs.specs.Ladder.{ladder_vector}
use Rattle.sp_defs.specs.Row.{Factors, combination, earlier, factors, shares_over, regular_row, shares, InSpan}
use Rattle.sp_defs.specs.Statements.{IsLabel, PositiveElsewhere, RowFacts, RowsLaw}
use Rattle.std.proofs.Common.{append_assoc}
use Rattle.std.proofs.lemmas.List.{map-append}
use Rattle.sp_lists.proofs.Elements.{all_append, all_both}
use Rattle.sp_shapes.proofs.Order.{less_trans, equal_self, same_lists}
use Rattle.sp_shapes.proofs.Before.{all_before, after, kept_after}
use Rattle.sp_algebra.proofs.Laws.{plus_nought, nought_plus, nought_times, bar_invariant-nought}
use Rattle.sp_triangle.proofs.Triangle.{combination-append, IsLaurent-combination, keys-factors}
use Rattle.sp_triangle.proofs.Triangle.{invariant-factors, row_at_mu, row_later, row_positive, same_factors}
use Rattle.sp_triangle.proofs.Shares.{rows, keys-shares, invariant-shares, from_keys, shares_sum, only_shares}
use Rattle.sp_shapes.proofs.Listing.{all_regulars, regulars_ascend}
use Rattle.sp_row_law.proofs.Setting.{Good, IsBefore, good, good_earlier, earlier_before, earlier_ascends, cut}
use Rattle.sp_row_law.proofs.Setting.{triangle}
use Rattle.sp_row_law.proofs.Setting.{rows_same, IsLaurent-ladder_vector}
use Rattle.sp_lists.proofs.Places.{all_weaken}

-- ---- factors that are 0

zeros : List (List ℕ) → Factors
zeros rs = map (λ nu. (nu, [])) rs

keys-zeros : (rs : List (List ℕ)) → map (λ f. f.0) (zeros rs) ≡ rs
unfolding zeros
keys-zeros [] = refl
keys-zeros (nu ∷ rs) = ap (λ r. nu ∷ r) (keys-zeros rs)

invariant-zeros : (rs : List (List ℕ)) → AllByRecursion (λ f. IsBarInvariant f.1) (zeros rs)
unfolding zeros
invariant-zeros [] = tt
invariant-zeros (nu ∷ rs) = (bar_invariant-nought, invariant-zeros rs)

combination-zeros : (A : List ℕ → Vector) (rs : List (List ℕ)) (lambda : List ℕ) → combination A (zeros rs) lambda ≡ []
unfolding zeros combination sum_over collect
combination-zeros A [] lambda = refl
combination-zeros A (nu ∷ rs) lambda =
    ap₂ (λ a b. plus a b) (nought_times (A nu lambda)) (combination-zeros A rs lambda) ∙ nought_plus [] refl

-- ---- one at mu, and positive powers elsewhere, leave the coefficients up to the power 0

agree_all : (v w : Vector) (mu : List ℕ) (rs : List (List ℕ)) → v mu ≡ one → w mu ≡ one →
    AllByRecursion (λ nu. nu ≢ mu → IsPositive (v nu)) rs → AllByRecursion (λ nu. nu ≢ mu → IsPositive (w nu)) rs →
    AllByRecursion (λ nu. (j : ℤ) → j ≤ℤ pos 0 → coefficient (v nu) j ≡ coefficient (w nu) j) rs
agree_all v w mu [] a b p q = tt
agree_all v w mu (nu ∷ rs) a b (p, ps) (q, qs) = (here (compare nu mu) refl, agree_all v w mu rs a b ps qs)
  where
    other : (o : Ordering) → compare nu mu ≡ o → o ≢ Equal → nu ≢ mu
    other o e ne same = ne (sym e ∙ subst (λ x. compare nu x ≡ Equal) same (equal_self nu))

    here : (o : Ordering) → compare nu mu ≡ o → (j : ℤ) → j ≤ℤ pos 0 → coefficient (v nu) j ≡ coefficient (w nu) j
    here Equal e j low =
        let s : nu ≡ mu = same_lists nu mu e in
        ap (λ x. coefficient (v x) j) s ∙ ap (λ x. coefficient x j) (a ∙ sym b) ∙ ap (λ x. coefficient (w x) j) (sym s)
    here Less e j low = let ne : nu ≢ mu = other Less e (λ z. cc) in p ne j low ∙ sym (q ne j low)
    here Greater e j low = let ne : nu ≢ mu = other Greater e (λ z. cc) in p ne j low ∙ sym (q ne j low)

-- ---- the row of one label

module _ (e : ℕ) (mu : List ℕ) (is : IsLabel e mu) where
  abbrev A : List ℕ → Vector
  A = ladder_vector e

  -- the e-regular partitions of mu's degree: those before mu, mu, and those after it
  abbrev rs : List (List ℕ)
  rs = regulars e (degree mu)

  abbrev seg : List (List ℕ)
  seg = earlier e mu

  abbrev past : List (List ℕ)
  past = after mu rs

  good_past : AllByRecursion (Good e mu) past
  good_past = kept_after (Good e mu) mu rs (all_regulars e (degree mu))

  -- ---- the row is in the span: its factors, and 0 after mu

  full : Factors
  full = factors A mu seg ++ zeros past

  full_keys : map (λ f. f.0) full ≡ rs
  unfolding full
  full_keys =
      map-append (λ f. f.0) (factors A mu seg) (zeros past)
      ∙ ap₂ (λ x y. x ++ y) (keys-factors A mu seg) (keys-zeros past)
      ∙ append_assoc seg (mu ∷ []) past
      ∙ sym (cut e mu is).whole

  full_invariant : AllByRecursion (λ f. IsBarInvariant f.1) full
  unfolding full
  full_invariant = all_append (λ f. IsBarInvariant f.1) (factors A mu seg) (zeros past)
      (invariant-factors A mu seg) (invariant-zeros past)

  full_row : (lambda : List ℕ) → regular_row e mu lambda ≡ combination A full lambda
  unfolding full regular_row
  full_row lambda = sym
      (combination-append A (factors A mu seg) (zeros past) lambda
      ∙ ap (plus (combination A (factors A mu seg) lambda)) (combination-zeros A past lambda)
      ∙ plus_nought (combination A (factors A mu seg) lambda) (IsLaurent-combination A (factors A mu seg) lambda))

  -- ---- 1 at mu, and positive powers at the others

  own : regular_row e mu mu ≡ one
  unfolding regular_row
  own = row_at_mu (Good e mu) A (triangle e mu is) mu seg (good e mu is) (good_earlier e mu) (all_before mu rs)

  later_nought : (nu : List ℕ) → Good e mu nu → compare mu nu ≡ Less → regular_row e mu nu ≡ []
  unfolding regular_row
  later_nought nu g h = row_later (Good e mu) A (triangle e mu is) mu seg nu (good e mu is) (good_earlier e mu) g h
      (all_weaken (λ x. compare x mu ≡ Less) (λ x. compare x nu ≡ Less) seg (λ x k. less_trans x mu nu k h)
      (all_before mu rs))

  positive : PositiveElsewhere e mu (regular_row e mu)
  unfolding regular_row coefficient
  positive = subst (AllByRecursion Elsewhere) (sym (cut e mu is).whole)
      (all_append Elsewhere seg (mu ∷ past) earlier ((λ ne. absurd (ne refl)), later))
    where
      Elsewhere : List ℕ → Type 0
      Elsewhere nu = nu ≢ mu → IsPositive (regular_row e mu nu)

      earlier : AllByRecursion Elsewhere seg
      earlier = all_weaken (λ nu. IsPositive (regular_row e mu nu)) Elsewhere seg (λ nu p _. p)
          (row_positive (Good e mu) A (triangle e mu is) mu seg (good e mu is) (good_earlier e mu)
          (earlier_ascends e mu))

      later : AllByRecursion Elsewhere past
      later = all_weaken (λ nu. Good e mu nu × (compare mu nu ≡ Less)) Elsewhere past
          (λ nu k _. subst (λ p. IsPositive p) (sym (later_nought nu k.0 k.1)) (λ j low. refl))
          (all_both (Good e mu) (λ nu. compare mu nu ≡ Less) past good_past (cut e mu is).later)

  -- ---- no other vector of the span is like it

  only_row : (w : Vector) → InSpan e (degree mu) w → w mu ≡ one → PositiveElsewhere e mu w → (lambda : List ℕ) →
      IsPartition lambda → w lambda ≡ regular_row e mu lambda
  only_row w span at_mu pos_ lambda pl =
      span.sum lambda pl ∙ ap (λ fs. combination A fs lambda) same ∙ sym (full_row lambda)
    where
      Agree : Laurent → Laurent → Type 0
      Agree p q = (j : ℤ) → j ≤ℤ pos 0 → coefficient p j ≡ coefficient q j

      rows_agree : AllByRecursion (λ nu. Agree (w nu) (regular_row e mu nu)) rs
      rows_agree = agree_all w (regular_row e mu) mu rs at_mu own pos_ positive

      combinations_agree : (nu : List ℕ) → Good e mu nu × Agree (w nu) (regular_row e mu nu) →
          Agree (combination A span.factors_of nu) (combination A full nu)
      combinations_agree nu (g, a) j low =
          ap (λ x. coefficient x j) (sym (span.sum nu g.partition))
          ∙ a j low
          ∙ ap (λ x. coefficient x j) (full_row nu)

      same : span.factors_of ≡ full
      same = same_factors (Good e mu) A (triangle e mu is) rs span.factors_of full (all_regulars e (degree mu))
          (regulars_ascend e (degree mu)) span.keys full_keys span.invariant full_invariant
          (all_weaken (λ nu. Good e mu nu × Agree (w nu) (regular_row e mu nu))
          (λ nu. Agree (combination A span.factors_of nu) (combination A full nu)) rs combinations_agree
          (all_both (Good e mu) (λ nu. Agree (w nu) (regular_row e mu nu)) rs (all_regulars e (degree mu)) rows_agree))

  -- ---- the shares

  -- factors with the keys of the shares give the same with the rows of the triangle and with the regular rows
  pub keyed_same : (fs : Factors) (lambda : List ℕ) → map (λ f. f.0) fs ≡ seg →
      combination (rows A seg) fs lambda ≡ combination (regular_row e) fs lambda
  keyed_same fs lambda k = rows_same e mu fs lambda
      (from_keys (IsBefore e mu) fs (subst (AllByRecursion (IsBefore e mu)) (sym k) (earlier_before e mu)))

  shares_give_back : (lambda : List ℕ) →
      A mu lambda ≡ plus (regular_row e mu lambda) (combination (regular_row e) (shares e mu) lambda)
  unfolding regular_row shares
  shares_give_back lambda = sym
      (ap (plus (combination A (factors A mu seg) lambda))
      (sym (keyed_same (shares_over A mu seg) lambda (keys-shares A mu seg)))
      ∙ shares_sum A (IsLaurent-ladder_vector e) mu seg lambda (earlier_ascends e mu))

  only_these : (others : Factors) → map (λ a. a.0) others ≡ seg → AllByRecursion (λ a. IsBarInvariant a.1) others →
      ((lambda : List ℕ) → IsPartition lambda →
      A mu lambda ≡ plus (regular_row e mu lambda) (combination (regular_row e) others lambda)) →
      others ≡ shares e mu
  unfolding regular_row shares
  only_these others k b f =
      only_shares (Good e mu) A (triangle e mu is) (IsLaurent-ladder_vector e) mu seg (good_earlier e mu)
      (earlier_ascends e mu) others k b
      (λ lambda g.
      ap (plus (combination A (factors A mu seg) lambda)) (keyed_same others lambda k) ∙ sym (f lambda g.partition))

  -- the law of rows for mu
  pub row_facts : RowFacts e mu
  unfolding shares
  row_facts = record {
    in_span =
        record { factors_of = full; keys = full_keys; invariant = full_invariant; sum = λ lambda _. full_row lambda };
    at_mu = own;
    elsewhere = positive;
    only = only_row;
    row_is = λ w r. only_row w r.in_span r.at_mu
        (all_weaken (Good e mu) (λ nu. nu ≢ mu → IsPositive (w nu)) rs (λ nu g. r.elsewhere nu g.partition)
        (all_regulars e (degree mu)));
    shares_invariant = invariant-shares A mu seg;
    shares_sum = shares_give_back;
    shares_only = only_these;
  }

-- The law of rows for all e and mu.
pub rows_law : RowsLaw
rows_law e mu h = row_facts e mu h
