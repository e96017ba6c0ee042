-- The partitions that occur in a regular row, and those of its shares, have the content of its partition: a sum that is
-- not 0 has a term that is not 0, and there the ladder law of contents applies.
use Rattle.std.proofs.Common.{◌≡◌, ◌≢◌, ℕ, List, [], ◌∷◌, refl, ◌∙◌, ap, ap₂, ◌⊎◌, inl, inr}
use Rattle.std.specs.List.{AllByRecursion}
use Rattle.sp_defs.specs.Partition.{degree}
use Rattle.sp_defs.specs.Laurent.{Laurent, collect, plus, negate, times, lift, sum_over}
use Rattle.sp_defs.specs.Ladder.{ladder_vector}
use Rattle.sp_defs.specs.Row.{Factors, combination, before, earlier, factors, factor_of, shares_over, regular_row}
use Rattle.sp_defs.specs.Row.{shares}
use Rattle.sp_defs.specs.Statements.{IsLabel, SameContent, RowContentLaw}
use Rattle.sp_algebra.proofs.Laws.{times_nought, nought_times, nought_plus}
use Rattle.sp_algebra.proofs.Sums.{nonzero_term}
use Rattle.sp_lists.proofs.Elements.{all_both, nil_or_not}
use Rattle.sp_shapes.proofs.Before.{all_kept}
use Rattle.sp_ladder_law.proofs.Contents.{ladder_content}
use Rattle.sp_row_law.proofs.Setting.{Good, good_earlier, label}
use Rattle.sp_lists.proofs.Places.{all_weaken}

-- a combination of ladder vectors whose factors have mu's content, where they are not 0
combination_content : (e : ℕ) (mu : List ℕ) (fs : Factors) → AllByRecursion (λ f. IsLabel e f.0) fs →
    AllByRecursion (λ f. f.1 ≢ [] → SameContent e mu f.0) fs → (lambda : List ℕ) →
    combination (ladder_vector e) fs lambda ≢ [] → SameContent e mu lambda
unfolding combination
combination_content e mu fs h k lambda ne =
    from
    (nonzero_term (λ f. IsLabel e f.0 × (f.1 ≢ [] → SameContent e mu f.0)) fs
    (λ f. times f.1 (ladder_vector e f.0 lambda))
    (all_both (λ f. IsLabel e f.0) (λ f. f.1 ≢ [] → SameContent e mu f.0) fs h k) ne)
  where
    from : (f : List ℕ × Laurent) × (IsLabel e f.0 × (f.1 ≢ [] → SameContent e mu f.0)) ×
        (times f.1 (ladder_vector e f.0 lambda) ≢ []) → SameContent e mu lambda
    from (f, (l, s), nz) i =
        s (λ z. nz (ap (λ b. times b (ladder_vector e f.0 lambda)) z ∙ nought_times (ladder_vector e f.0 lambda))) i
        ∙ ladder_content e f.0 l lambda (λ z. nz (ap (times f.1) z ∙ times_nought f.1)) i

-- ---- what 0 gives

negate_nought : negate [] ≡ []
unfolding negate collect
negate_nought = refl

lift_nought : lift [] ≡ []
unfolding lift collect
lift_nought = refl

collect_nought : collect [] ≡ []
unfolding collect
collect_nought = refl

-- ---- the factors of a row

labels-factors : (e : ℕ) (mu : List ℕ) (seg : List (List ℕ)) → IsLabel e mu → AllByRecursion (IsLabel e) seg →
    AllByRecursion (λ f. IsLabel e f.0) (factors (ladder_vector e) mu seg)
unfolding factors
labels-factors e mu [] h hs = (h, tt)
labels-factors e mu (nu ∷ seg) h (k, ks) = (k, labels-factors e mu seg h ks)

content-factors : (e : ℕ) (mu : List ℕ) (seg : List (List ℕ)) → IsLabel e mu → AllByRecursion (IsLabel e) seg →
    AllByRecursion (λ f. f.1 ≢ [] → SameContent e mu f.0) (factors (ladder_vector e) mu seg)
unfolding factors
content-factors e mu [] h hs = ((λ _ i. refl), tt)
content-factors e mu (nu ∷ seg) h (k, ks) = (
  (λ ne. combination_content e mu (factors (ladder_vector e) mu seg) (labels-factors e mu seg h ks)
      (content-factors e mu seg h ks) nu
      (λ z. ne (ap (λ p. negate (lift p)) z ∙ ap negate lift_nought ∙ negate_nought))),
  content-factors e mu seg h ks,
)

factor_content : (e : ℕ) (nu kappa : List ℕ) (between : List (List ℕ)) → IsLabel e kappa →
    AllByRecursion (IsLabel e) between → factor_of (ladder_vector e) nu kappa between ≢ [] → SameContent e kappa nu
factor_content e nu kappa between h hs ne = combination_content e kappa (factors (ladder_vector e) kappa between)
    (labels-factors e kappa between h hs) (content-factors e kappa between h hs) nu
    (λ z. ne (ap (λ p. negate (lift p)) z ∙ ap negate lift_nought ∙ negate_nought))

-- ---- the shares

labels-shares : (e : ℕ) (mu : List ℕ) (seg : List (List ℕ)) → AllByRecursion (IsLabel e) seg →
    AllByRecursion (λ a. IsLabel e a.0) (shares_over (ladder_vector e) mu seg)
unfolding shares_over
labels-shares e mu [] hs = tt
labels-shares e mu (nu ∷ seg) (k, ks) = (k, labels-shares e mu seg ks)

content-shares : (e : ℕ) (mu : List ℕ) (seg : List (List ℕ)) → IsLabel e mu → AllByRecursion (IsLabel e) seg →
    AllByRecursion (λ a. a.1 ≢ [] → SameContent e mu a.0) (shares_over (ladder_vector e) mu seg)
unfolding shares_over
content-shares e mu [] h hs = tt
content-shares e mu (nu ∷ seg) h (k, ks) =
    ((λ ne. settle ne (nil_or_not f) (content-shares e mu seg h ks)), content-shares e mu seg h ks)
  where
    s : Factors
    s = shares_over (ladder_vector e) mu seg

    f : Laurent
    f = factor_of (ladder_vector e) nu mu seg

    total : Laurent
    total = sum_over s (λ a. times a.1 (factor_of (ladder_vector e) nu a.0 (before a.0 seg)))

    settle : negate (plus f total) ≢ [] → (f ≡ []) ⊎ (f ≢ []) →
        AllByRecursion (λ a. a.1 ≢ [] → SameContent e mu a.0) s → SameContent e mu nu
    settle ne (inr nz) ih = factor_content e nu mu seg h ks nz
    settle ne (inl z) ih = from (nonzero_term (λ a. IsLabel e a.0 × (a.1 ≢ [] → SameContent e mu a.0)) s
        (λ a. times a.1 (factor_of (ladder_vector e) nu a.0 (before a.0 seg)))
        (all_both (λ a. IsLabel e a.0) (λ a. a.1 ≢ [] → SameContent e mu a.0) s (labels-shares e mu seg ks) ih)
        (λ w. ne (ap₂ (λ x y. negate (plus x y)) z w ∙ ap negate (nought_plus [] collect_nought) ∙ negate_nought)))
      where
        from : (a : List ℕ × Laurent) × (IsLabel e a.0 × (a.1 ≢ [] → SameContent e mu a.0)) ×
            (times a.1 (factor_of (ladder_vector e) nu a.0 (before a.0 seg)) ≢ []) → SameContent e mu nu
        from (a, (l, same), nz) i =
            same
            (λ z.
            nz
            (ap (λ b. times b (factor_of (ladder_vector e) nu a.0 (before a.0 seg))) z
            ∙ nought_times (factor_of (ladder_vector e) nu a.0 (before a.0 seg)))) i
            ∙ factor_content e nu a.0 (before a.0 seg) l (all_kept (IsLabel e) a.0 seg ks)
            (λ z. nz (ap (times a.1) z ∙ times_nought a.1)) i

-- ---- the law

-- The partitions in the row of mu, and those with shares, have mu's content.
pub row_content_law : RowContentLaw
unfolding regular_row shares
row_content_law e mu h = record {
  row = combination_content e mu (factors (ladder_vector e) mu seg) (labels-factors e mu seg h good)
      (content-factors e mu seg h good);
  shares_at = content-shares e mu seg h good;
}
  where
    seg : List (List ℕ)
    seg = earlier e mu

    good : AllByRecursion (IsLabel e) seg
    good = all_weaken (Good e mu) (IsLabel e) seg (λ nu g. label e (degree mu) nu h.e_least g) (good_earlier e mu)
