-- The first column that fails, as a function, is the one of the relations.
use Rattle.std.proofs.Common.{◌≡◌, ◌≢◌, ℕ, ◌⊎◌, inl, inr, Bool, true, false, cond, ◌&&◌, ◌||◌, nat_eq}
use Rattle.std.proofs.Common.{List, [], ◌∷◌, ◌++◌, Option, Some, None, refl, sym, ◌∙◌, ap, arith}
use Rattle.std.proofs.Common.{append-nil, true≢false}
use Rattle.std.specs.Bool.{Decides}
use Rattle.std.specs.Cmp.Lexicographic.{pointwise, bytes_decides}
use Rattle.std.specs.List.{AllByRecursion, list_all}
use Rattle.std.proofs.lemmas.Bool.Decides.{Decides-ltb}
use Rattle.std.proofs.lemmas.Slice.Eq.{slice_eq-Decides}
use Rattle.sp_defs.specs.Partition.{degree, partitions, IsPartitionOf}
use Rattle.sp_defs.specs.Laurent.{Laurent, one, plus, bar, collect, IsBarInvariant, IsPositive}
use Rattle.sp_defs.specs.Power.{Vector, vector_of}
use Rattle.sp_defs.specs.Ladder.{ladder_vector}
use Rattle.sp_defs.specs.Row.{Factors, combination, is_positive}
use Rattle.sp_lists.proofs.Elements.{and_split, and_join, or_split, all_tests, tests_all}
use Rattle.sp_lists.proofs.Places.{all_weaken}
use Rattle.sp_lists.proofs.Occurrence.{at_occurs}
use Rattle.sp_shapes.proofs.Listing.{all_partitions, each_partition}
use Rattle.sp_algebra.proofs.Coefficients.{coefficient-collect, IsLaurent-collect}
use Rattle.sp_column_law.specs.Column.{column_weight, IsRight}
use Rattle.sp_core.specs.declared.piece.Key.{Key}
use Rattle.sp_llt.specs.Adopting.{factors_at}
use Rattle.sp_llt.proofs.Positive.{same_test, test_positive}
use Rattle.sp_cert.specs.declared.certificate.Column.{Column}
use Rattle.sp_cert.specs.Verdict.{listed_in, IsLarge, Fits, IsRightColumn, IsAccepted, IsWrong, FailsFirst}
use Rattle.sp_cert.specs.Failing.{same_polynomial, is_right, is_large, is_right_column, Failing, LargeAt, WrongAt}
use Rattle.sp_cert.specs.Failing.{first_failing_of, first_failing}
use Rattle.sp_cert.proofs.Polynomials.{same_decides}

-- ---- the tests are the relations

-- two polynomials are equal exactly by the test
pub polynomials_decide : (p q : Laurent) → Decides (same_polynomial p q) (p ≡ q)
polynomials_decide p q = slice_eq-Decides same_decides p q (same_polynomial p q) refl

-- only positive powers occur exactly where they do in the collection
positive_decides : (p : Laurent) → Decides (is_positive (collect p)) (IsPositive p)
positive_decides p = (
  λ h j low. sym (coefficient-collect p j) ∙ test_positive (collect p) h j low,
  λ h.
      sym (same_test true (collect p) (IsLaurent-collect p)
      ((λ _ j low. coefficient-collect p j ∙ h j low), (λ _. refl))),
)

-- a fact on all partitions of n holds exactly where a test passes on the list of them
every_decides : (n : ℕ) (t : List ℕ → Bool) (P : List ℕ → Type 0) →
    ((lambda : List ℕ) → Decides (t lambda) (P lambda)) →
    Decides (list_all t (partitions n)) ((lambda : List ℕ) → IsPartitionOf n lambda → P lambda)
every_decides n t P decides = (
  λ h lambda p.
      (decides lambda).0 (at_occurs (λ x. t x ≡ true) lambda (partitions n)
      (each_partition n lambda p.partition p.total) (all_tests t (partitions n) h)),
  λ h.
      tests_all t (partitions n)
      (all_weaken (IsPartitionOf n) (λ x. t x ≡ true) (partitions n) (λ x p. (decides x).1 (h x p)) (all_partitions n)),
)

module _ (e : ℕ) (listed : List ℕ → Vector) (mu : List ℕ) (shares : Factors) (w : Vector) where
  abbrev elsewhere : List ℕ → Bool
  elsewhere lambda = pointwise nat_eq lambda mu || is_positive (collect (w lambda))

  abbrev is_sum : List ℕ → Bool
  is_sum lambda = same_polynomial (ladder_vector e mu lambda) (plus (w lambda) (combination listed shares lambda))

  abbrev invariant : List ℕ × Laurent → Bool
  invariant a = same_polynomial (bar a.1) a.1

  elsewhere_decides : (lambda : List ℕ) → Decides (elsewhere lambda) (lambda ≢ mu → IsPositive (w lambda))
  elsewhere_decides lambda = (one_way, other_way)
    where
      one_way : elsewhere lambda ≡ true → lambda ≢ mu → IsPositive (w lambda)
      one_way h other = by (or_split (pointwise nat_eq lambda mu) (is_positive (collect (w lambda))) h)
        where
          by : (pointwise nat_eq lambda mu ≡ true) ⊎ (is_positive (collect (w lambda)) ≡ true) → IsPositive (w lambda)
          by (inl same) = absurd (other ((bytes_decides lambda mu).0 same))
          by (inr test) = (positive_decides (w lambda)).0 test

      other_way : (lambda ≢ mu → IsPositive (w lambda)) → elsewhere lambda ≡ true
      other_way h = by (pointwise nat_eq lambda mu) refl
        where
          by : (b : Bool) → pointwise nat_eq lambda mu ≡ b → (b || is_positive (collect (w lambda))) ≡ true
          by true is = refl
          by false is =
              (positive_decides (w lambda)).1 (h (λ same. true≢false (sym ((bytes_decides lambda mu).1 same) ∙ is)))

  all_elsewhere : Decides (list_all elsewhere (partitions (degree mu)))
      ((lambda : List ℕ) → IsPartitionOf (degree mu) lambda → lambda ≢ mu → IsPositive (w lambda))
  all_elsewhere =
      every_decides (degree mu) elsewhere (λ lambda. lambda ≢ mu → IsPositive (w lambda)) elsewhere_decides

  all_sums : Decides (list_all is_sum (partitions (degree mu))) ((lambda : List ℕ) → IsPartitionOf (degree mu) lambda →
      ladder_vector e mu lambda ≡ plus (w lambda) (combination listed shares lambda))
  all_sums =
      every_decides (degree mu) is_sum
      (λ lambda. ladder_vector e mu lambda ≡ plus (w lambda) (combination listed shares lambda))
      (λ lambda. polynomials_decide (ladder_vector e mu lambda) (plus (w lambda) (combination listed shares lambda)))

  -- a column is right exactly where the test passes
  pub right_decides : Decides (is_right e listed mu shares w) (IsRight e listed mu shares w)
  right_decides = (one_way, other_way)
    where
      one_way : is_right e listed mu shares w ≡ true → IsRight e listed mu shares w
      one_way h =
          let first = and_split (same_polynomial (w mu) one) (list_all elsewhere (partitions (degree mu)) &&
          (list_all invariant shares && list_all is_sum (partitions (degree mu)))) h in
          let second = and_split (list_all elsewhere (partitions (degree mu)))
          (list_all invariant shares && list_all is_sum (partitions (degree mu))) first.1 in
          let third = and_split (list_all invariant shares) (list_all is_sum (partitions (degree mu))) second.1 in
          record {
            at_mu = (polynomials_decide (w mu) one).0 first.0;
            elsewhere = all_elsewhere.0 second.0;
            invariant = all_weaken (λ a. invariant a ≡ true) (λ a. IsBarInvariant a.1) shares
                (λ a t. (polynomials_decide (bar a.1) a.1).0 t) (all_tests invariant shares third.0);
            sum = all_sums.0 third.1;
          }

      other_way : IsRight e listed mu shares w → is_right e listed mu shares w ≡ true
      other_way h =
          and_join (same_polynomial (w mu) one) (list_all elsewhere (partitions (degree mu)) &&
          (list_all invariant shares && list_all is_sum (partitions (degree mu))))
          ((polynomials_decide (w mu) one).1 h.at_mu)
          (and_join (list_all elsewhere (partitions (degree mu)))
          (list_all invariant shares && list_all is_sum (partitions (degree mu))) (all_elsewhere.1 h.elsewhere)
          (and_join (list_all invariant shares) (list_all is_sum (partitions (degree mu)))
          (tests_all invariant shares (all_weaken (λ a. IsBarInvariant a.1) (λ a. invariant a ≡ true) shares
          (λ a i. (polynomials_decide (bar a.1) a.1).1 i) h.invariant))
          (all_sums.1 h.sum)))

module _ (key : Key) (columns : List Column) where
  -- a column is too large exactly where the test passes
  pub large_decides : (c : Column) → Decides (is_large key columns c) (IsLarge key columns c)
  large_decides c = Decides-ltb key.limit (column_weight key.e (listed_in columns) c.mu (factors_at key c.shares))

  -- a column is right exactly where the test passes
  pub right_column_decides : (c : Column) → Decides (is_right_column key columns c) (IsRightColumn key columns c)
  right_column_decides c =
      right_decides key.e (listed_in columns) c.mu (factors_at key c.shares) (vector_of c.entries.entries)

  -- ---- the first that fails

  -- What is found at a column, by the two tests.
  abbrev found : Column → Bool → Bool → Option Failing → Option Failing
  found c large right later = cond large (Some (LargeAt c.mu)) (cond right later (Some (WrongAt c.mu)))

  not_large : (c : Column) → Fits key columns c → is_large key columns c ≡ false
  not_large c fits = by (is_large key columns c) refl
    where
      by : (b : Bool) → is_large key columns c ≡ b → b ≡ false
      by true is = absurd (let large = (large_decides c).0 is in omega (arith, large, fits))
      by false is = refl

  not_right : (c : Column) → (IsRightColumn key columns c → ⊥) → is_right_column key columns c ≡ false
  not_right c wrong = by (is_right_column key columns c) refl
    where
      by : (b : Bool) → is_right_column key columns c ≡ b → b ≡ false
      by true is = absurd (wrong ((right_column_decides c).0 is))
      by false is = refl

  -- accepted columns are passed over
  passed : (accepted others : List Column) → AllByRecursion (IsAccepted key columns) accepted →
      first_failing_of key columns (accepted ++ others) ≡ first_failing_of key columns others
  passed [] others h = refl
  passed (c ∷ cs) others (h, hs) =
      ap (λ b. found c b (is_right_column key columns c) (first_failing_of key columns (cs ++ others)))
      (not_large c h.fits)
      ∙ ap (λ b. found c false b (first_failing_of key columns (cs ++ others))) ((right_column_decides c).1 h.right)
      ∙ passed cs others hs

  -- where all columns are accepted, none fails
  pub none_fails : AllByRecursion (IsAccepted key columns) columns → first_failing key columns ≡ None
  unfolding first_failing
  none_fails h =
      ap (first_failing_of key columns) (sym (append-nil columns)) ∙ passed columns [] h

  -- where a column is the first that fails, and too large, it is found
  pub large_fails : (at : List ℕ) → FailsFirst (IsLarge key columns) key columns at →
      first_failing key columns ≡ Some (LargeAt at)
  unfolding first_failing
  large_fails at h =
      ap (first_failing_of key columns) h.place ∙ passed h.accepted (h.failing ∷ h.others) h.before
      ∙ ap (λ b. found h.failing b (is_right_column key columns h.failing) (first_failing_of key columns h.others))
      ((large_decides h.failing).1 h.bad)
      ∙ ap (λ mu. Some (LargeAt mu)) h.mu

  -- where a column is the first that fails, and wrong, it is found
  pub wrong_fails : (at : List ℕ) → FailsFirst (IsWrong key columns) key columns at →
      first_failing key columns ≡ Some (WrongAt at)
  unfolding first_failing
  wrong_fails at h =
      ap (first_failing_of key columns) h.place ∙ passed h.accepted (h.failing ∷ h.others) h.before
      ∙ ap (λ b. found h.failing b (is_right_column key columns h.failing) (first_failing_of key columns h.others))
      (not_large h.failing h.bad.fits)
      ∙ ap (λ b. found h.failing false b (first_failing_of key columns h.others)) (not_right h.failing h.bad.wrong)
      ∙ ap (λ mu. Some (WrongAt mu)) h.mu
