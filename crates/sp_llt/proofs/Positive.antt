-- Where only positive powers occur: the lift is 0, and the test on the terms says so.
use Rattle.std.proofs.Common.{◌≡◌, Bool, true, [], ◌∷◌, refl, sym, ◌∙◌, ap, arith, ℤ, pos, ◌<ℤ◌}
use Rattle.std.proofs.Common.{int_cmp, Less, Equal, Greater, Ordering, IsTrue, ◌↔◌, ◌&&◌}
use Rattle.std.specs.Ordering.{MatchOrdering, is_gt}
use Rattle.std.specs.Cmp.{int_ranks}
use Rattle.std.proofs.lemmas.Int.{ints}
use Rattle.sp_defs.specs.Laurent.{Laurent, coefficient, collect, negate, bar, lift, IsLaurent, IsPositive}
use Rattle.sp_defs.specs.Row.{is_positive}
use Rattle.sp_algebra.proofs.Coefficients.{Above, Above-lower, Canonical}
use Rattle.sp_algebra.proofs.Canonical.{canonical-from}
use Rattle.sp_algebra.proofs.Laws.{coefficient-plus, coefficient-negate, lift_unique, lift-low}
use Rattle.sp_algebra.proofs.Values.{first_positive, positive_above}
use Rattle.sp_lists.proofs.Elements.{and_split, same_tests}

-- ---- the lift

bar_nought : bar [] ≡ []
unfolding bar collect
bar_nought = refl

negate_nought : negate [] ≡ []
unfolding negate collect
negate_nought = refl

-- 0 has no coefficient
pub nothing : (j : ℤ) → coefficient [] j ≡ pos 0
unfolding coefficient
nothing j = refl

-- where only positive powers occur, the lift is 0
pub positive_lift : (p : Laurent) → IsPositive p → lift p ≡ []
positive_lift p h = sym (lift_unique p [] bar_nought
    (λ j low.
    omega (
      arith,
      ints,
      h j low,
      coefficient-plus p (negate []) j,
      coefficient-negate [] j,
      nothing j,
    )))

-- and the other way round
pub lift_positive : (p : Laurent) → lift p ≡ [] → IsPositive p
lift_positive p z j low = sym (lift-low p j low) ∙ ap (λ q. coefficient q j) z ∙ nothing j

-- ---- the test

above_test : (k : ℤ) → pos 0 <ℤ k → is_gt (int_cmp k (pos 0)) ≡ true
above_test k lt = by_order (int_cmp k (pos 0)) (int_ranks k (pos 0))
  where
    by_order : (o : Ordering) → MatchOrdering o (k <ℤ pos 0) (k ≡ pos 0) (pos 0 <ℤ k) → is_gt o ≡ true
    by_order Less h = absurd (omega (arith, ints))
    by_order Equal h = absurd (omega (arith, ints))
    by_order Greater h = refl

tested_above : (k : ℤ) → is_gt (int_cmp k (pos 0)) ≡ true → pos 0 <ℤ k
tested_above k e = by_order (int_cmp k (pos 0)) (int_ranks k (pos 0)) e
  where
    by_order : (o : Ordering) → MatchOrdering o (k <ℤ pos 0) (k ≡ pos 0) (pos 0 <ℤ k) → is_gt o ≡ true → pos 0 <ℤ k
    by_order Less h e = absurd (cc)
    by_order Equal h e = absurd (cc)
    by_order Greater h e = h

all_above : (p : Laurent) → Above (pos 0) p → is_positive p ≡ true
all_above [] a = refl
all_above ((k, c) ∷ p) (a, h) = ap (λ b. b && is_positive p) (above_test k a) ∙ all_above p h

above_all : (p : Laurent) → is_positive p ≡ true → Above (pos 0) p
above_all [] e = tt
above_all ((k, c) ∷ p) e =
    let h = and_split (is_gt (int_cmp k (pos 0))) (is_positive p) e in
    (tested_above k h.0, above_all p h.1)

positive_test : (p : Laurent) → Canonical p → IsPositive p → is_positive p ≡ true
positive_test [] h positive = refl
positive_test ((k, c) ∷ p) (ne, (a, h)) positive =
    let lt = first_positive k c p (ne, (a, h)) positive in
    all_above ((k, c) ∷ p) (lt, Above-lower (pos 0) k p lt a)

-- what passes the test has only positive powers
pub test_positive : (p : Laurent) → is_positive p ≡ true → IsPositive p
test_positive p e = positive_above p (above_all p e)

-- a test that is true exactly where only positive powers occur is this one
pub same_test : (b : Bool) (p : Laurent) → IsLaurent p → (IsTrue b ↔ IsPositive p) → b ≡ is_positive p
same_test b p h i = same_tests b (is_positive p)
    (λ e. positive_test p (canonical-from p h) (i.0 e)) (λ e. i.1 (test_positive p e))
