-- The laws of Laurent polynomials: sums, products, bar, and the lift, which is the only bar-invariant polynomial that
-- leaves positive powers alone.
-- Each law is read off the coefficients, since polynomials with the same coefficients are equal.
use Rattle.std.proofs.Common.{◌≡◌, ◌≢◌, Bool, true, false, cond, [], ◌∷◌, ◌++◌, map, filter, refl, sym, ◌∙◌, ap, ap₂}
use Rattle.std.proofs.Common.{subst, ℤ, pos, neg_ℤ, ◌+ℤ◌, ◌-ℤ◌, ◌*ℤ◌, ◌<ℤ◌, ◌≤ℤ◌, int_cmp, int_eq, int_lt, int_le}
use Rattle.std.proofs.Common.{arith, Less, Equal, Greater}
use Rattle.std.proofs.lemmas.Int.{ints}
use Rattle.std.specs.Ordering.{MatchOrdering}
use Rattle.std.specs.Cmp.{int_ranks}
use Rattle.sp_defs.specs.Laurent.{Laurent, coefficient, put, placed, add_term, collect, plus, negate, products, times}
use Rattle.sp_defs.specs.Laurent.{bar, lift, one, int_sum, IsLaurent, IsBarInvariant, IsPositive}
use Rattle.sp_algebra.proofs.Whole.{+ℤ-times, times-+ℤ, *ℤ_assoc}
use Rattle.sp_algebra.proofs.Coefficients.{at, by_eq, at-same, at-other, coefficient-append, coefficient-collect}
use Rattle.sp_algebra.proofs.Coefficients.{same_laurent, IsLaurent-collect}

-- the terms of the negation, of the bar, and of the product with c * v^k
abbrev negated : Laurent → Laurent
negated p = map (λ t. (t.0, neg_ℤ t.1)) p

abbrev barred : Laurent → Laurent
barred p = map (λ t. (neg_ℤ t.0, t.1)) p

abbrev scaled : ℤ → ℤ → Laurent → Laurent
scaled k c q = map (λ t. (k +ℤ t.0, c *ℤ t.1)) q

-- ---- the coefficients of a sum and of a negation

-- the coefficients of a sum are the sums of the coefficients
pub coefficient-plus : (p q : Laurent) (j : ℤ) → coefficient (plus p q) j ≡ coefficient p j +ℤ coefficient q j
unfolding plus
coefficient-plus p q j = coefficient-collect (p ++ q) j ∙ coefficient-append p q j

coefficient-negated : (p : Laurent) (j : ℤ) → coefficient (negated p) j ≡ neg_ℤ (coefficient p j)
unfolding coefficient
coefficient-negated [] j = refl
coefficient-negated ((k, c) ∷ p) j =
    elim (int_eq k j) as (λ b. cond b (neg_ℤ c) (pos 0) +ℤ coefficient (negated p) j
    ≡ neg_ℤ (cond b c (pos 0) +ℤ coefficient p j)) [
      | true ↦ omega (arith, ints, coefficient-negated p j)
      | false ↦ omega (arith, ints, coefficient-negated p j)
    ]

-- the coefficients of a negation are negated
pub coefficient-negate : (p : Laurent) (j : ℤ) → coefficient (negate p) j ≡ neg_ℤ (coefficient p j)
unfolding negate
coefficient-negate p j = coefficient-collect (negated p) j ∙ coefficient-negated p j

-- what each operation gives is a polynomial
pub IsLaurent-plus : (p q : Laurent) → IsLaurent (plus p q)
unfolding plus
IsLaurent-plus p q = IsLaurent-collect (p ++ q)

-- a negation is a polynomial
pub IsLaurent-negate : (p : Laurent) → IsLaurent (negate p)
unfolding negate
IsLaurent-negate p = IsLaurent-collect (negated p)

-- a product is a polynomial
pub IsLaurent-times : (p q : Laurent) → IsLaurent (times p q)
unfolding times
IsLaurent-times p q = IsLaurent-collect (products p q)

-- a bar is a polynomial
pub IsLaurent-bar : (p : Laurent) → IsLaurent (bar p)
unfolding bar
IsLaurent-bar p = IsLaurent-collect (barred p)

-- a lift is a polynomial
pub IsLaurent-lift : (p : Laurent) → IsLaurent (lift p)
unfolding lift
IsLaurent-lift p =
    IsLaurent-collect
    (filter (λ t. int_le t.0 (pos 0)) p ++ map (λ t. (neg_ℤ t.0, t.1)) (filter (λ t. int_lt t.0 (pos 0)) p))

-- a bar-invariant polynomial is in canonical form
pub IsLaurent-bar_invariant : (p : Laurent) → IsBarInvariant p → IsLaurent p
IsLaurent-bar_invariant p h = subst (λ q. IsLaurent q) h (IsLaurent-bar p)

-- ---- sums are a commutative group

-- a sum does not depend on the order of its two terms
pub plus_comm : (p q : Laurent) → plus p q ≡ plus q p
plus_comm p q = same_laurent _ _ (IsLaurent-plus p q) (IsLaurent-plus q p)
    (λ j. omega (arith, ints, coefficient-plus p q j, coefficient-plus q p j))

-- sums associate
pub plus_assoc : (p q r : Laurent) → plus (plus p q) r ≡ plus p (plus q r)
plus_assoc p q r = same_laurent _ _ (IsLaurent-plus (plus p q) r) (IsLaurent-plus p (plus q r))
    (λ j.
    omega (
      arith,
      ints,
      coefficient-plus (plus p q) r j,
      coefficient-plus p q j,
      coefficient-plus p (plus q r) j,
      coefficient-plus q r j,
    ))

-- 0 added behind changes nothing
pub plus_nought : (p : Laurent) → IsLaurent p → plus p [] ≡ p
unfolding coefficient
plus_nought p h = same_laurent _ _ (IsLaurent-plus p []) h (λ j. coefficient-plus p [] j ∙ omega (arith, ints))

-- 0 added in front changes nothing
pub nought_plus : (p : Laurent) → IsLaurent p → plus [] p ≡ p
unfolding plus
nought_plus p h = h

-- a polynomial and its negation sum up to 0
pub plus_negate : (p : Laurent) → plus p (negate p) ≡ []
unfolding coefficient collect
plus_negate p = same_laurent _ _ (IsLaurent-plus p (negate p)) refl
    (λ j. omega (arith, ints, coefficient-plus p (negate p) j, coefficient-negate p j))

-- ---- products

-- A polynomial acts on functions of the power, as its product acts on coefficients: at j the sum of c * f (j - k) over
-- its terms.
unfoldable pub act : Laurent → (ℤ → ℤ) → ℤ → ℤ
act [] f j = pos 0
act ((k, c) ∷ p) f j = c *ℤ f (j -ℤ k) +ℤ act p f j

-- equal functions are acted on alike
pub act-alike : (p : Laurent) (f g : ℤ → ℤ) (j : ℤ) → ((i : ℤ) → f i ≡ g i) → act p f j ≡ act p g j
act-alike p f g j e = ap (λ h. act p h j) (λ i x. e x i)

-- the action is additive in the terms, so it does not see the order or like powers
pub act-append : (p q : Laurent) (f : ℤ → ℤ) (j : ℤ) → act (p ++ q) f j ≡ act p f j +ℤ act q f j
unfolding act
act-append [] q f j = omega (arith, ints)
act-append ((k, c) ∷ p) q f j =
    ap (λ x. c *ℤ f (j -ℤ k) +ℤ x) (act-append p q f j) ∙ sum_assoc (c *ℤ f (j -ℤ k)) (act p f j) (act q f j)
  where
    sum_assoc : (x y z : ℤ) → x +ℤ (y +ℤ z) ≡ (x +ℤ y) +ℤ z
    sum_assoc x y z = omega (arith, ints)

act-put : (k c : ℤ) (p : Laurent) (f : ℤ → ℤ) (j : ℤ) → act (put k c p) f j ≡ c *ℤ f (j -ℤ k) +ℤ act p f j
unfolding act
act-put k c p f j =
    by_eq c (pos 0) (λ b. act (cond b p ((k, c) ∷ p)) f j ≡ c *ℤ f (j -ℤ k) +ℤ act p f j)
    (λ e. subst (λ x. act p f j ≡ x *ℤ f (j -ℤ k) +ℤ act p f j) (sym e) (nothing (f (j -ℤ k)) (act p f j)))
    (λ _. refl)
  where
    nothing : (x y : ℤ) → y ≡ pos 0 *ℤ x +ℤ y
    nothing x y = omega (arith, ints)

act-add_term : (k c : ℤ) (p : Laurent) (f : ℤ → ℤ) (j : ℤ) → act (add_term k c p) f j ≡ c *ℤ f (j -ℤ k) +ℤ act p f j
unfolding act add_term
act-add_term k c [] f j = act-put k c [] f j
act-add_term k c ((l, d) ∷ p) f j =
    elim (int_cmp k l) as (λ o. MatchOrdering o (k <ℤ l) (k ≡ l) (l <ℤ k) →
    act (placed o (k, c) (l, d) p (add_term k c p)) f j ≡ c *ℤ f (j -ℤ k) +ℤ (d *ℤ f (j -ℤ l) +ℤ act p f j)) [
      | Less ↦ λ _. act-put k c ((l, d) ∷ p) f j
      | Equal ↦ λ e. subst (λ x. act (put k (c +ℤ d) p) f j ≡ c *ℤ f (j -ℤ k) +ℤ (d *ℤ f (j -ℤ x) +ℤ act p f j)) e
          (act-put k (c +ℤ d) p f j ∙ both c d (f (j -ℤ k)) (act p f j))
      | Greater ↦ λ _.
          ap (λ x. d *ℤ f (j -ℤ l) +ℤ x) (act-add_term k c p f j)
          ∙ swapped (d *ℤ f (j -ℤ l)) (c *ℤ f (j -ℤ k)) (act p f j)
    ] (int_ranks k l)
  where
    both : (c d x y : ℤ) → (c +ℤ d) *ℤ x +ℤ y ≡ c *ℤ x +ℤ (d *ℤ x +ℤ y)
    both c d x y = omega (arith, ints, +ℤ-times c d x)

    swapped : (x y z : ℤ) → x +ℤ (y +ℤ z) ≡ y +ℤ (x +ℤ z)
    swapped x y z = omega (arith, ints)

-- the action does not see whether like powers were collected
pub act-collect : (p : Laurent) (f : ℤ → ℤ) (j : ℤ) → act (collect p) f j ≡ act p f j
unfolding act collect
act-collect [] f j = refl
act-collect ((k, c) ∷ p) f j = act-add_term k c (collect p) f j ∙ ap (λ x. c *ℤ f (j -ℤ k) +ℤ x) (act-collect p f j)

shift_args : (j k l : ℤ) → j -ℤ (k +ℤ l) ≡ j -ℤ k -ℤ l
shift_args j k l = omega (arith, ints)

scale_step : (c d x y z : ℤ) → z ≡ c *ℤ y → (c *ℤ d) *ℤ x +ℤ z ≡ c *ℤ (d *ℤ x +ℤ y)
scale_step c d x y z e = ap (λ w. (c *ℤ d) *ℤ x +ℤ w) e ∙ poly c d x y
  where
    poly : (c d x y : ℤ) → (c *ℤ d) *ℤ x +ℤ c *ℤ y ≡ c *ℤ (d *ℤ x +ℤ y)
    poly c d x y = omega (arith, ints, times-+ℤ c (d *ℤ x) y, *ℤ_assoc c d x)

act-scaled : (k c : ℤ) (q : Laurent) (f : ℤ → ℤ) (j : ℤ) →
    act (scaled k c q) f j ≡ c *ℤ act q f (j -ℤ k)
unfolding act
act-scaled k c [] f j = omega (arith, ints)
act-scaled k c ((l, d) ∷ q) f j =
    ap (λ x. (c *ℤ d) *ℤ f x +ℤ act (scaled k c q) f j) (shift_args j k l)
    ∙ scale_step c d (f (j -ℤ k -ℤ l)) (act q f (j -ℤ k)) _ (act-scaled k c q f j)

act-products : (p q : Laurent) (f : ℤ → ℤ) (j : ℤ) → act (products p q) f j ≡ act p (act q f) j
unfolding act products
act-products [] q f j = refl
act-products ((k, c) ∷ p) q f j =
    act-append (scaled k c q) (products p q) f j
    ∙ ap₂ (λ x y. x +ℤ y) (act-scaled k c q f j) (act-products p q f j)

-- a product acts as one factor after the other
pub act-times : (p q : Laurent) (f : ℤ → ℤ) (j : ℤ) → act (times p q) f j ≡ act p (act q f) j
unfolding times
act-times p q f j = act-collect (products p q) f j ∙ act-products p q f j

at-scaled : (k l c d j : ℤ) → at (k +ℤ l) (c *ℤ d) j ≡ c *ℤ at l d (j -ℤ k)
at-scaled k l c d j = by_eq (k +ℤ l) j (λ b. cond b (c *ℤ d) (pos 0) ≡ c *ℤ at l d (j -ℤ k))
    (λ e.
    let s : l ≡ j -ℤ k = omega (arith, ints) in
    subst (λ x. c *ℤ d ≡ c *ℤ at l d x) s (ap (λ x. c *ℤ x) (sym (at-same l d))))
    (λ ne.
    let s : l ≢ j -ℤ k = λ e. ne (omega (arith, ints)) in
    nothing c ∙ ap (λ x. c *ℤ x) (sym (at-other l d (j -ℤ k) s)))
  where
    nothing : (x : ℤ) → pos 0 ≡ x *ℤ pos 0
    nothing x = omega (arith, ints)

coefficient-scaled : (k c : ℤ) (q : Laurent) (j : ℤ) →
    coefficient (scaled k c q) j ≡ c *ℤ coefficient q (j -ℤ k)
unfolding coefficient
coefficient-scaled k c [] j = omega (arith, ints)
coefficient-scaled k c ((l, d) ∷ q) j =
    ap₂ (λ x y. x +ℤ y) (at-scaled k l c d j) (coefficient-scaled k c q j)
    ∙ joined c (at l d (j -ℤ k)) (coefficient q (j -ℤ k))
  where
    joined : (c x y : ℤ) → c *ℤ x +ℤ c *ℤ y ≡ c *ℤ (x +ℤ y)
    joined c x y = sym (times-+ℤ c x y)

coefficient-products : (p q : Laurent) (j : ℤ) → coefficient (products p q) j ≡ act p (coefficient q) j
unfolding coefficient products act
coefficient-products [] q j = refl
coefficient-products ((k, c) ∷ p) q j =
    coefficient-append (scaled k c q) (products p q) j
    ∙ ap₂ (λ x y. x +ℤ y) (coefficient-scaled k c q j) (coefficient-products p q j)

-- the coefficients of a product
pub coefficient-times : (p q : Laurent) (j : ℤ) → coefficient (times p q) j ≡ act p (coefficient q) j
unfolding times
coefficient-times p q j = coefficient-collect (products p q) j ∙ coefficient-products p q j

act-summed : (p : Laurent) (f : ℤ → ℤ) (j : ℤ) → act p f j ≡ int_sum (map (λ t. t.1 *ℤ f (j -ℤ t.0)) p)
unfolding act int_sum
act-summed [] f j = refl
act-summed ((k, c) ∷ p) f j = ap (λ n. c *ℤ f (j -ℤ k) +ℤ n) (act-summed p f j)

-- the coefficient of a product at j: the sum, over the terms c * v^k of the first factor, of c times the coefficient of
-- the second factor at j - k
pub coefficient-product : (p q : Laurent) (j : ℤ)
    → coefficient (times p q) j ≡ int_sum (map (λ t. t.1 *ℤ coefficient q (j -ℤ t.0)) p)
coefficient-product p q j = coefficient-times p q j ∙ act-summed p (coefficient q) j

-- and what is there once a product was added
pub coefficient-plus_times : (o p q : Laurent) (j : ℤ)
    → coefficient (plus o (times p q)) j ≡ coefficient o j +ℤ int_sum (map (λ t. t.1 *ℤ coefficient q (j -ℤ t.0)) p)
coefficient-plus_times o p q j =
    coefficient-plus o (times p q) j ∙ ap (λ n. coefficient o j +ℤ n) (coefficient-product p q j)

-- the action is additive in the function
pub act-sum : (p : Laurent) (f g : ℤ → ℤ) (j : ℤ) → act p (λ i. f i +ℤ g i) j ≡ act p f j +ℤ act p g j
unfolding act
act-sum [] f g j = omega (arith, ints)
act-sum ((k, c) ∷ p) f g j =
    ap (λ x. c *ℤ (f (j -ℤ k) +ℤ g (j -ℤ k)) +ℤ x) (act-sum p f g j)
    ∙ spread c (f (j -ℤ k)) (g (j -ℤ k)) (act p f j) (act p g j)
  where
    spread : (c x y u v : ℤ) → c *ℤ (x +ℤ y) +ℤ (u +ℤ v) ≡ (c *ℤ x +ℤ u) +ℤ (c *ℤ y +ℤ v)
    spread c x y u v = omega (arith, ints, times-+ℤ c x y)

-- ---- products distribute over sums, and have a unit

-- products associate
pub times_assoc : (p q r : Laurent) → times (times p q) r ≡ times p (times q r)
times_assoc p q r = same_laurent _ _ (IsLaurent-times (times p q) r) (IsLaurent-times p (times q r))
    (λ j.
    coefficient-times (times p q) r j
    ∙ act-times p q (coefficient r) j
    ∙ act-alike p _ _ j (λ i. sym (coefficient-times q r i))
    ∙ sym (coefficient-times p (times q r) j))

-- a product with a sum behind is the sum of the products
pub times_plus : (p q r : Laurent) → times p (plus q r) ≡ plus (times p q) (times p r)
times_plus p q r = same_laurent _ _ (IsLaurent-times p (plus q r)) (IsLaurent-plus (times p q) (times p r))
    (λ j. coefficient-times p (plus q r) j
    ∙ act-alike p _ _ j (coefficient-plus q r)
    ∙ act-sum p (coefficient q) (coefficient r) j
    ∙ ap₂ (λ x y. x +ℤ y) (sym (coefficient-times p q j)) (sym (coefficient-times p r j))
    ∙ sym (coefficient-plus (times p q) (times p r) j))

-- a product with a sum in front is the sum of the products
pub plus_times : (p q r : Laurent) → times (plus p q) r ≡ plus (times p r) (times q r)
unfolding plus
plus_times p q r = same_laurent _ _ (IsLaurent-times (plus p q) r) (IsLaurent-plus (times p r) (times q r))
    (λ j. coefficient-times (plus p q) r j ∙ act-collect (p ++ q) (coefficient r) j ∙ act-append p q (coefficient r) j
    ∙ ap₂ (λ x y. x +ℤ y) (sym (coefficient-times p r j)) (sym (coefficient-times q r j))
    ∙ sym (coefficient-plus (times p r) (times q r) j))

act-one : (f : ℤ → ℤ) (j : ℤ) → act one f j ≡ f j
unfolding act
act-one f j = unit_step (f (j -ℤ pos 0)) ∙ ap f (minus_zero j)
  where
    unit_step : (x : ℤ) → pos 1 *ℤ x +ℤ pos 0 ≡ x
    unit_step x = omega (arith, ints)

    minus_zero : (j : ℤ) → j -ℤ pos 0 ≡ j
    minus_zero j = omega (arith, ints)

act-coefficient-one : (p : Laurent) (j : ℤ) → act p (coefficient one) j ≡ coefficient p j
unfolding act coefficient
act-coefficient-one [] j = refl
act-coefficient-one ((k, c) ∷ p) j = ap₂ (λ x y. x +ℤ y)
    (ap (λ x. c *ℤ x) (plain (at (pos 0) (pos 1) (j -ℤ k)))
    ∙ sym (at-scaled k (pos 0) c (pos 1) j)
    ∙ ap₂ (λ x y. at x y j) (no_shift k) (times_one_ℤ c)) (act-coefficient-one p j)
  where
    plain : (x : ℤ) → x +ℤ pos 0 ≡ x
    plain x = omega (arith, ints)

    no_shift : (k : ℤ) → k +ℤ pos 0 ≡ k
    no_shift k = omega (arith, ints)

    times_one_ℤ : (c : ℤ) → c *ℤ pos 1 ≡ c
    times_one_ℤ c = omega (arith, ints)

-- 1 in front changes nothing
pub one_times : (p : Laurent) → IsLaurent p → times one p ≡ p
one_times p h = same_laurent _ _ (IsLaurent-times one p) h (λ j. coefficient-times one p j ∙ act-one (coefficient p) j)

-- 1 behind changes nothing
pub times_one : (p : Laurent) → IsLaurent p → times p one ≡ p
times_one p h = same_laurent _ _ (IsLaurent-times p one) h (λ j. coefficient-times p one j ∙ act-coefficient-one p j)

act-zero : (p : Laurent) (j : ℤ) → act p (λ i. pos 0) j ≡ pos 0
unfolding act
act-zero [] j = refl
act-zero ((k, c) ∷ p) j = ap (λ x. c *ℤ pos 0 +ℤ x) (act-zero p j) ∙ nothing c
  where
    nothing : (c : ℤ) → c *ℤ pos 0 +ℤ pos 0 ≡ pos 0
    nothing c = omega (arith, ints)

-- a product with 0 behind is 0
pub times_nought : (p : Laurent) → times p [] ≡ []
unfolding coefficient collect
times_nought p = same_laurent _ _ (IsLaurent-times p []) refl (λ j. coefficient-times p [] j ∙ act-zero p j)

-- a product with 0 in front is 0
pub nought_times : (p : Laurent) → times [] p ≡ []
unfolding times products collect
nought_times p = refl

-- ---- bar

at-bar : (k c j : ℤ) → at (neg_ℤ k) c j ≡ at k c (neg_ℤ j)
at-bar k c j = by_eq (neg_ℤ k) j (λ b. cond b c (pos 0) ≡ at k c (neg_ℤ j))
    (λ e. let s : k ≡ neg_ℤ j = omega (arith, ints) in subst (λ x. c ≡ at k c x) s (sym (at-same k c)))
    (λ ne. let s : k ≢ neg_ℤ j = λ e. ne (omega (arith, ints)) in sym (at-other k c (neg_ℤ j) s))

coefficient-barred : (p : Laurent) (j : ℤ) → coefficient (barred p) j ≡ coefficient p (neg_ℤ j)
unfolding coefficient
coefficient-barred [] j = refl
coefficient-barred ((k, c) ∷ p) j = ap₂ (λ x y. x +ℤ y) (at-bar k c j) (coefficient-barred p j)

-- bar has at j the coefficient at -j
pub coefficient-bar : (p : Laurent) (j : ℤ) → coefficient (bar p) j ≡ coefficient p (neg_ℤ j)
unfolding bar
coefficient-bar p j = coefficient-collect (barred p) j ∙ coefficient-barred p j

-- what bar-invariance says of the coefficients, and back
pub even_coefficients : (p : Laurent) → IsBarInvariant p → (j : ℤ) → coefficient p (neg_ℤ j) ≡ coefficient p j
even_coefficients p h j = sym (coefficient-bar p j) ∙ ap (λ q. coefficient q j) h

-- a polynomial with the same coefficients at j and at -j is bar-invariant
pub bar_invariant-from : (p : Laurent) → IsLaurent p → ((j : ℤ) → coefficient p (neg_ℤ j) ≡ coefficient p j) →
    IsBarInvariant p
bar_invariant-from p l e = same_laurent _ _ (IsLaurent-bar p) l (λ j. coefficient-bar p j ∙ e j)

act-barred : (p : Laurent) (f : ℤ → ℤ) (j : ℤ) →
    act (barred p) (λ i. f (neg_ℤ i)) j ≡ act p f (neg_ℤ j)
unfolding act
act-barred [] f j = refl
act-barred ((k, c) ∷ p) f j = ap₂ (λ x y. c *ℤ f x +ℤ y) (turned j k) (act-barred p f j)
  where
    turned : (j k : ℤ) → neg_ℤ (j -ℤ neg_ℤ k) ≡ neg_ℤ j -ℤ k
    turned j k = omega (arith, ints)

-- bar of a product is the product of the bars
pub bar_times : (p q : Laurent) → bar (times p q) ≡ times (bar p) (bar q)
unfolding bar
bar_times p q = same_laurent _ _ (IsLaurent-bar (times p q)) (IsLaurent-times (bar p) (bar q))
    (λ j. coefficient-bar (times p q) j ∙ coefficient-times p q (neg_ℤ j) ∙ sym (act-barred p (coefficient q) j)
    ∙ act-alike (barred p) _ _ j (λ i. sym (coefficient-bar q i))
    ∙ sym (act-collect (barred p) (coefficient (bar q)) j)
    ∙ sym (coefficient-times (bar p) (bar q) j))

-- what is bar-invariant
pub bar_invariant-times : (p q : Laurent) → IsBarInvariant p → IsBarInvariant q → IsBarInvariant (times p q)
bar_invariant-times p q hp hq = bar_times p q ∙ ap₂ (λ x y. times x y) hp hq

-- a sum of bar-invariant polynomials is bar-invariant
pub bar_invariant-plus : (p q : Laurent) → IsBarInvariant p → IsBarInvariant q → IsBarInvariant (plus p q)
bar_invariant-plus p q hp hq = bar_invariant-from (plus p q) (IsLaurent-plus p q)
    (λ j.
    omega (
      arith,
      ints,
      coefficient-plus p q j,
      coefficient-plus p q (neg_ℤ j),
      even_coefficients p hp j,
      even_coefficients q hq j,
    ))

-- the negation of a bar-invariant polynomial is bar-invariant
pub bar_invariant-negate : (p : Laurent) → IsBarInvariant p → IsBarInvariant (negate p)
bar_invariant-negate p hp = bar_invariant-from (negate p) (IsLaurent-negate p)
    (λ j. coefficient-negate p (neg_ℤ j) ∙ ap neg_ℤ (even_coefficients p hp j) ∙ sym (coefficient-negate p j))

-- 0 is bar-invariant
pub bar_invariant-nought : IsBarInvariant []
unfolding bar collect
bar_invariant-nought = refl

-- 1 is bar-invariant
pub bar_invariant-one : IsBarInvariant one
unfolding bar collect add_term
bar_invariant-one = refl

-- ---- the lift

-- the terms whose powers pass a test
coefficient-filter : (t : ℤ → Bool) (p : Laurent) (j : ℤ) →
    coefficient (filter (λ x. t x.0) p) j ≡ cond (t j) (coefficient p j) (pos 0)
unfolding coefficient
coefficient-filter t [] j = none (t j)
  where
    none : (b : Bool) → pos 0 ≡ cond b (pos 0) (pos 0)
    none true = refl
    none false = refl
coefficient-filter t ((k, c) ∷ p) j = tested (t k) (t j) refl refl (coefficient-filter t p j)
  where
    other : (a b : Bool) → t k ≡ a → t j ≡ b → a ≢ b → at k c j ≡ pos 0
    other a b ta tb ne = at-other k c j (λ e. ne (sym ta ∙ ap t e ∙ tb))

    tested : (a b : Bool) → t k ≡ a → t j ≡ b →
        coefficient (filter (λ x. t x.0) p) j ≡ cond b (coefficient p j) (pos 0) →
        coefficient (cond a ((k, c) ∷ filter (λ x. t x.0) p) (filter (λ x. t x.0) p)) j
        ≡ cond b (at k c j +ℤ coefficient p j) (pos 0)
    tested true true ta tb ih = ap (λ x. at k c j +ℤ x) ih
    tested true false ta tb ih = omega (arith, ints, ih, other true false ta tb (λ z. cc))
    tested false true ta tb ih = omega (arith, ints, ih, other false true ta tb (λ z. cc))
    tested false false ta tb ih = ih

-- the lift has the coefficients of p up to 0, and past 0 those at the opposite power
pub coefficient-lift : (p : Laurent) (j : ℤ) →
    coefficient (lift p) j
    ≡ cond (int_le j (pos 0)) (coefficient p j) (pos 0)
    +ℤ cond (int_lt (neg_ℤ j) (pos 0)) (coefficient p (neg_ℤ j)) (pos 0)
unfolding lift
coefficient-lift p j =
    coefficient-collect
    (filter (λ t. int_le t.0 (pos 0)) p ++ map (λ t. (neg_ℤ t.0, t.1)) (filter (λ t. int_lt t.0 (pos 0)) p)) j
    ∙ coefficient-append (filter (λ t. int_le t.0 (pos 0)) p)
    (map (λ t. (neg_ℤ t.0, t.1)) (filter (λ t. int_lt t.0 (pos 0)) p)) j
    ∙ ap₂ (λ x y. x +ℤ y) (coefficient-filter (λ k. int_le k (pos 0)) p j)
    (coefficient-barred (filter (λ t. int_lt t.0 (pos 0)) p) j ∙ coefficient-filter (λ k. int_lt k (pos 0)) p (neg_ℤ j))

le_yes : (j : ℤ) → j ≤ℤ pos 0 → int_le j (pos 0) ≡ true
le_yes j h = grind (arith, ints)

le_no : (j : ℤ) → pos 0 <ℤ j → int_le j (pos 0) ≡ false
le_no j h = grind (arith, ints)

lt_yes : (j : ℤ) → pos 0 <ℤ j → int_lt (neg_ℤ j) (pos 0) ≡ true
lt_yes j h = grind (arith, ints)

lt_no : (j : ℤ) → j ≤ℤ pos 0 → int_lt (neg_ℤ j) (pos 0) ≡ false
lt_no j h = grind (arith, ints)

-- the two halves of the lift
pub lift-low : (p : Laurent) (j : ℤ) → j ≤ℤ pos 0 → coefficient (lift p) j ≡ coefficient p j
lift-low p j h =
    coefficient-lift p j
    ∙ ap₂ (λ a b. cond a (coefficient p j) (pos 0) +ℤ cond b (coefficient p (neg_ℤ j)) (pos 0)) (le_yes j h) (lt_no j h)
    ∙ omega (arith, ints)

-- above 0 the lift has at j the coefficient at -j
pub lift-high : (p : Laurent) (j : ℤ) → pos 0 <ℤ j → coefficient (lift p) j ≡ coefficient p (neg_ℤ j)
lift-high p j h =
    coefficient-lift p j
    ∙ ap₂ (λ a b. cond a (coefficient p j) (pos 0) +ℤ cond b (coefficient p (neg_ℤ j)) (pos 0)) (le_no j h) (lt_yes j h)
    ∙ omega (arith, ints)

-- the lift is bar-invariant
pub bar_invariant-lift : (p : Laurent) → IsBarInvariant (lift p)
bar_invariant-lift p = bar_invariant-from (lift p) (IsLaurent-lift p) (λ j.
    elim (int_cmp j (pos 0)) as (λ o. MatchOrdering o (j <ℤ pos 0) (j ≡ pos 0) (pos 0 <ℤ j) →
    coefficient (lift p) (neg_ℤ j) ≡ coefficient (lift p) j) [
      | Less ↦ λ lt.
          lift-high p (neg_ℤ j) (omega (arith, ints))
          ∙ ap (coefficient p) (twice j)
          ∙ sym (lift-low p j (omega (arith, ints)))
      | Equal ↦ λ e. ap (coefficient (lift p)) (zero_side j e)
      | Greater ↦ λ gt. lift-low p (neg_ℤ j) (omega (arith, ints)) ∙ sym (lift-high p j gt)
    ] (int_ranks j (pos 0)))
  where
    twice : (j : ℤ) → neg_ℤ (neg_ℤ j) ≡ j
    twice j = omega (arith, ints)

    zero_side : (j : ℤ) → j ≡ pos 0 → neg_ℤ j ≡ j
    zero_side j e = omega (arith, ints)

-- the rest after the lift has positive powers alone
pub lift_rest : (p : Laurent) → IsPositive (plus p (negate (lift p)))
lift_rest p j h =
    omega (arith, ints, coefficient-plus p (negate (lift p)) j, coefficient-negate (lift p) j, lift-low p j h)

-- two bar-invariant polynomials with the same coefficients at the powers up to 0 are equal
pub same_bar_invariant : (p q : Laurent) → IsBarInvariant p → IsBarInvariant q →
    ((j : ℤ) → j ≤ℤ pos 0 → coefficient p j ≡ coefficient q j) → p ≡ q
same_bar_invariant p q hp hq e = same_laurent p q (IsLaurent-bar_invariant p hp) (IsLaurent-bar_invariant q hq) (λ j.
    elim (int_cmp j (pos 0)) as (λ o. MatchOrdering o (j <ℤ pos 0) (j ≡ pos 0) (pos 0 <ℤ j) →
    coefficient p j ≡ coefficient q j) [
      | Less ↦ λ lt. e j (omega (arith, ints))
      | Equal ↦ λ s. e j (omega (arith, ints))
      | Greater ↦ λ gt. sym (even_coefficients p hp j) ∙ e (neg_ℤ j) (omega (arith, ints)) ∙ even_coefficients q hq j
    ] (int_ranks j (pos 0)))

-- the lift is the only bar-invariant polynomial with that rest
pub lift_unique : (p a : Laurent) → IsBarInvariant a → IsPositive (plus p (negate a)) → a ≡ lift p
lift_unique p a ha rest = same_bar_invariant a (lift p) ha (bar_invariant-lift p)
    (λ j h. omega (arith, ints, rest j h, coefficient-plus p (negate a) j, coefficient-negate a j, lift-low p j h))
