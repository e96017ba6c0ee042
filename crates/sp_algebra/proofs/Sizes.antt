-- The size of a sum, a product and a monomial, and how far their powers lie from 0.
use Rattle.std.proofs.Common.{◌≡◌, refl, ℕ, zero, suc, ◌+◌, ◌*◌, ◌<◌, ◌≤◌, length, get_or, true, false, cond, [], ◌∷◌}
use Rattle.std.proofs.Common.{List, ◌++◌}
use Rattle.std.proofs.Common.{map, sym, ap, subst, arith, ℤ, pos, neg_ℤ, ◌+ℤ◌, ◌*ℤ◌, Less, Equal, Greater, int_cmp}
use Rattle.std.proofs.Common.{int_eq}
use Rattle.std.proofs.lemmas.Int.{ints, unsigned_abs-mul}
use Rattle.std.proofs.lemmas.List.Sums.{sum_by-append, sum_by-cons}
use Rattle.std.specs.Int.RustNames.{unsigned_abs}
use Rattle.std.specs.List.{AllByRecursion}
use Rattle.sp_defs.specs.Laurent.{Laurent, Term, put, placed, add_term, collect, plus, products, times, negate, bar}
use Rattle.sp_defs.specs.Laurent.{monomial, size, sum_over}
use Rattle.sp_defs.specs.Within.{PowersWithin, ProductWithin}
use Rattle.sp_lists.proofs.Elements.{all_append}
use Rattle.sp_algebra.proofs.Coefficients.{by_eq}

-- ---- sizes

-- a term in front adds its own size
pub size-cons : (k c : ℤ) (p : Laurent) → size ((k, c) ∷ p) ≡ unsigned_abs c + size p
size-cons k c p = sum_by-cons (λ t. unsigned_abs t.1) (k, c) p

-- the size of joined lists is the sum of the sizes
pub size-append : (p q : Laurent) → size (p ++ q) ≡ size p + size q
size-append p q = sum_by-append (λ t. unsigned_abs t.1) p q

-- a term in front, unless it is 0, adds its own size
pub size-put : (k c : ℤ) (p : Laurent) → size (put k c p) ≡ unsigned_abs c + size p
size-put k c p =
    by_eq c (pos 0) (λ b. size (cond b p ((k, c) ∷ p)) ≡ unsigned_abs c + size p)
    (λ e. subst (λ x. size p ≡ unsigned_abs x + size p) (sym e) (omega arith))
    (λ _. size-cons k c p)

-- the size of c * v^k is that of c
pub size-monomial : (k c : ℤ) → size (monomial k c) ≡ unsigned_abs c
size-monomial k c = omega (arith, size-put k c [])

size_add_term : (k c : ℤ) (p : Laurent) → size (add_term k c p) ≤ unsigned_abs c + size p
unfolding add_term
size_add_term k c [] = omega (arith, size-put k c [])
size_add_term k c ((j, d) ∷ p) =
    elim (int_cmp k j) as (λ o. size (placed o (k, c) (j, d) p (add_term k c p))
    ≤ unsigned_abs c + size ((j, d) ∷ p)) [
      | Less ↦ omega (arith, size-put k c ((j, d) ∷ p))
      | Equal ↦ omega (arith, ints, size-put k (c +ℤ d) p, size-cons j d p)
      | Greater ↦ omega (arith, size-cons j d (add_term k c p), size-cons j d p, size_add_term k c p)
    ]

-- collecting like powers makes no size greater
pub size_collect : (ts : Laurent) → size (collect ts) ≤ size ts
unfolding collect
size_collect [] = omega arith
size_collect ((k, c) ∷ ts) = omega (arith, size_add_term k c (collect ts), size_collect ts, size-cons k c ts)

-- the size of a sum is at most the sum of the sizes
pub size_plus : (p q : Laurent) → size (plus p q) ≤ size p + size q
unfolding plus
size_plus p q = omega (arith, size_collect (p ++ q), size-append p q)

-- the terms times c * v^k have the size of c times theirs
pub size-multiples : (k c : ℤ) (q : Laurent) → size (map (λ t. (k +ℤ t.0, c *ℤ t.1)) q) ≡ unsigned_abs c * size q
size-multiples k c [] = omega arith
size-multiples k c ((j, d) ∷ q) =
    omega (
      arith,
      size-cons (k +ℤ j) (c *ℤ d) (map (λ t. (k +ℤ t.0, c *ℤ t.1)) q),
      unsigned_abs-mul c d,
      size-multiples k c q,
      ap (λ n. unsigned_abs c * n) (size-cons j d q),
    )

-- all products of a term of p and a term of q have the product of the sizes
pub size-products : (p q : Laurent) → size (products p q) ≡ size p * size q
unfolding products
size-products [] q = omega arith
size-products ((k, c) ∷ p) q =
    omega (
      arith,
      size-append (map (λ t. (k +ℤ t.0, c *ℤ t.1)) q) (products p q),
      size-multiples k c q,
      size-products p q,
      ap (λ n. n * size q) (size-cons k c p),
    )

-- the size of a product is at most the product of the sizes
pub size_times : (p q : Laurent) → size (times p q) ≤ size p * size q
unfolding times
size_times p q = omega (arith, size_collect (products p q), size-products p q)

-- a coefficient is at most the size
pub coefficient_le : (p : Laurent) (i : ℕ) (d : Term) → i < length p → unsigned_abs (get_or p i d).1 ≤ size p
coefficient_le [] i d lt = absurd (omega arith)
coefficient_le ((k, c) ∷ p) zero d lt = omega (arith, size-cons k c p)
coefficient_le ((k, c) ∷ p) (suc i) d lt = omega (arith, size-cons k c p, coefficient_le p i d (omega arith))

-- ---- powers: each operation keeps what is true of every power

within_put : (P : ℤ → Type 0) (k c : ℤ) (p : Laurent) → P k → AllByRecursion (λ t. P t.0) p
    → AllByRecursion (λ t. P t.0) (put k c p)
within_put P k c p h all =
    elim (int_eq c (pos 0)) as (λ b. AllByRecursion (λ t. P t.0) (cond b p ((k, c) ∷ p))) [
      | true ↦ all
      | false ↦ (h, all)
    ]

within_add_term : (P : ℤ → Type 0) (k c : ℤ) (p : Laurent) → P k → AllByRecursion (λ t. P t.0) p
    → AllByRecursion (λ t. P t.0) (add_term k c p)
unfolding add_term
within_add_term P k c [] h all = within_put P k c [] h tt
within_add_term P k c ((j, d) ∷ p) h (hj, all) =
    elim (int_cmp k j) as (λ o. AllByRecursion (λ t. P t.0) (placed o (k, c) (j, d) p (add_term k c p))) [
      | Less ↦ within_put P k c ((j, d) ∷ p) h (hj, all)
      | Equal ↦ within_put P k (c +ℤ d) p h all
      | Greater ↦ (hj, within_add_term P k c p h all)
    ]

-- a power of a collection is one of the terms
pub powers_collect : (P : ℤ → Type 0) (ts : Laurent) → AllByRecursion (λ t. P t.0) ts
    → AllByRecursion (λ t. P t.0) (collect ts)
unfolding collect
powers_collect P [] all = tt
powers_collect P ((k, c) ∷ ts) (h, all) = within_add_term P k c (collect ts) h (powers_collect P ts all)

-- a power of a sum is one of the two
pub powers_plus : (P : ℤ → Type 0) (p q : Laurent) → AllByRecursion (λ t. P t.0) p → AllByRecursion (λ t. P t.0) q
    → AllByRecursion (λ t. P t.0) (plus p q)
unfolding plus
powers_plus P p q hp hq = powers_collect P (p ++ q) (all_append (λ t. P t.0) p q hp hq)

-- where the powers of two polynomials are within d of 0, so are those of their sum
pub within_plus : (d : ℕ) (p q : Laurent) → PowersWithin d p → PowersWithin d q → PowersWithin d (plus p q)
within_plus d p q hp hq = powers_plus (λ k. unsigned_abs k ≤ d) p q hp hq

-- and where those of all terms of a sum are, so are those of the sum
pub within_sum : {X : Type 0} (d : ℕ) (f : X → Laurent) (xs : List X) →
    AllByRecursion (λ x. PowersWithin d (f x)) xs → PowersWithin d (sum_over xs f)
unfolding sum_over
within_sum d f [] h = tt
within_sum d f (x ∷ xs) (h, hs) = within_plus d (f x) (sum_over xs f) h (within_sum d f xs hs)

within_multiples : (d : ℕ) (k c : ℤ) (q : Laurent) → AllByRecursion (λ t. unsigned_abs (k +ℤ t.0) ≤ d) q
    → PowersWithin d (map (λ t. (k +ℤ t.0, c *ℤ t.1)) q)
within_multiples d k c [] h = tt
within_multiples d k c ((j, b) ∷ q) (h, hs) = (h, within_multiples d k c q hs)

within_products : (d : ℕ) (p q : Laurent) → ProductWithin d p q → PowersWithin d (products p q)
unfolding products
within_products d [] q h = tt
within_products d ((k, c) ∷ p) q (h, hs) =
    all_append (λ t. unsigned_abs t.0 ≤ d) (map (λ t. (k +ℤ t.0, c *ℤ t.1)) q) (products p q)
    (within_multiples d k c q h) (within_products d p q hs)

-- the powers of a product lie where the sums of two powers do
pub within_times : (d : ℕ) (p q : Laurent) → ProductWithin d p q → PowersWithin d (times p q)
unfolding times
within_times d p q h = powers_collect (λ k. unsigned_abs k ≤ d) (products p q) (within_products d p q h)

-- a sum lies no further from 0 than both numbers together
pub sum_near : (x y : ℤ) → unsigned_abs (x +ℤ y) ≤ unsigned_abs x + unsigned_abs y
sum_near x y = omega (arith, ints)

sums_within : (x y d : ℕ) (k : ℤ) (q : Laurent) → x + y ≤ d → unsigned_abs k ≤ x → PowersWithin y q
    → AllByRecursion (λ t. unsigned_abs (k +ℤ t.0) ≤ d) q
sums_within x y d k [] le hk hq = tt
sums_within x y d k ((j, c) ∷ q) le hk (hj, hq) = (omega (arith, ints), sums_within x y d k q le hk hq)

-- bounds on the two polynomials add up
pub product_within : (x y d : ℕ) (p q : Laurent) → x + y ≤ d → PowersWithin x p → PowersWithin y q
    → ProductWithin d p q
product_within x y d [] q le hp hq = tt
product_within x y d ((k, c) ∷ p) q le (hk, hp) hq =
    (sums_within x y d k q le hk hq, product_within x y d p q le hp hq)

-- products within d of 0 are within any greater number
pub product_within_more : (d e : ℕ) (p q : Laurent) → d ≤ e → ProductWithin d p q → ProductWithin e p q
product_within_more d e [] q le h = tt
product_within_more d e ((k, c) ∷ p) q le (h, hs) = (more q h, product_within_more d e p q le hs)
  where
    more : (q : Laurent) → AllByRecursion (λ t. unsigned_abs (k +ℤ t.0) ≤ d) q
        → AllByRecursion (λ t. unsigned_abs (k +ℤ t.0) ≤ e) q
    more [] h = tt
    more ((j, b) ∷ q) (h, hs) = (omega arith, more q hs)

-- products with 0 are within any number
pub product_within-right_nil : (d : ℕ) (q : Laurent) → ProductWithin d q []
product_within-right_nil d [] = tt
product_within-right_nil d (t ∷ q) = (tt, product_within-right_nil d q)

-- one more term of the right factor
product_within-right_cons : (d : ℕ) (k c : ℤ) (p q : Laurent) → AllByRecursion (λ t. unsigned_abs (k +ℤ t.0) ≤ d) q
    → ProductWithin d q p → ProductWithin d q ((k, c) ∷ p)
product_within-right_cons d k c p [] h hs = tt
product_within-right_cons d k c p ((j, b) ∷ q) (h, ht) (g, hs) =
    ((omega (arith, ints), g), product_within-right_cons d k c p q ht hs)

-- how far products lie from 0 does not depend on the order of the factors
pub product_within-swap : (d : ℕ) (p q : Laurent) → ProductWithin d p q → ProductWithin d q p
product_within-swap d [] q h = product_within-right_nil d q
product_within-swap d ((k, c) ∷ p) q (h, hs) = product_within-right_cons d k c p q h (product_within-swap d p q hs)

-- what holds of k holds of all powers of c * v^k
pub powers_monomial : (P : ℤ → Type 0) (k c : ℤ) → P k → AllByRecursion (λ t. P t.0) (monomial k c)
powers_monomial P k c h = within_put P k c [] h tt

-- where k is within d of 0, so is the power of c * v^k
pub within_monomial : (d : ℕ) (k c : ℤ) → unsigned_abs k ≤ d → PowersWithin d (monomial k c)
within_monomial d k c h = powers_monomial (λ j. unsigned_abs j ≤ d) k c h

-- powers within d of 0 are within any greater number
pub within_more : (d e : ℕ) (p : Laurent) → d ≤ e → PowersWithin d p → PowersWithin e p
within_more d e [] le all = tt
within_more d e ((k, c) ∷ p) le (h, all) = (omega arith, within_more d e p le all)

-- ---- the negative and the bar

-- negated coefficients have the same size
pub size-negated : (p : Laurent) → size (map (λ t. (t.0, neg_ℤ t.1)) p) ≡ size p
size-negated [] = refl
size-negated ((k, c) ∷ p) =
    omega (arith, ints, size-cons k (neg_ℤ c) (map (λ t. (t.0, neg_ℤ t.1)) p), size-cons k c p, size-negated p)

-- a negation's size is at most the polynomial's
pub size_negate : (p : Laurent) → size (negate p) ≤ size p
unfolding negate
size_negate p = omega (arith, size_collect (map (λ t. (t.0, neg_ℤ t.1)) p), size-negated p)

-- negated powers leave the size
pub size-mirrored : (p : Laurent) → size (map (λ t. (neg_ℤ t.0, t.1)) p) ≡ size p
size-mirrored [] = refl
size-mirrored ((k, c) ∷ p) =
    omega (arith, size-cons (neg_ℤ k) c (map (λ t. (neg_ℤ t.0, t.1)) p), size-cons k c p, size-mirrored p)

-- a bar's size is at most the polynomial's
pub size_bar : (p : Laurent) → size (bar p) ≤ size p
unfolding bar
size_bar p = omega (arith, size_collect (map (λ t. (neg_ℤ t.0, t.1)) p), size-mirrored p)

-- where powers are within d of 0, so are those of the negation
pub within_negate : (d : ℕ) (p : Laurent) → PowersWithin d p → PowersWithin d (negate p)
unfolding negate
within_negate d p h = powers_collect (λ k. unsigned_abs k ≤ d) (map (λ t. (t.0, neg_ℤ t.1)) p) (same p h)
  where
    same : (p : Laurent) → PowersWithin d p → PowersWithin d (map (λ t. (t.0, neg_ℤ t.1)) p)
    same [] h = tt
    same ((k, c) ∷ p) (h, hs) = (h, same p hs)

-- where powers are within d of 0, so are the negated ones
pub within-mirrored : (d : ℕ) (p : Laurent) → PowersWithin d p → PowersWithin d (map (λ t. (neg_ℤ t.0, t.1)) p)
within-mirrored d [] h = tt
within-mirrored d ((k, c) ∷ p) (h, hs) = (omega (arith, ints), within-mirrored d p hs)

-- where powers are within d of 0, so are those of the bar
pub within_bar : (d : ℕ) (p : Laurent) → PowersWithin d p → PowersWithin d (bar p)
unfolding bar
within_bar d p h = powers_collect (λ k. unsigned_abs k ≤ d) (map (λ t. (neg_ℤ t.0, t.1)) p) (within-mirrored d p h)
