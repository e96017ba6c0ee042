-- What holds of every power of some polynomials holds of their sums, negatives and products, and a bound from below is
-- a bound on both sides of the lift.
use Rattle.std.proofs.Common.{◌≡◌, ℕ, ◌≤◌, List, [], ◌∷◌, ◌++◌, map, filter, ℤ, pos, neg_ℤ, ◌+ℤ◌, ◌*ℤ◌, ◌<ℤ◌, ◌≤ℤ◌}
use Rattle.std.proofs.Common.{true, int_le, int_lt, arith}
use Rattle.std.proofs.lemmas.Int.{ints}
use Rattle.std.specs.List.{AllByRecursion}
use Rattle.std.specs.Int.RustNames.{unsigned_abs}
use Rattle.sp_defs.specs.Laurent.{Laurent, Term, negate, products, times, lift, sum_over, IsLaurent, IsPositive}
use Rattle.sp_defs.specs.Within.{PowersWithin}
use Rattle.sp_lists.proofs.Elements.{all_append, all_map, all_filter}
use Rattle.sp_algebra.proofs.Coefficients.{Above, Canonical}
use Rattle.sp_algebra.proofs.Canonical.{canonical-from}
use Rattle.sp_algebra.proofs.Values.{first_positive}
use Rattle.sp_algebra.proofs.Sizes.{powers_collect, powers_plus}
use Rattle.sp_lists.proofs.Places.{all_weaken}

-- A fact of each power of a polynomial.
abbrev pub AllPowers : (ℤ → Type 0) → Laurent → Type 0
AllPowers P p = AllByRecursion (λ t. P t.0) p

-- The powers of minus p are those of p.
pub powers_negate : (P : ℤ → Type 0) (p : Laurent) → AllPowers P p → AllPowers P (negate p)
unfolding negate
powers_negate P p h =
    powers_collect P (map (λ t. (t.0, neg_ℤ t.1)) p) (all_map (λ t. P t.0) (λ t. (t.0, neg_ℤ t.1)) p h)

-- The powers of a sum are among those of its terms.
pub powers_sum : {X : Type 0} (P : ℤ → Type 0) (f : X → Laurent) (xs : List X) →
    AllByRecursion (λ x. AllPowers P (f x)) xs → AllPowers P (sum_over xs f)
unfolding sum_over
powers_sum P f [] h = tt
powers_sum P f (x ∷ xs) (h, hs) = powers_plus P (f x) (sum_over xs f) h (powers_sum P f xs hs)

-- ---- products

module _ (P Q R : ℤ → Type 0) (add : (j k : ℤ) → P j → Q k → R (j +ℤ k)) where
  powers_products : (p q : Laurent) → AllPowers P p → AllPowers Q q → AllPowers R (products p q)
  unfolding products
  powers_products [] q hp hq = tt
  powers_products ((k, c) ∷ p) q (h, hp) hq =
      all_append (λ t. R t.0) (map (λ t. (k +ℤ t.0, c *ℤ t.1)) q) (products p q)
      (all_map (λ t. R t.0) (λ t. (k +ℤ t.0, c *ℤ t.1)) q
      (all_weaken (λ t. Q t.0) (λ t. R (k +ℤ t.0)) q (λ t g. add k t.0 h g) hq))
      (powers_products p q hp hq)

  -- The powers of a product are sums of powers.
  pub powers_times : (p q : Laurent) → AllPowers P p → AllPowers Q q → AllPowers R (times p q)
  unfolding times
  powers_times p q hp hq = powers_collect R (products p q) (powers_products p q hp hq)

-- ---- bounds from below

-- at least -d
abbrev pub Floor : ℕ → ℤ → Type 0
Floor d k = neg_ℤ (pos d) ≤ℤ k

-- Powers that lie within d are at least minus d.
pub within_floor : (d : ℕ) (p : Laurent) → PowersWithin d p → AllPowers (Floor d) p
within_floor d p h = all_weaken (λ t. unsigned_abs t.0 ≤ d) (λ t. Floor d t.0) p (λ t g. low t.0 g) h
  where
    low : (k : ℤ) → unsigned_abs k ≤ d → Floor d k
    low k g = omega (arith, ints)

-- only powers up to 0 count in the lift
pub within_lift : (d : ℕ) (p : Laurent) → AllPowers (Floor d) p → PowersWithin d (lift p)
unfolding lift
within_lift d p h =
    powers_collect (λ k. unsigned_abs k ≤ d)
    (filter (λ t. int_le t.0 (pos 0)) p ++ map (λ t. (neg_ℤ t.0, t.1)) (filter (λ t. int_lt t.0 (pos 0)) p))
    (all_append near (filter (λ t. int_le t.0 (pos 0)) p)
    (map (λ t. (neg_ℤ t.0, t.1)) (filter (λ t. int_lt t.0 (pos 0)) p))
    (all_filter near (λ t. int_le t.0 (pos 0)) p
    (all_weaken (λ t. Floor d t.0) (λ t. int_le t.0 (pos 0) ≡ true → near t) p (λ t g e. own t.0 g e) h))
    (all_map near (λ t. (neg_ℤ t.0, t.1)) (filter (λ t. int_lt t.0 (pos 0)) p)
    (all_filter (λ t. near (neg_ℤ t.0, t.1)) (λ t. int_lt t.0 (pos 0)) p
    (all_weaken (λ t. Floor d t.0) (λ t. int_lt t.0 (pos 0) ≡ true → near (neg_ℤ t.0, t.1)) p
    (λ t g e. turned t.0 g e) h))))
  where
    near : Term → Type 0
    near t = unsigned_abs t.0 ≤ d

    own : (k : ℤ) → Floor d k → int_le k (pos 0) ≡ true → unsigned_abs k ≤ d
    own k g e = let low : k ≤ℤ pos 0 = grind (arith, ints) in omega (arith, ints)

    turned : (k : ℤ) → Floor d k → int_lt k (pos 0) ≡ true → unsigned_abs (neg_ℤ k) ≤ d
    turned k g e = let low : k <ℤ pos 0 = grind (arith, ints) in omega (arith, ints)

-- where the coefficients up to 0 are 0, there are no such powers
pub positive_powers : (p : Laurent) → IsLaurent p → IsPositive p → AllPowers (λ k. pos 0 <ℤ k) p
positive_powers p l h = by_first p (canonical-from p l) h
  where
    past : (m : ℤ) (p : Laurent) → pos 0 <ℤ m → Above m p → AllPowers (λ k. pos 0 <ℤ k) p
    past m [] g a = tt
    past m ((k, c) ∷ p) g (lt, a) = (omega (arith, ints), past m p g a)

    by_first : (p : Laurent) → Canonical p → IsPositive p → AllPowers (λ k. pos 0 <ℤ k) p
    by_first [] c h = tt
    by_first ((k, c) ∷ p) (ne, (a, rest)) h =
        let first : pos 0 <ℤ k = first_positive k c p (ne, (a, rest)) h in (first, past k p first a)
