-- For a polynomial the negation, and the product with a power of v, go term by term: the list that a loop over the
-- terms makes needs no collecting.
use Rattle.std.proofs.Common.{◌≡◌, [], ◌∷◌, map, refl, ◌∙◌, ap, ap₂, subst, ℤ, pos, neg_ℤ, ◌+ℤ◌, ◌*ℤ◌, arith}
use Rattle.std.proofs.lemmas.Int.{ints}
use Rattle.std.proofs.lemmas.List.{append-nil}
use Rattle.sp_defs.specs.Laurent.{Laurent, IsLaurent, negate, collect, products, times, power}
use Rattle.sp_algebra.proofs.Coefficients.{Above, Canonical, Canonical-collect, IsLaurent-canonical}

-- a polynomial is a canonical list, and back by `IsLaurent-canonical`
pub canonical-from : (p : Laurent) → IsLaurent p → Canonical p
canonical-from p h = subst (λ q. Canonical q) h (Canonical-collect p)

above-negated : (k : ℤ) (p : Laurent) → Above k p → Above k (map (λ t. (t.0, neg_ℤ t.1)) p)
above-negated k [] h = tt
above-negated k ((j, c) ∷ p) (h, hs) = (h, above-negated k p hs)

-- negated coefficients leave a canonical list canonical
pub canonical-negated : (p : Laurent) → Canonical p → Canonical (map (λ t. (t.0, neg_ℤ t.1)) p)
canonical-negated [] h = tt
canonical-negated ((k, c) ∷ p) (ne, (a, h)) =
    ((λ e. ne (omega (arith, ints, e))), (above-negated k p a, canonical-negated p h))

-- the negation is the list of the negated terms
pub negate_is : (p : Laurent) → IsLaurent p → negate p ≡ map (λ t. (t.0, neg_ℤ t.1)) p
unfolding negate
negate_is p h = IsLaurent-canonical (map (λ t. (t.0, neg_ℤ t.1)) p) (canonical-negated p (canonical-from p h))

-- the list of the negated terms is a polynomial
pub IsLaurent-negated : (p : Laurent) → IsLaurent p → IsLaurent (map (λ t. (t.0, neg_ℤ t.1)) p)
IsLaurent-negated p h = IsLaurent-canonical (map (λ t. (t.0, neg_ℤ t.1)) p) (canonical-negated p (canonical-from p h))

-- ---- times a power of v

-- each power by k greater
abbrev pub shifted : ℤ → Laurent → Laurent
shifted k p = map (λ t. (k +ℤ t.0, t.1)) p

above-shifted : (k m : ℤ) (p : Laurent) → Above m p → Above (k +ℤ m) (shifted k p)
above-shifted k m [] h = tt
above-shifted k m ((j, c) ∷ p) (h, hs) = (omega (arith, ints), above-shifted k m p hs)

canonical-shifted : (k : ℤ) (p : Laurent) → Canonical p → Canonical (shifted k p)
canonical-shifted k [] h = tt
canonical-shifted k ((j, c) ∷ p) (ne, (a, h)) = (ne, (above-shifted k j p a, canonical-shifted k p h))

-- the products of v^k and each term: each power by k greater
pub products-power : (k : ℤ) (p : Laurent) → products (power k) p ≡ shifted k p
unfolding products
products-power k p = append-nil (map (λ t. (k +ℤ t.0, pos 1 *ℤ t.1)) p) ∙ same p
  where
    same : (p : Laurent) → map (λ t. (k +ℤ t.0, pos 1 *ℤ t.1)) p ≡ shifted k p
    same [] = refl
    same ((j, c) ∷ p) = ap₂ (λ x q. (k +ℤ j, x) ∷ q) (once c) (same p)
      where
        once : (c : ℤ) → pos 1 *ℤ c ≡ c
        once c = omega (arith, ints)

-- a power of v times a polynomial is the list with that power added to each
pub shifted_is : (k : ℤ) (p : Laurent) → IsLaurent p → times (power k) p ≡ shifted k p
unfolding times
shifted_is k p h =
    ap collect (products-power k p)
    ∙ IsLaurent-canonical (shifted k p) (canonical-shifted k p (canonical-from p h))
