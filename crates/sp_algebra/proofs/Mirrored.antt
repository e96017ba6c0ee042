-- The canonical form of the bar, as code computes it: the terms from last to first with their powers negated.
use Rattle.std.proofs.Common.{◌≡◌, ◌≢◌, [], ◌∷◌, ◌++◌, map, reverse, refl, sym, ◌∙◌, ap}
use Rattle.std.proofs.Common.{subst, arith, ℤ, pos, neg_ℤ, ◌<ℤ◌}
use Rattle.std.proofs.lemmas.Int.{ints}
use Rattle.std.proofs.lemmas.List.{reverse-append}
use Rattle.std.specs.List.{AllByRecursion}
use Rattle.sp_defs.specs.Laurent.{Laurent, Term, coefficient, bar, IsLaurent}
use Rattle.sp_lists.proofs.Elements.{all_append}
use Rattle.sp_algebra.proofs.Coefficients.{Above, Canonical, coefficient-append, same_collection, IsLaurent-canonical}
use Rattle.sp_algebra.proofs.Canonical.{canonical-from}

-- the terms with their powers negated
abbrev pub mirrored : Laurent → Laurent
mirrored p = map (λ t. (neg_ℤ t.0, t.1)) p

-- all powers are less than m
abbrev pub Below : ℤ → Laurent → Type 0
Below m p = AllByRecursion (λ t. t.0 <ℤ m) p

-- the powers descend and no coefficient is 0
abbrev pub Descending : Laurent → Type 0
Descending [] = Unit {0}
Descending ((k, c) ∷ p) = (c ≢ pos 0) × (Below k p × Descending p)

-- powers above k, negated, are below -k
pub below_mirrored : (k : ℤ) (p : Laurent) → Above k p → Below (neg_ℤ k) (mirrored p)
below_mirrored k [] h = tt
below_mirrored k ((j, c) ∷ p) (lt, h) = (omega (arith, ints), below_mirrored k p h)

-- a canonical list with its powers negated descends
pub descending_mirrored : (p : Laurent) → Canonical p → Descending (mirrored p)
descending_mirrored [] h = tt
descending_mirrored ((k, c) ∷ p) (ne, (a, h)) = (ne, (below_mirrored k p a, descending_mirrored p h))

above_push : (m k c : ℤ) (p : Laurent) → Above m p → m <ℤ k → Above m (p ++ ((k, c) ∷ []))
above_push m k c [] a lt = (lt, tt)
above_push m k c ((j, d) ∷ p) (h, a) lt = (h, above_push m k c p a lt)

canonical_push : (k c : ℤ) (p : Laurent) → Canonical p → Below k p → c ≢ pos 0 → Canonical (p ++ ((k, c) ∷ []))
canonical_push k c [] h b ne = (ne, (tt, tt))
canonical_push k c ((j, d) ∷ p) (nd, (a, h)) (lt, b) ne = (nd, (above_push j k c p a lt, canonical_push k c p h b ne))

reverse-cons : (t : Term) (p : Laurent) → reverse (t ∷ p) ≡ reverse p ++ (t ∷ [])
reverse-cons t p = reverse-append (t ∷ []) p

-- what holds of all terms holds of all from last to first
pub all_reverse : (P : Term → Type 0) (p : Laurent) → AllByRecursion P p → AllByRecursion P (reverse p)
all_reverse P [] h = tt
all_reverse P (t ∷ p) (h, hs) = subst (λ q. AllByRecursion P q) (sym (reverse-cons t p))
    (all_append P (reverse p) (t ∷ []) (all_reverse P p hs) (h, tt))

-- a descending list turned around is canonical
pub canonical_reverse : (p : Laurent) → Descending p → Canonical (reverse p)
canonical_reverse [] h = tt
canonical_reverse ((k, c) ∷ p) (ne, (b, h)) =
    subst Canonical (sym (reverse-cons (k, c) p))
    (canonical_push k c (reverse p) (canonical_reverse p h) (all_reverse (λ t. t.0 <ℤ k) p b) ne)

-- a list turned around has the same coefficients
pub coefficient-reverse : (p : Laurent) (j : ℤ) → coefficient (reverse p) j ≡ coefficient p j
unfolding coefficient
coefficient-reverse [] j = refl
coefficient-reverse ((k, c) ∷ p) j =
    ap (λ q. coefficient q j) (reverse-cons (k, c) p) ∙ coefficient-append (reverse p) ((k, c) ∷ []) j
    ∙ omega (arith, ints, coefficient-reverse p j)

-- the bar turns the list around
pub bar_is : (p : Laurent) → IsLaurent p → bar p ≡ reverse (mirrored p)
unfolding bar
bar_is p h =
    same_collection (mirrored p) (reverse (mirrored p)) (λ j. sym (coefficient-reverse (mirrored p) j))
    ∙ IsLaurent-canonical (reverse (mirrored p)) (canonical_reverse (mirrored p)
    (descending_mirrored p (canonical-from p h)))
