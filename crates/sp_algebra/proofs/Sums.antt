-- Sums of a polynomial for each element of a list: over joined, mapped and nested lists, and with a factor in front.
use Rattle.std.proofs.Common.{◌≡◌, ◌≢◌, List, [], ◌∷◌, ◌++◌, map, flat_map, refl, sym, ◌∙◌, ap, ap₂, ℤ, ◌+ℤ◌, ◌⊎◌, inl}
use Rattle.std.proofs.Common.{inr}
use Rattle.std.specs.List.{AllByRecursion}
use Rattle.sp_defs.specs.Laurent.{Laurent, collect, add_term, products, plus, times, power, IsLaurent, sum_over}
use Rattle.sp_lists.proofs.Elements.{nil_or_not}
use Rattle.sp_algebra.proofs.Laws.{IsLaurent-plus, plus_assoc, nought_plus, times_plus, times_nought}

-- a sum over a list is a polynomial
pub IsLaurent-sum_over : {X : Type 0} (xs : List X) (f : X → Laurent) → IsLaurent (sum_over xs f)
unfolding sum_over collect
IsLaurent-sum_over [] f = refl
IsLaurent-sum_over (x ∷ xs) f = IsLaurent-plus (f x) (sum_over xs f)

-- over joined lists
pub sum_over-append : {X : Type 0} (xs ys : List X) (f : X → Laurent) →
    sum_over (xs ++ ys) f ≡ plus (sum_over xs f) (sum_over ys f)
unfolding sum_over
sum_over-append [] ys f = sym (nought_plus (sum_over ys f) (IsLaurent-sum_over ys f))
sum_over-append (x ∷ xs) ys f =
    ap (plus (f x)) (sum_over-append xs ys f) ∙ sym (plus_assoc (f x) (sum_over xs f) (sum_over ys f))

-- with equal polynomials
pub sum_over-alike : {X : Type 0} (xs : List X) (f g : X → Laurent) → AllByRecursion (λ x. f x ≡ g x) xs →
    sum_over xs f ≡ sum_over xs g
unfolding sum_over
sum_over-alike [] f g h = refl
sum_over-alike (x ∷ xs) f g (h, hs) = ap₂ (λ p q. plus p q) h (sum_over-alike xs f g hs)

-- over a list of lists, one after the other
pub sum_over-flat : {X Y : Type 0} (f : X → List Y) (xs : List X) (g : Y → Laurent) →
    sum_over (flat_map f xs) g ≡ sum_over xs (λ x. sum_over (f x) g)
unfolding sum_over
sum_over-flat f [] g = refl
sum_over-flat f (x ∷ xs) g =
    sum_over-append (f x) (flat_map f xs) g ∙ ap (plus (sum_over (f x) g)) (sum_over-flat f xs g)

-- over a mapped list
pub sum_over-map : {X Y : Type 0} (h : X → Y) (xs : List X) (g : Y → Laurent) →
    sum_over (map h xs) g ≡ sum_over xs (λ x. g (h x))
unfolding sum_over
sum_over-map h [] g = refl
sum_over-map h (x ∷ xs) g = ap (plus (g (h x))) (sum_over-map h xs g)

-- a factor goes into the sum
pub times-sum_over : {X : Type 0} (p : Laurent) (xs : List X) (f : X → Laurent) →
    times p (sum_over xs f) ≡ sum_over xs (λ x. times p (f x))
unfolding sum_over
times-sum_over p [] f = times_nought p
times-sum_over p (x ∷ xs) f = times_plus p (f x) (sum_over xs f) ∙ ap (plus (times p (f x))) (times-sum_over p xs f)

-- exponents add up
pub power-times : (a b : ℤ) → times (power a) (power b) ≡ power (a +ℤ b)
unfolding times products collect add_term
power-times a b = refl

-- a sum that is not 0 has a term that is not 0
pub nonzero_term : {X : Type 0} (P : X → Type 0) (xs : List X) (f : X → Laurent) → AllByRecursion P xs →
    sum_over xs f ≢ [] → (x : X) × P x × (f x ≢ [])
unfolding sum_over
nonzero_term P [] f h ne = absurd (ne refl)
nonzero_term {X = X} P (x ∷ xs) f (h, hs) ne = step (nonzero_term P xs f hs) (nil_or_not (f x))
  where
    step : (sum_over xs f ≢ [] → (x : X) × P x × (f x ≢ [])) → (f x ≡ []) ⊎ (f x ≢ []) → (x : X) × P x × (f x ≢ [])
    step more (inl e) =
        more (λ z. ne (ap (λ p. plus p (sum_over xs f)) e ∙ nought_plus (sum_over xs f) (IsLaurent-sum_over xs f) ∙ z))
    step more (inr n) = (x, h, n)
