-- Lists mapped, filtered or reversed: what does not depend on the order of the two.
use Rattle.std.proofs.Common.{◌≡◌, ◌&&◌, ◌||◌, Bool, true, false, cond, List, [], ◌∷◌, ◌++◌, map, filter, reverse}
use Rattle.std.proofs.Common.{refl}
use Rattle.std.proofs.Common.{sym, ◌∙◌, ap, ap₂}
use Rattle.std.specs.List.{AllByRecursion, list_all, list_any}
use Rattle.std.proofs.Math.Bool.{and-true, and_comm, or-false, or_comm}
use Rattle.std.proofs.lemmas.List.{append-nil, map-append, reverse-append}
use Rattle.std.proofs.lemmas.List.Elements.{filter-append}
use Rattle.std.proofs.lemmas.List.Folds.{list_all-append, list_any-append}

-- ---- maps

-- functions that agree on each element
pub map-alike : {X Y : Type 0} (f g : X → Y) (xs : List X) → AllByRecursion (λ x. f x ≡ g x) xs → map f xs ≡ map g xs
map-alike f g [] h = refl
map-alike f g (x ∷ xs) (h, hs) = ap₂ (λ y ys. y ∷ ys) h (map-alike f g xs hs)

-- a test of the elements that says what a test of the images says
pub map-filter : {X Y : Type 0} (f : X → Y) (s : X → Bool) (t : Y → Bool) (xs : List X) →
    AllByRecursion (λ x. s x ≡ t (f x)) xs → map f (filter s xs) ≡ filter t (map f xs)
map-filter f s t [] h = refl
map-filter f s t (x ∷ xs) (h, hs) =
    tested (s x) (map-filter f s t xs hs)
    ∙ ap (λ b. cond b (f x ∷ filter t (map f xs)) (filter t (map f xs))) h
  where
    tested : (b : Bool) → map f (filter s xs) ≡ filter t (map f xs) →
        map f (cond b (x ∷ filter s xs) (filter s xs)) ≡ cond b (f x ∷ filter t (map f xs)) (filter t (map f xs))
    tested true ih = ap (λ ys. f x ∷ ys) ih
    tested false ih = ih

-- the images that pass are the images of what passes by its image
pub filter-map : {X Y : Type 0} (t : Y → Bool) (f : X → Y) (xs : List X) →
    filter t (map f xs) ≡ map f (filter (λ x. t (f x)) xs)
filter-map t f xs = sym (map-filter f (λ x. t (f x)) t xs (each xs))
  where
    each : (xs : List _) → AllByRecursion (λ x. t (f x) ≡ t (f x)) xs
    each [] = tt
    each (x ∷ xs) = (refl, each xs)

-- ---- reversed lists

-- the images, in the other order
pub map-reverse : {X Y : Type 0} (f : X → Y) (xs : List X) → map f (reverse xs) ≡ reverse (map f xs)
map-reverse f [] = refl
map-reverse f (x ∷ xs) =
    ap (map f) (reverse-append (x ∷ []) xs)
    ∙ map-append f (reverse xs) (x ∷ [])
    ∙ ap (λ ys. ys ++ (f x ∷ [])) (map-reverse f xs)
    ∙ sym (reverse-append (f x ∷ []) (map f xs))

-- what passes, in the other order
pub filter-reverse : {X : Type 0} (t : X → Bool) (xs : List X) → filter t (reverse xs) ≡ reverse (filter t xs)
filter-reverse t [] = refl
filter-reverse t (x ∷ xs) =
    ap (filter t) (reverse-append (x ∷ []) xs)
    ∙ filter-append t (reverse xs) (x ∷ [])
    ∙ ap (λ ys. ys ++ filter t (x ∷ [])) (filter-reverse t xs)
    ∙ last (t x)
  where
    last : (b : Bool) → reverse (filter t xs) ++ cond b (x ∷ []) [] ≡ reverse (cond b (x ∷ filter t xs) (filter t xs))
    last true = sym (reverse-append (x ∷ []) (filter t xs))
    last false = append-nil (reverse (filter t xs))

-- whether all pass doesn't depend on the order
pub list_all-reverse : {X : Type 0} (t : X → Bool) (xs : List X) → list_all t (reverse xs) ≡ list_all t xs
list_all-reverse t [] = refl
list_all-reverse t (x ∷ xs) =
    ap (list_all t) (reverse-append (x ∷ []) xs)
    ∙ list_all-append t (reverse xs) (x ∷ [])
    ∙ and_comm (list_all t (reverse xs)) (list_all t (x ∷ []))
    ∙ ap₂ (λ a b. a && b) (and-true (t x)) (list_all-reverse t xs)

-- nor does whether some element passes
pub list_any-reverse : {X : Type 0} (t : X → Bool) (xs : List X) → list_any t (reverse xs) ≡ list_any t xs
list_any-reverse t [] = refl
list_any-reverse t (x ∷ xs) =
    ap (list_any t) (reverse-append (x ∷ []) xs)
    ∙ list_any-append t (reverse xs) (x ∷ [])
    ∙ or_comm (list_any t (reverse xs)) (list_any t (x ∷ []))
    ∙ ap₂ (λ a b. a || b) (or-false (t x)) (list_any-reverse t xs)

-- ---- tests of some element

-- tests that agree everywhere
pub any-alike : {X : Type 0} (s t : X → Bool) (xs : List X) → ((x : X) → s x ≡ t x) → list_any s xs ≡ list_any t xs
any-alike s t [] f = refl
any-alike s t (x ∷ xs) f = ap₂ (λ a b. a || b) (f x) (any-alike s t xs f)

-- some image passes where some element passes by its image
pub any-map : {X Y : Type 0} (t : Y → Bool) (f : X → Y) (xs : List X) →
    list_any t (map f xs) ≡ list_any (λ x. t (f x)) xs
any-map t f [] = refl
any-map t f (x ∷ xs) = ap (λ b. t (f x) || b) (any-map t f xs)
