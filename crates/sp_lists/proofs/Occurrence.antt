-- Occurrence: x is one of the elements of a list.
use Rattle.std.proofs.Common.{◌≡◌, ℕ, zero, suc, ◌+◌, ◌<◌, ◌≤◌, Bool, true, false, cond, List, [], ◌∷◌, ◌++◌, map}
use Rattle.std.proofs.Common.{filter}
use Rattle.std.proofs.Common.{flat_map, reverse, drop, length, refl, sym, ◌∙◌, ap, ap₂, subst, arith, ◌⊎◌, inl, inr}
use Rattle.std.proofs.Common.{eq-or-lt_of_le, Contains, ◌||◌}
use Rattle.std.specs.List.{AllByRecursion, list_any, range_with_len}
use Rattle.std.proofs.lemmas.Bool.{or_cases, or_left, or_right}
use Rattle.std.proofs.lemmas.List.{reverse-append}
use Rattle.sp_lists.proofs.Places.{all_weaken}

-- x is one of the elements
abbrev pub Occurs : {X : Type 0} → X → List X → Type 0
Occurs x [] = ⊥
Occurs x (y ∷ ys) = (x ≡ y) ⊎ Occurs x ys

-- ---- what holds of each element

-- what holds of each element holds of one that occurs
pub at_occurs : {X : Type 0} (P : X → Type 0) (x : X) (xs : List X) → Occurs x xs → AllByRecursion P xs → P x
at_occurs P x (y ∷ xs) (inl e) (h, hs) = subst P (sym e) h
at_occurs P x (y ∷ xs) (inr o) (h, hs) = at_occurs P x xs o hs
at_occurs P x [] o h = absurd o

-- each element occurs
pub all_occur : {X : Type 0} (xs : List X) → AllByRecursion (λ x. Occurs x xs) xs
all_occur [] = tt
all_occur (x ∷ xs) =
    (inl refl, all_weaken (λ y. Occurs y xs) (λ y. Occurs y (x ∷ xs)) xs (λ y o. inr o) (all_occur xs))

-- a list in which something occurs is not empty
pub occurs_some : {X : Type 0} (x : X) (xs : List X) → Occurs x xs → 1 ≤ length xs
occurs_some x [] o = absurd o
occurs_some x (y ∷ xs) o = omega arith

-- ---- in other lists

-- in either of two lists joined
pub occurs_left : {X : Type 0} (x : X) (xs ys : List X) → Occurs x xs → Occurs x (xs ++ ys)
occurs_left x (y ∷ xs) ys (inl e) = inl e
occurs_left x (y ∷ xs) ys (inr h) = inr (occurs_left x xs ys h)
occurs_left x [] ys h = absurd h

-- in the second of two lists joined
pub occurs_right : {X : Type 0} (x : X) (xs ys : List X) → Occurs x ys → Occurs x (xs ++ ys)
occurs_right x [] ys h = h
occurs_right x (y ∷ xs) ys h = inr (occurs_right x xs ys h)

-- the image occurs among the images
pub occurs_map : {X Y : Type 0} (f : X → Y) (x : X) (xs : List X) → Occurs x xs → Occurs (f x) (map f xs)
occurs_map f x [] h = absurd h
occurs_map f x (y ∷ xs) (inl e) = inl (ap f e)
occurs_map f x (y ∷ xs) (inr h) = inr (occurs_map f x xs h)

-- what an element gives occurs in all that they give
pub occurs_flat : {X Y : Type 0} (f : X → List Y) (a : X) (xs : List X) (y : Y) → Occurs a xs → Occurs y (f a) →
    Occurs y (flat_map f xs)
occurs_flat f a [] y h k = absurd h
occurs_flat f a (x ∷ xs) y (inl e) k = occurs_left y (f x) (flat_map f xs) (subst (λ b. Occurs y (f b)) e k)
occurs_flat f a (x ∷ xs) y (inr h) k = occurs_right y (f x) (flat_map f xs) (occurs_flat f a xs y h k)

-- what passes a test is kept
pub occurs_filter : {X : Type 0} (t : X → Bool) (x : X) (xs : List X) → t x ≡ true → Occurs x xs →
    Occurs x (filter t xs)
occurs_filter t x [] e h = absurd h
occurs_filter t x (y ∷ xs) e (inl s) =
    subst (λ b. Occurs x (cond b (y ∷ filter t xs) (filter t xs))) (sym (ap t (sym s) ∙ e)) (inl s)
occurs_filter t x (y ∷ xs) e (inr h) = tested (t y) (occurs_filter t x xs e h)
  where
    tested : (b : Bool) → Occurs x (filter t xs) → Occurs x (cond b (y ∷ filter t xs) (filter t xs))
    tested true o = inr o
    tested false o = o

-- what was kept passed
pub from_filter : {X : Type 0} (t : X → Bool) (x : X) (xs : List X) → Occurs x (filter t xs) →
    Occurs x xs × (t x ≡ true)
from_filter t x [] o = absurd o
from_filter t x (y ∷ xs) o = tested (from_filter t x xs) (t y) refl o
  where
    tested : (Occurs x (filter t xs) → Occurs x xs × (t x ≡ true)) → (b : Bool) → t y ≡ b →
        Occurs x (cond b (y ∷ filter t xs) (filter t xs)) → Occurs x (y ∷ xs) × (t x ≡ true)
    tested ih true e (inl s) = (inl s, ap t s ∙ e)
    tested ih true e (inr k) = let r = ih k in (inr r.0, r.1)
    tested ih false e k = let r = ih k in (inr r.0, r.1)

-- in the other order
pub occurs_reverse : {X : Type 0} (x : X) (xs : List X) → Occurs x xs → Occurs x (reverse xs)
occurs_reverse x [] o = absurd o
occurs_reverse x (y ∷ ys) o = subst (Occurs x) (sym (reverse-append (y ∷ []) ys)) (settle o (occurs_reverse x ys))
  where
    settle : (x ≡ y) ⊎ Occurs x ys → (Occurs x ys → Occurs x (reverse ys)) → Occurs x (reverse ys ++ y ∷ [])
    settle (inl e) ih = occurs_right x (reverse ys) (y ∷ []) (inl e)
    settle (inr k) ih = occurs_left x (reverse ys) (y ∷ []) (ih k)

-- what occurs from a place on occurs
pub occurs_drop : {X : Type 0} (x : X) (n : ℕ) (xs : List X) → Occurs x (drop n xs) → Occurs x xs
occurs_drop x zero [] o = o
occurs_drop x (suc n) [] o = o
occurs_drop x zero (y ∷ xs) o = o
occurs_drop x (suc n) (y ∷ xs) o = inr (occurs_drop x n xs o)

-- a number between the ends occurs in the range
pub occurs_range : (c a n : ℕ) → a ≤ c → c < a + n → Occurs c (range_with_len a n)
occurs_range c a zero lo hi = absurd (omega arith)
occurs_range c a (suc n) lo hi = step (occurs_range c (a + 1) n) (eq-or-lt_of_le lo)
  where
    step : (a + 1 ≤ c → c < a + 1 + n → Occurs c (range_with_len (a + 1) n)) → (a ≡ c) ⊎ (a < c) →
        (c ≡ a) ⊎ Occurs c (range_with_len (a + 1) n)
    step more (inl e) = inl (sym e)
    step more (inr l) = inr (more (omega arith) (omega arith))

-- ---- an occurrence is a place

-- std's word for the same, and back
pub contains : {X : Type 0} (x : X) (xs : List X) → Occurs x xs → Contains xs x
contains x [] o = absurd o
contains x (y ∷ xs) (inl e) = (zero, omega arith, sym e)
contains x (y ∷ xs) (inr o) = later (contains x xs o)
  where
    later : Contains xs x → Contains (y ∷ xs) x
    later (k, lt, at) = (suc k, omega arith, at)

-- an element at a place occurs
pub occurs : {X : Type 0} (x : X) (xs : List X) → Contains xs x → Occurs x xs
occurs x [] (k, lt, at) = absurd (omega arith)
occurs x (y ∷ xs) (zero, lt, at) = inl (sym at)
occurs x (y ∷ xs) (suc k, lt, at) = inr (occurs x xs (k, omega arith, at))

-- ---- tests of some element

-- some element passes where one that occurs does
pub some_passes : {X : Type 0} (t : X → Bool) (x : X) (xs : List X) → Occurs x xs → t x ≡ true → list_any t xs ≡ true
some_passes t x [] o h = absurd o
some_passes t x (y ∷ xs) (inl e) h = or_left (t y) (list_any t xs) (ap t (sym e) ∙ h)
some_passes t x (y ∷ xs) (inr o) h = or_right (t y) (list_any t xs) (some_passes t x xs o h)

-- one that passes, where some element does
pub passing : {X : Type 0} (t : X → Bool) (xs : List X) → list_any t xs ≡ true →
    (x : X) × Occurs x xs × (t x ≡ true)
passing t [] h = absurd (cc)
passing {X} t (x ∷ xs) h = settle (passing t xs) (or_cases (t x) (list_any t xs) h)
  where
    settle : (list_any t xs ≡ true → (y : X) × Occurs y xs × (t y ≡ true)) → (t x ≡ true) ⊎ (list_any t xs ≡ true) →
        (y : X) × Occurs y (x ∷ xs) × (t y ≡ true)
    settle ih (inl e) = (x, inl refl, e)
    settle ih (inr e) = later (ih e)
      where
        later : (y : X) × Occurs y xs × (t y ≡ true) → (y : X) × Occurs y (x ∷ xs) × (t y ≡ true)
        later (y, o, k) = (y, inr o, k)

-- none passes where none that occurs does
pub none_passes : {X : Type 0} (t : X → Bool) (xs : List X) → ((x : X) → Occurs x xs → t x ≡ false) →
    list_any t xs ≡ false
none_passes t [] f = refl
none_passes t (x ∷ xs) f = ap₂ (λ a b. a || b) (f x (inl refl)) (none_passes t xs (λ y o. f y (inr o)))
