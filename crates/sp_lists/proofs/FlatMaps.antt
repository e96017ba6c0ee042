-- Two filters as a `flat_map`, a `flat_map` over one number more, and a list made by such parts.
use Rattle.std.proofs.Common.{◌≡◌, ℕ, ◌+◌, ◌-◌, ◌≤◌, Bool, true, false, cond, List, [], ◌∷◌, ◌++◌, map, filter}
use Rattle.std.proofs.Common.{flat_map, refl, sym, ◌∙◌, ap, arith, add-one, append-nil, append_assoc}
use Rattle.std.specs.List.{range_with_len}
use Rattle.std.proofs.lemmas.List.Concat.{flat_map-append, flat_map-cons}
use Rattle.sp_lists.proofs.Elements.{range_snoc}

-- The images that pass two tests, one after the other.
pub filter_twice-map : {X Y : Type 0} (s t : Y → Bool) (f : X → Y) (xs : List X) →
    filter s (filter t (map f xs)) ≡ flat_map (λ x. filter s (cond (t (f x)) (f x ∷ []) [])) xs
filter_twice-map s t f [] = refl
filter_twice-map s t f (x ∷ xs) =
    first s (t (f x)) (f x) (filter t (map f xs))
    ∙ ap (λ ys. filter s (cond (t (f x)) (f x ∷ []) []) ++ ys) (filter_twice-map s t f xs)
    ∙ sym (flat_map-cons (λ x. filter s (cond (t (f x)) (f x ∷ []) [])) x xs)
  where
    first : {Y : Type 0} (s : Y → Bool) (b : Bool) (y : Y) (ys : List Y) →
        filter s (cond b (y ∷ ys) ys) ≡ filter s (cond b (y ∷ []) []) ++ filter s ys
    first s false y ys = refl
    first s true y ys = before (s y)
      where
        before : (b : Bool) → cond b (y ∷ filter s ys) (filter s ys) ≡ cond b (y ∷ []) [] ++ filter s ys
        before true = refl
        before false = refl

-- One number more: what it gives comes at the end.
pub flat_map-range_more : {Y : Type 0} (f : ℕ → List Y) (a n j : ℕ) → a + n ≡ j →
    flat_map f (range_with_len a (n + 1)) ≡ flat_map f (range_with_len a n) ++ f j
flat_map-range_more f a n j last =
    ap (flat_map f) (ap (range_with_len a) (add-one n) ∙ range_snoc a n)
    ∙ flat_map-append f (range_with_len a n) ((a + n) ∷ [])
    ∙ ap (λ ys. flat_map f (range_with_len a n) ++ ys) (flat_map-cons f (a + n) [] ∙ append-nil (f (a + n)) ∙ ap f last)

-- A list made by parts: with the part of the next number behind it, it is made by one number more.
pub appended_more : {X : Type 0} (f : ℕ → List X) (before items : List X) (a n j : ℕ) → a + n ≡ j →
    items ≡ before ++ flat_map f (range_with_len a n) → items ++ f j ≡ before ++ flat_map f (range_with_len a (n + 1))
appended_more f before items a n j last is =
    ap (λ xs. xs ++ f j) is
    ∙ append_assoc before (flat_map f (range_with_len a n)) (f j)
    ∙ ap (λ r. before ++ r) (sym (flat_map-range_more f a n j last))

-- The same where the numbers begin at 1 and the next one is counted.
pub appended_step : {X : Type 0} (f : ℕ → List X) (before items : List X) (j : ℕ) → 1 ≤ j →
    items ≡ before ++ flat_map f (range_with_len 1 (j - 1)) →
    items ++ f j ≡ before ++ flat_map f (range_with_len 1 (j + 1 - 1))
appended_step f before items j least is =
    appended_more f before items 1 (j - 1) j (whole least) is
    ∙ ap (λ n. before ++ flat_map f (range_with_len 1 n)) (next least)
  where
    whole : 1 ≤ j → 1 + (j - 1) ≡ j
    whole k = omega arith

    next : 1 ≤ j → j - 1 + 1 ≡ j + 1 - 1
    next k = omega arith
