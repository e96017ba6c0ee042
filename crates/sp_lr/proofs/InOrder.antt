-- Lists of which each member stands in a relation to all that follow it.
use Rattle.std.proofs.Common.{◌≡◌, ℕ, zero, suc, ◌<◌, Bool, true, false, cond, List, [], ◌∷◌, ◌++◌, map, flat_map}
use Rattle.std.proofs.Common.{filter, reverse, refl, sym, ◌∙◌, ap₂, subst, arith, inl, inr}
use Rattle.std.specs.List.{AllByRecursion}
use Rattle.std.proofs.lemmas.List.{reverse-append}
use Rattle.std.proofs.lemmas.List.Concat.{flat_map-cons}
use Rattle.sp_lists.proofs.Elements.{all_append, all_map, all_both, all_filter, all_reverse}
use Rattle.sp_lists.proofs.Occurrence.{Occurs, at_occurs}
use Rattle.sp_lists.proofs.Places.{all_weaken}
use Rattle.sp_lr.specs.Strips.{down}

-- each to all that follow it
abbrev pub InOrder : {X : Type 0} → (X → X → Type 0) → List X → Type 0
InOrder R [] = Unit {0}
InOrder R (x ∷ xs) = AllByRecursion (R x) xs × InOrder R xs

-- two lists joined, where each of the first stands so to each of the second
pub in_order-append : {X : Type 0} (R : X → X → Type 0) (xs ys : List X) → InOrder R xs → InOrder R ys →
    AllByRecursion (λ x. AllByRecursion (R x) ys) xs → InOrder R (xs ++ ys)
in_order-append R [] ys h k across = k
in_order-append R (x ∷ xs) ys (h, hs) k (a, rest) =
    (all_append (R x) xs ys h a, in_order-append R xs ys hs k rest)

-- images
pub in_order-map : {X Y : Type 0} (R : Y → Y → Type 0) (f : X → Y) (xs : List X) → InOrder (λ a b. R (f a) (f b)) xs →
    InOrder R (map f xs)
in_order-map R f [] h = tt
in_order-map R f (x ∷ xs) (h, hs) = (all_map (R (f x)) f xs h, in_order-map R f xs hs)

-- a stronger relation
pub in_order-weaken : {X : Type 0} (R S : X → X → Type 0) (xs : List X) → ((a b : X) → R a b → S a b) →
    InOrder R xs → InOrder S xs
in_order-weaken R S [] f h = tt
in_order-weaken R S (x ∷ xs) f (h, hs) = (all_weaken (R x) (S x) xs (f x) h, in_order-weaken R S xs f hs)

-- a relation that follows from another for members that have a property
pub in_order-among : {X : Type 0} (P : X → Type 0) (R S : X → X → Type 0) (xs : List X) → AllByRecursion P xs →
    ((a b : X) → P a → P b → R a b → S a b) → InOrder R xs → InOrder S xs
in_order-among P R S [] p f h = tt
in_order-among P R S (x ∷ xs) (p, ps) f (h, hs) = (
  all_weaken (λ y. P y × R x y) (S x) xs (λ y (q, r). f x y p q r) (all_both P (R x) xs ps h),
  in_order-among P R S xs ps f hs,
)

-- what passes a test
pub in_order-filter : {X : Type 0} (R : X → X → Type 0) (t : X → Bool) (xs : List X) → InOrder R xs →
    InOrder R (filter t xs)
in_order-filter R t [] h = tt
in_order-filter R t (x ∷ xs) (h, hs) = tested (t x) (in_order-filter R t xs hs)
  where
    tested : (b : Bool) → InOrder R (filter t xs) → InOrder R (cond b (x ∷ filter t xs) (filter t xs))
    tested true ih = (all_filter (R x) t xs (all_weaken (R x) (λ y. t y ≡ true → R x y) xs (λ y r _. r) h), ih)
    tested false ih = ih

-- in the other order
pub in_order-reverse : {X : Type 0} (R : X → X → Type 0) (xs : List X) → InOrder (λ a b. R b a) xs →
    InOrder R (reverse xs)
in_order-reverse R [] h = tt
in_order-reverse R (x ∷ xs) (h, hs) =
    subst (InOrder R) (sym (reverse-append (x ∷ []) xs))
    (in_order-append R (reverse xs) (x ∷ []) (in_order-reverse R xs hs) (tt, tt)
    (all_reverse (λ y. AllByRecursion (R y) (x ∷ [])) xs
    (all_weaken (λ y. R y x) (λ y. AllByRecursion (R y) (x ∷ [])) xs (λ y r. (r, tt)) h)))

-- Two lists in order with the same members are one, where no two members stand so to each other both ways.
pub same_in_order : {X : Type 0} (R : X → X → Type 0) → ((a b : X) → R a b → R b a → ⊥) → (xs ys : List X) →
    InOrder R xs → InOrder R ys → AllByRecursion (λ x. Occurs x ys) xs → AllByRecursion (λ y. Occurs y xs) ys → xs ≡ ys
same_in_order R one_way [] [] h k f g = refl
same_in_order R one_way [] (y ∷ ys) h k f (o, g) = absurd o
same_in_order R one_way (x ∷ xs) [] h k (o, f) g = absurd o
same_in_order {X = X} R one_way (x ∷ xs) (y ∷ ys) (h, hs) (k, ks) (o, f) (p, g) =
    ap₂ (λ z zs. z ∷ zs) (heads o p)
    (same_in_order R one_way xs ys hs ks
    (all_weaken (λ z. R x z × Occurs z (y ∷ ys)) (λ z. Occurs z ys) xs (λ z (r, q). behind x y ys z (heads o p) r q)
    (all_both (R x) (λ z. Occurs z (y ∷ ys)) xs h f))
    (all_weaken (λ z. R y z × Occurs z (x ∷ xs)) (λ z. Occurs z xs) ys
    (λ z (r, q). behind y x xs z (sym (heads o p)) r q) (all_both (R y) (λ z. Occurs z (x ∷ xs)) ys k g)))
  where
    heads : Occurs x (y ∷ ys) → Occurs y (x ∷ xs) → x ≡ y
    heads (inl e) q = e
    heads (inr q) (inl e) = sym e
    heads (inr q) (inr r) = absurd (one_way x y (at_occurs (R x) y xs r h) (at_occurs (R y) x ys q k))

    behind : (a b : X) (bs : List X) (z : X) → a ≡ b → R a z → Occurs z (b ∷ bs) → Occurs z bs
    behind a b bs z same r (inl e) =
        let self : R z z = subst (λ c. R c z) (same ∙ sym e) r in absurd (one_way z z self self)
    behind a b bs z same r (inr q) = q

-- what the members give, of which each has a property
pub in_order-flat : {X Y : Type 0} (P : X → Type 0) (S : X → X → Type 0) (R : Y → Y → Type 0) (f : X → List Y)
    (xs : List X) → AllByRecursion P xs → InOrder S xs → ((x : X) → P x → InOrder R (f x)) →
    ((x y : X) → P x → P y → S x y → AllByRecursion (λ a. AllByRecursion (R a) (f y)) (f x)) → InOrder R (flat_map f xs)
in_order-flat P S R f [] p h each across = tt
in_order-flat {X = X} {Y = Y} P S R f (x ∷ xs) (p, ps) (h, hs) each across =
    subst (InOrder R) (sym (flat_map-cons f x xs))
    (in_order-append R (f x) (flat_map f xs) (each x p) (in_order-flat P S R f xs ps hs each across)
    (behind_all (f x) xs (later xs ps h)))
  where
    later : (ys : List X) → AllByRecursion P ys → AllByRecursion (S x) ys →
        AllByRecursion (λ y. AllByRecursion (λ a. AllByRecursion (R a) (f y)) (f x)) ys
    later [] q k = tt
    later (y ∷ ys) (q, qs) (k, ks) = (across x y p q k, later ys qs ks)

    joined : (firsts bs : List Y) (ys : List X) → AllByRecursion (λ a. AllByRecursion (R a) bs) firsts →
        AllByRecursion (λ a. AllByRecursion (R a) (flat_map f ys)) firsts →
        AllByRecursion (λ a. AllByRecursion (R a) (bs ++ flat_map f ys)) firsts
    joined [] bs ys h k = tt
    joined (a ∷ firsts) bs ys (h, hs) (k, ks) =
        (all_append (R a) bs (flat_map f ys) h k, joined firsts bs ys hs ks)

    none : (firsts : List Y) → AllByRecursion (λ a. AllByRecursion (R a) []) firsts
    none [] = tt
    none (a ∷ firsts) = (tt, none firsts)

    behind_all : (firsts : List Y) (ys : List X) →
        AllByRecursion (λ y. AllByRecursion (λ a. AllByRecursion (R a) (f y)) firsts) ys →
        AllByRecursion (λ a. AllByRecursion (R a) (flat_map f ys)) firsts
    behind_all firsts [] h = none firsts
    behind_all firsts (y ∷ ys) (h, hs) =
        subst (λ zs. AllByRecursion (λ a. AllByRecursion (R a) zs) firsts) (sym (flat_map-cons f y ys))
        (joined firsts (f y) ys h (behind_all firsts ys hs))

-- ---- the numbers below n

-- what holds below n
pub down_all : (P : ℕ → Type 0) (n : ℕ) → ((k : ℕ) → k < n → P k) → AllByRecursion P (down n)
down_all P zero f = tt
down_all P (suc n) f = (f n (omega arith), down_all P n (λ k lt. f k (omega arith)))

-- they descend
pub down_descends : (n : ℕ) → InOrder (λ a b. b < a) (down n)
down_descends zero = tt
down_descends (suc n) = (down_all (λ k. k < n) n (λ k lt. lt), down_descends n)
