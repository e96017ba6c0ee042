-- Texts that are made piece by piece.
use Rattle.std.proofs.Common.{◌≡◌, ℕ, ◌+◌, ◌<◌, Bool, true, false, cond, List, []}
use Rattle.std.proofs.Common.{◌∷◌, ◌++◌, map, flat_map, filter, length}
use Rattle.std.proofs.Common.{get_or, take, refl, sym, ◌∙◌, ap, append_assoc}
use Rattle.std.proofs.lemmas.List.{flat_map_more, take_more, append-nil}
use Rattle.std.proofs.lemmas.Grind.{flat_map-append}
use Rattle.std.proofs.Math.Seq.{take-length}
use Rattle.sp_lists.proofs.Elements.{filter_append}

-- one piece more
pub piece_more : {X Y : Type 0} (f : X → List Y) (front now new : List Y) (xs : List X) (i : ℕ) (x : X) →
    i < length xs → x ≡ get_or xs i x → now ≡ front ++ flat_map f (take i xs) → new ≡ now ++ f x →
    new ≡ front ++ flat_map f (take (i + 1) xs)
piece_more f front now new xs i x lt is so_far more =
    more
    ∙ ap (λ t. t ++ f x) so_far
    ∙ flat_map_more f front (take i xs) x
    ∙ ap (λ ys. front ++ flat_map f ys)
    (sym (take_more xs i x lt ∙ ap (λ y. take i xs ++ (y ∷ [])) (sym is)))

-- the pieces of the elements that pass a test, one element more
pub passed_more : {X Y : Type 0} (f : X → List Y) (t : X → Bool) (front now new : List Y) (xs : List X) (i : ℕ)
    (x : X) → i < length xs → x ≡ get_or xs i x → now ≡ front ++ flat_map f (filter t (take i xs)) →
    new ≡ now ++ cond (t x) (f x) [] → new ≡ front ++ flat_map f (filter t (take (i + 1) xs))
passed_more {X} {Y} f t front now new xs i x lt is so_far more =
    more
    ∙ ap (λ s. s ++ cond (t x) (f x) []) so_far
    ∙ append_assoc front (flat_map f (filter t (take i xs))) (cond (t x) (f x) [])
    ∙ ap (λ s. front ++ s)
    (ap (λ s. flat_map f (filter t (take i xs)) ++ s) (one (t x))
    ∙ sym (flat_map-append f (filter t (take i xs)) (cond (t x) (x ∷ []) []))
    ∙ ap (flat_map f) (sym (filter_append t (take i xs) (x ∷ [])))
    ∙ ap (λ ys. flat_map f (filter t ys)) (sym (take_more xs i x lt ∙ ap (λ y. take i xs ++ (y ∷ [])) (sym is))))
  where
    one : (b : Bool) → cond b (f x) [] ≡ flat_map f (cond b (x ∷ []) [])
    one true = sym (append-nil (f x))
    one false = refl

-- pieces of images
pub flat_map-map : {X Y Z : Type 0} (f : Y → List Z) (g : X → Y) (xs : List X) →
    flat_map f (map g xs) ≡ flat_map (λ x. f (g x)) xs
flat_map-map f g [] = refl
flat_map-map f g (x ∷ xs) = ap (λ s. f (g x) ++ s) (flat_map-map f g xs)

-- all pieces
pub all_pieces : {X Y : Type 0} (f : X → List Y) (front now : List Y) (xs : List X) (i : ℕ) → i ≡ length xs →
    now ≡ front ++ flat_map f (take i xs) → now ≡ front ++ flat_map f xs
all_pieces f front now xs i end h =
    h ∙ ap (λ ys. front ++ flat_map f ys) (ap (λ j. take j xs) end ∙ take-length xs)

-- all pieces of those that pass
pub all_passed : {X Y : Type 0} (f : X → List Y) (t : X → Bool) (front now : List Y) (xs : List X) (i : ℕ) →
    i ≡ length xs → now ≡ front ++ flat_map f (filter t (take i xs)) → now ≡ front ++ flat_map f (filter t xs)
all_passed f t front now xs i end h =
    h ∙ ap (λ ys. front ++ flat_map f (filter t ys)) (ap (λ j. take j xs) end ∙ take-length xs)
