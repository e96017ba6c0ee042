-- The first element of a list that passes a test.
use Rattle.std.proofs.Common.{◌≡◌, Bool, true, false, cond, List, [], ◌∷◌, refl, sym, ◌∙◌, ap, ◌⊎◌, inl, inr}
use Rattle.std.proofs.Common.{Some, None}
use Rattle.std.specs.List.{AllByRecursion, find}
use Rattle.sp_lists.proofs.Occurrence.{Occurs}

-- where none passes, none is found
pub none_found : {X : Type 0} (q : X → Bool) (xs : List X) → AllByRecursion (λ x. q x ≡ false) xs → find q xs ≡ None
none_found q [] h = refl
none_found q (x ∷ xs) (h, hs) = ap (λ b. cond b (Some x) (find q xs)) h ∙ none_found q xs hs

-- where none is found, none passes
pub find_none : {X : Type 0} (q : X → Bool) (xs : List X) → find q xs ≡ None → AllByRecursion (λ x. q x ≡ false) xs
find_none q [] h = tt
find_none q (x ∷ xs) h = tested (q x) refl (find_none q xs) h
  where
    tested : (b : Bool) → q x ≡ b → (find q xs ≡ None → AllByRecursion (λ x. q x ≡ false) xs) →
        cond b (Some x) (find q xs) ≡ None → (q x ≡ false) × AllByRecursion (λ x. q x ≡ false) xs
    tested true e ih h = absurd (cc)
    tested false e ih h = (e, ih h)

-- x is found, where x occurs and no other passes
pub find_only : {X : Type 0} (P : X → Type 0) (t : X → Bool) (x : X) (xs : List X) → AllByRecursion P xs →
    Occurs x xs → t x ≡ true → ((y : X) → P y → t y ≡ true → y ≡ x) → find t xs ≡ Some x
find_only P t x [] all at passes only = absurd at
find_only {X = X} P t x (y ∷ xs) (here, all) at passes only = by_test (t y) refl at (find_only P t x xs all)
  where
    by_test : (b : Bool) → t y ≡ b → (x ≡ y) ⊎ Occurs x xs →
        (Occurs x xs → t x ≡ true → ((z : X) → P z → t z ≡ true → z ≡ x) → find t xs ≡ Some x) →
        find t (y ∷ xs) ≡ Some x
    by_test true is occurs later = ap (λ b. cond b (Some y) (find t xs)) is ∙ ap Some (only y here is)
    by_test false is (inl same) later = absurd (let no : false ≡ true = sym is ∙ ap t (sym same) ∙ passes in cc)
    by_test false is (inr occurs) later =
        ap (λ b. cond b (Some y) (find t xs)) is ∙ later occurs passes only
