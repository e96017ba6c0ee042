-- A search downwards: the greatest number below t that passes a test.
use Rattle.std.proofs.Common.{◌≡◌, ℕ, zero, suc, ◌<◌, Bool, true, false, cond, [], ◌∷◌, ◌++◌, reverse, refl}
use Rattle.std.proofs.Common.{sym, ◌∙◌, ap, arith, zero-add, Some, None, eq-or-lt_of_le, ◌⊎◌, inl, inr}
use Rattle.std.specs.List.{find, range_with_len}
use Rattle.std.proofs.lemmas.List.{reverse-append}
use Rattle.sp_lists.proofs.Elements.{range_snoc}

-- the greatest number that passes is the last, or the greatest of the others
pub find_down : (p : ℕ → Bool) (t : ℕ) →
    find p (reverse (range_with_len 0 (suc t))) ≡ cond (p t) (Some t) (find p (reverse (range_with_len 0 t)))
find_down p t =
    ap (λ xs. find p (reverse xs)) (range_snoc 0 t ∙ ap (λ n. range_with_len 0 t ++ (n ∷ [])) (zero-add t))
    ∙ ap (find p) (reverse-append (range_with_len 0 t) (t ∷ []))

-- none is found where none below passes
pub find_down_none : (p : ℕ → Bool) (t : ℕ) → ((i : ℕ) → i < t → p i ≡ false) →
    find p (reverse (range_with_len 0 t)) ≡ None
find_down_none p zero f = refl
find_down_none p (suc t) f =
    find_down p t
    ∙ ap (λ b. cond b (Some t) (find p (reverse (range_with_len 0 t)))) (f t (omega arith))
    ∙ find_down_none p t (λ i lt. f i (omega (arith, lt)))

-- none below passes where none is found
pub none_below : (p : ℕ → Bool) (t : ℕ) → find p (reverse (range_with_len 0 t)) ≡ None → (i : ℕ) → i < t →
    p i ≡ false
none_below p zero h i lt = absurd (omega arith)
none_below p (suc t) h i lt = tested (none_below p t) (p t) refl (sym (find_down p t) ∙ h) (eq-or-lt_of_le lt)
  where
    tested : (find p (reverse (range_with_len 0 t)) ≡ None → (i : ℕ) → i < t → p i ≡ false) → (b : Bool) → p t ≡ b →
        cond b (Some t) (find p (reverse (range_with_len 0 t))) ≡ None → (suc i ≡ suc t) ⊎ (suc i < suc t) →
        p i ≡ false
    tested ih true e w o = absurd (cc)
    tested ih false e w (inl s) = let same : i ≡ t = omega (arith, s) in ap p same ∙ e
    tested ih false e w (inr l) = ih w i (omega (arith, l))

-- the number that is found: it passes, and none between passes
pub find_down_some : (p : ℕ → Bool) (t j : ℕ) → j < t → p j ≡ true → ((i : ℕ) → j < i → i < t → p i ≡ false) →
    find p (reverse (range_with_len 0 t)) ≡ Some j
find_down_some p zero j lt h f = absurd (omega arith)
find_down_some p (suc t) j lt h f = find_down p t ∙ settle (find_down_some p t j) (eq-or-lt_of_le lt)
  where
    settle : (j < t → p j ≡ true → ((i : ℕ) → j < i → i < t → p i ≡ false) →
        find p (reverse (range_with_len 0 t)) ≡ Some j) → (suc j ≡ suc t) ⊎ (suc j < suc t) →
        cond (p t) (Some t) (find p (reverse (range_with_len 0 t))) ≡ Some j
    settle ih (inl s) =
        let same : j ≡ t = omega (arith, s) in
        ap (λ b. cond b (Some t) (find p (reverse (range_with_len 0 t)))) (ap p (sym same) ∙ h) ∙ ap Some (sym same)
    settle ih (inr l) =
        ap (λ b. cond b (Some t) (find p (reverse (range_with_len 0 t)))) (f t (omega (arith, l)) (omega arith))
        ∙ ih (omega (arith, l)) h (λ i lo hi. f i lo (omega (arith, hi)))
