-- The first place in a list whose image passes a test.
use Rattle.std.proofs.Common.{◌≡◌, ℕ, zero, suc, ◌+◌, ◌<◌, ◌≤◌, Bool, true, false, cond, not, nat_lt, List, []}
use Rattle.std.proofs.Common.{◌∷◌, ◌++◌, Some, None, map, take, length, get_or, refl, sym, ◌∙◌, ap, ap₂}
use Rattle.std.proofs.Common.{subst, arith}
use Rattle.std.specs.List.{AllByRecursion, position, position_or_len}
use Rattle.std.proofs.lemmas.List.{length-map, take_all, take_more}
use Rattle.std.proofs.lemmas.Bool.Decides.{nat_tests}
use Rattle.sp_lists.proofs.Elements.{all_append}

below : (m n : ℕ) → m < n → nat_lt m n ≡ true
below m n lt = grind (arith, nat_tests)

not_below : (n : ℕ) → nat_lt n n ≡ false
not_below n = grind (arith, nat_tests)

one : (n : ℕ) → 1 + n ≡ suc n
one n = omega arith

module _ {X Y : Type 0} (test : Y → Bool) (f : X → Y) where
  -- the test fails at each of these
  abbrev pub NoneOf : List X → Type 0
  NoneOf xs = AllByRecursion (λ x. test (f x) ≡ false) xs

  -- the test fails at each of one more, where it fails at the next
  pub none_more : (xs : List X) (i : ℕ) (x : X) → i < length xs → x ≡ get_or xs i x → test (f x) ≡ false →
      NoneOf (take i xs) → NoneOf (take (i + 1) xs)
  none_more xs i x lt is fails h =
      subst NoneOf (sym (take_more xs i x lt ∙ ap (λ y. take i xs ++ y ∷ []) (sym is)))
      (all_append (λ x. test (f x) ≡ false) (take i xs) (x ∷ []) h (fails, tt))

  place_found : (xs : List X) (i : ℕ) (x : X) → i < length xs → x ≡ get_or xs i x → test (f x) ≡ true →
      NoneOf (take i xs) → position_or_len test (map f xs) ≡ i
  place_found [] i x lt is passes h = absurd (omega arith)
  place_found (y ∷ xs) zero x lt is passes h =
      ap (λ b. cond (not b) (1 + position_or_len test (map f xs)) 0) (ap (λ z. test (f z)) (sym is) ∙ passes)
  place_found (y ∷ xs) (suc i) x lt is passes (h, hs) =
      ap₂ (λ b n. cond (not b) (1 + n) 0) h (place_found xs i x (omega arith) is passes hs) ∙ one i

  -- a place that passes behind places that all fail is the first that passes
  pub position_found : (xs : List X) (i : ℕ) (x : X) → i < length xs → x ≡ get_or xs i x → test (f x) ≡ true →
      NoneOf (take i xs) → Some i ≡ position test (map f xs)
  position_found xs i x lt is passes h =
      sym (ap (λ n. cond (nat_lt n (length (map f xs))) (Some n) None) (place_found xs i x lt is passes h)
      ∙ ap (λ b. cond b (Some i) None) (below i (length (map f xs)) (omega (arith, length-map xs f))))

  place_absent : (xs : List X) → NoneOf xs → position_or_len test (map f xs) ≡ length (map f xs)
  place_absent [] h = refl
  place_absent (x ∷ xs) (h, hs) = ap₂ (λ b n. cond (not b) (1 + n) 0) h (place_absent xs hs) ∙ one (length (map f xs))

  -- no place passes where all up to the end fail
  pub position_absent : (xs : List X) (i : ℕ) → length xs ≤ i → NoneOf (take i xs) → None ≡ position test (map f xs)
  position_absent xs i le h =
      sym (ap (λ n. cond (nat_lt n (length (map f xs))) (Some n) None)
      (place_absent xs (subst NoneOf (take_all i xs le) h))
      ∙ ap (λ b. cond b (Some (length (map f xs))) None) (not_below (length (map f xs))))
