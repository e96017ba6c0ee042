-- The first k elements of a list, from the last to the first: how a walk from the back takes a list.
use Rattle.std.proofs.Common.{◌≡◌, ℕ, ◌+◌, ◌-◌, ◌<◌, ◌≤◌, List, [], ◌∷◌, ◌++◌, length, reverse, take, get_or, sym}
use Rattle.std.proofs.Common.{◌∙◌, ap, arith}
use Rattle.std.proofs.lemmas.List.{reverse-append, take_more, take_all}

-- the last of the first k, and then those before it
pub back_more : {X : Type 0} (xs : List X) (k : ℕ) (x : X) → 0 < k → k ≤ length xs → x ≡ get_or xs (k - 1) x →
    reverse (take k xs) ≡ x ∷ reverse (take (k - 1) xs)
back_more xs k x some le at =
    ap (λ n. reverse (take n xs)) before
    ∙ ap reverse (take_more xs (k - 1) x (omega arith) ∙ ap (λ y. take (k - 1) xs ++ (y ∷ [])) (sym at))
    ∙ reverse-append (take (k - 1) xs) (x ∷ [])
  where
    before : k ≡ k - 1 + 1
    before = omega arith

-- none of them
pub back_none : {X : Type 0} (xs : List X) (k : ℕ) → k ≤ 0 → reverse (take k xs) ≡ []
back_none xs k le = ap (λ n. reverse (take n xs)) none
  where
    none : k ≡ 0
    none = omega arith

-- all of them
pub back_all : {X : Type 0} (xs : List X) (k : ℕ) → length xs ≤ k → reverse (take k xs) ≡ reverse xs
back_all xs k le = ap reverse (take_all k xs le)
