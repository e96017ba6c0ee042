-- The last element of a list that passes a test.
use Rattle.std.proofs.Common.{◌≡◌, Bool, true, false, cond, List, []}
use Rattle.std.proofs.Common.{◌∷◌, ◌++◌, reverse}
use Rattle.std.proofs.Common.{refl, ◌∙◌, ap, Option, Some, None}
use Rattle.std.specs.List.{find}
use Rattle.std.proofs.lemmas.List.{reverse-append}

-- the first of two finds
abbrev pub found_first : {X : Type 0} → Option X → Option X → Option X
found_first None o = o
found_first (Some x) o = Some x

-- an element alone, if it passes
abbrev pub if_passes : {X : Type 0} → (X → Bool) → X → Option X
if_passes q x = cond (q x) (Some x) None

find-append : {X : Type 0} (q : X → Bool) (xs ys : List X) → find q (xs ++ ys) ≡ found_first (find q xs) (find q ys)
find-append q [] ys = refl
find-append q (x ∷ xs) ys = tested (q x) (find-append q xs ys)
  where
    tested : (b : Bool) → find q (xs ++ ys) ≡ found_first (find q xs) (find q ys) →
        cond b (Some x) (find q (xs ++ ys)) ≡ found_first (cond b (Some x) (find q xs)) (find q ys)
    tested true ih = refl
    tested false ih = ih

-- of one more element at the front, the last that passes
pub find_back : {X : Type 0} (q : X → Bool) (x : X) (xs : List X) →
    find q (reverse (x ∷ xs)) ≡ found_first (find q (reverse xs)) (if_passes q x)
find_back q x xs = ap (find q) (reverse-append (x ∷ []) xs) ∙ find-append q (reverse xs) (x ∷ [])
