-- Two lists, place by place: `AllZip R xs ys` says that they are as long, and that R holds at each place.
use Rattle.std.proofs.Common.{ℕ, zero, suc, ◌<◌, List, [], ◌∷◌, ◌++◌, map, length, get_or, set, arith}
use Rattle.std.specs.List.{AllZip}

-- what holds at one place
pub zip_at : {X Y : Type 0} (R : X → Y → Type 0) (xs : List X) (ys : List Y) (i : ℕ) (d : X) (f : Y) →
    AllZip R xs ys → i < length xs → R (get_or xs i d) (get_or ys i f)
zip_at R [] ys i d f h lt = absurd (omega arith)
zip_at R (x ∷ xs) [] i d f h lt = absurd h
zip_at R (x ∷ xs) (y ∷ ys) zero d f h lt = h.0
zip_at R (x ∷ xs) (y ∷ ys) (suc i) d f h lt = zip_at R xs ys i d f h.1 (omega arith)

-- with one place more at the end
pub zip_more : {X Y : Type 0} (R : X → Y → Type 0) (xs : List X) (ys : List Y) (x : X) (y : Y) → AllZip R xs ys →
    R x y → AllZip R (xs ++ x ∷ []) (ys ++ y ∷ [])
zip_more R [] [] x y h r = (r, tt)
zip_more R [] (b ∷ ys) x y h r = absurd h
zip_more R (a ∷ xs) [] x y h r = absurd h
zip_more R (a ∷ xs) (b ∷ ys) x y h r = (h.0, zip_more R xs ys x y h.1 r)

-- with one element of the second list put in place of another
pub zip_set : {X Y : Type 0} (R : X → Y → Type 0) (xs : List X) (ys : List Y) (i : ℕ) (d : X) (y : Y) →
    AllZip R xs ys → R (get_or xs i d) y → AllZip R xs (set ys i y)
zip_set R [] [] i d y h r = tt
zip_set R [] (b ∷ ys) i d y h r = absurd h
zip_set R (a ∷ xs) [] i d y h r = absurd h
zip_set R (a ∷ xs) (b ∷ ys) zero d y h r = (r, h.1)
zip_set R (a ∷ xs) (b ∷ ys) (suc i) d y h r = (h.0, zip_set R xs ys i d y h.1 r)

-- what holds of each element and its image holds of a list and the list of the images
pub zip_map : {X Y : Type 0} (R : X → Y → Type 0) (f : X → Y) (xs : List X) → ((x : X) → R x (f x)) →
    AllZip R xs (map f xs)
zip_map R f [] h = tt
zip_map R f (x ∷ xs) h = (h x, zip_map R f xs h)
