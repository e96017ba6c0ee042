-- Lists by their places: what a filter keeps from a place on, and a list about one of its places.
use Rattle.std.proofs.Common.{◌≡◌, ℕ, zero, suc, Bool, true, false, cond, List, [], ◌∷◌, ◌++◌, filter, drop}
use Rattle.std.proofs.Common.{get_or, refl, sym, ap, arith}
use Rattle.std.proofs.Common.{◌≤◌, ◌<◌, length}
use Rattle.std.proofs.Common.{nat_lt, ◌≢◌}
use Rattle.std.proofs.Common.{sum_by}
use Rattle.std.proofs.lemmas.List.Sums.{sum_by-cons}

-- what is kept from a place on is the element there, if it is kept, and what is kept from the next place on
pub filter-drop : {X : Type 0} (p : X → Bool) (xs : List X) (t : ℕ) (d : X) → p d ≡ false →
    filter p (drop t xs)
    ≡ cond (p (get_or xs t d)) (get_or xs t d ∷ filter p (drop (suc t) xs)) (filter p (drop (suc t) xs))
filter-drop p [] zero d h = sym (ap (λ b. cond b (d ∷ []) []) h)
filter-drop p [] (suc t) d h = sym (ap (λ b. cond b (d ∷ []) []) h)
filter-drop p (x ∷ xs) zero d h = refl
filter-drop p (x ∷ xs) (suc t) d h = filter-drop p xs t d h

-- ---- lists that are not empty

-- a list with elements is not empty, and back
pub nonempty : {X : Type 0} (xs : List X) → nat_lt 0 (length xs) ≡ true → xs ≢ []
nonempty [] h e = cc
nonempty (x ∷ xs) h e = cc

-- a list that is not empty has elements
pub has_element : {X : Type 0} (xs : List X) → xs ≢ [] → nat_lt 0 (length xs) ≡ true
has_element [] ne = absurd (ne refl)
has_element (x ∷ xs) ne = grind arith

-- a list without elements is empty
pub no_element : {X : Type 0} (xs : List X) → nat_lt 0 (length xs) ≡ false → xs ≡ []
no_element [] h = refl
no_element (x ∷ xs) h = absurd (let w : nat_lt 0 (length (x ∷ xs)) ≡ true = grind arith in cc)

-- ---- a list about one of its places

-- a list as the elements before a place, the element there, and those after it
pub record IsPlace {X : Type 0} (xs : List X) (i : ℕ) : Type 0 where
  pub element : X
  pub lower : List X
  pub later : List X
  pub place : length lower ≡ i
  pub whole : xs ≡ lower ++ (element ∷ later)

-- each place cuts the list
pub place_of : {X : Type 0} (xs : List X) (i : ℕ) → i < length xs → IsPlace xs i
place_of [] i h = absurd (omega arith)
place_of (x ∷ xs) zero h = record { element = x; lower = []; later = xs; place = refl; whole = refl }
place_of {X} (x ∷ xs) (suc i) h = more (place_of xs i (omega arith))
  where
    more : IsPlace xs i → IsPlace (x ∷ xs) (suc i)
    more p = record {
      element = p.element;
      lower = x ∷ p.lower;
      later = p.later;
      place = ap suc p.place;
      whole = ap (λ r. x ∷ r) p.whole;
    }

-- ---- the elements from a place on

-- what passes a test from a place on sums to no more than all that passes
pub sum_drop : {X : Type 0} (p : X → Bool) (f : X → ℕ) (t : ℕ) (xs : List X) →
    sum_by f (filter p (drop t xs)) ≤ sum_by f (filter p xs)
sum_drop p f zero [] = omega arith
sum_drop p f (suc t) [] = omega arith
sum_drop p f zero (y ∷ xs) = omega arith
sum_drop {X} p f (suc t) (y ∷ xs) = tested (p y) (sum_drop p f t xs)
  where
    tested : (b : Bool) → sum_by f (filter p (drop t xs)) ≤ sum_by f (filter p xs) →
        sum_by f (filter p (drop t xs)) ≤ sum_by f (cond b (y ∷ filter p xs) (filter p xs))
    tested true ih = omega (arith, ih, sum_by-cons f y (filter p xs))
    tested false ih = ih
