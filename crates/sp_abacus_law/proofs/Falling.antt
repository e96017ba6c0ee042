-- Numbers that descend strictly: how many there are below a bound, and when they leave no gap.
use Rattle.std.proofs.Common.{◌≡◌, ℕ, zero, suc, ◌<◌, ◌≤◌, List, [], ◌∷◌, Bool, true, false, cond, filter}
use Rattle.std.proofs.Common.{length, slice_index, refl, ap, ap₂, arith, subst}
use Rattle.std.specs.List.{AllByRecursion}
use Rattle.sp_lists.proofs.Elements.{all_filter}
use Rattle.sp_lists.proofs.Places.{all_weaken, all_at}
use Rattle.sp_abacus_law.specs.Beads.{down, Falls}

-- There are n numbers below n,
pub length-down : (n : ℕ) → length (down n) ≡ n
length-down zero = refl
length-down (suc n) = ap suc (length-down n)

-- each below n,
pub down-below : (n m : ℕ) → n ≤ m → AllByRecursion (λ c. c < m) (down n)
down-below zero m h = tt
down-below (suc n) m h = (omega arith, down-below n m (omega arith))

-- and they fall.
pub down-falls : (n : ℕ) → Falls (down n)
down-falls zero = tt
down-falls (suc n) = (down-below n n (omega arith), down-falls n)

-- An earlier number is greater.
pub falls_between : (xs : List ℕ) (a b : ℕ) → Falls xs → a < b → b < length xs → slice_index xs b < slice_index xs a
falls_between [] a b f lt within = absurd (omega arith)
falls_between (x ∷ xs) a zero f lt within = absurd (omega arith)
falls_between (x ∷ xs) zero (suc b) (low, f) lt within = all_at (λ c. c < x) xs b 0 low (omega arith)
falls_between (x ∷ xs) (suc a) (suc b) (low, f) lt within = falls_between xs a b f (omega arith) (omega arith)

-- There are at most n of them below n.
pub falls-few : (bs : List ℕ) (n : ℕ) → Falls bs → AllByRecursion (λ c. c < n) bs → length bs ≤ n
falls-few [] n f h = omega arith
falls-few (b ∷ bs) n (low, f) (h, hs) = omega (arith, falls-few bs b f low)

-- With n of them below n there is no gap.
pub falls-full : (bs : List ℕ) → Falls bs → AllByRecursion (λ c. c < length bs) bs → bs ≡ down (length bs)
falls-full [] f h = refl
falls-full (b ∷ bs) (low, f) (h, hs) = ap₂ (λ x xs. x ∷ xs) first (falls-full bs f less)
  where
    first : b ≡ length bs
    first = omega (arith, falls-few bs b f low)

    less : AllByRecursion (λ c. c < length bs) bs
    less = subst (λ n. AllByRecursion (λ c. c < n) bs) first low

-- What is kept of numbers that fall falls.
pub falls-filter : (t : ℕ → Bool) (bs : List ℕ) → Falls bs → Falls (filter t bs)
falls-filter t [] f = tt
falls-filter t (b ∷ bs) (low, f) = tested (t b) (falls-filter t bs f)
  where
    tested : (v : Bool) → Falls (filter t bs) → Falls (cond v (b ∷ filter t bs) (filter t bs))
    tested true rest =
        (all_filter (λ c. c < b) t bs (all_weaken (λ c. c < b) (λ c. t c ≡ true → c < b) bs (λ c h _. h) low), rest)
    tested false rest = rest
