-- Lists of numbers that increase weakly, and how many of their numbers are at most k.
use Rattle.std.proofs.Common.{◌≡◌, ℕ, zero, suc, ◌+◌, ◌<◌, ◌≤◌, false, cond, List, [], ◌∷◌, ◌++◌, length}
use Rattle.std.proofs.Common.{slice_index, count_by, nat_le, nat_eq, replicate, refl, ◌∙◌, ap, arith, le_trans}
use Rattle.std.proofs.Common.{◌⊎◌, inl, inr}
use Rattle.std.proofs.lemmas.Bool.{le-leb}
use Rattle.std.proofs.lemmas.Bool.Decides.{nat_tests}
use Rattle.std.specs.List.{AllByRecursion}
use Rattle.sp_lists.proofs.Counts.{count-cons}
use Rattle.sp_lists.proofs.Elements.{all_append, le_or_lt}
use Rattle.sp_lists.proofs.Places.{all_weaken, all_at}

-- each number is at most all that follow it
abbrev pub Rises : List ℕ → Type 0
Rises [] = Unit {0}
Rises (x ∷ xs) = AllByRecursion (λ y. x ≤ y) xs × Rises xs

-- how many numbers are at most k
abbrev pub count_to : ℕ → List ℕ → ℕ
count_to k xs = count_by (λ n. nat_le n k) xs

-- a number that is at most k is counted
pub counted : (k x : ℕ) (xs : List ℕ) → x ≤ k → count_to k (x ∷ xs) ≡ 1 + count_to k xs
counted k x xs h = count-cons (λ n. nat_le n k) x xs ∙ ap (λ b. cond b 1 0 + count_to k xs) (le-leb x k h)

-- a greater one is not
pub uncounted : (k x : ℕ) (xs : List ℕ) → k < x → count_to k (x ∷ xs) ≡ count_to k xs
uncounted k x xs h =
    count-cons (λ n. nat_le n k) x xs ∙ ap (λ b. cond b 1 0 + count_to k xs) (not_least x k h) ∙ plain (count_to k xs)
  where
    not_least : (x k : ℕ) → k < x → nat_le x k ≡ false
    not_least x k h = grind (arith, nat_tests)

    plain : (n : ℕ) → 0 + n ≡ n
    plain n = omega arith

-- none is counted where all are greater
pub none_counted : (k : ℕ) (xs : List ℕ) → AllByRecursion (λ y. k < y) xs → count_to k xs ≡ 0
none_counted k [] h = refl
none_counted k (x ∷ xs) (h, hs) = uncounted k x xs h ∙ none_counted k xs hs

-- all are counted where none is greater
pub all_counted : (k : ℕ) (xs : List ℕ) → AllByRecursion (λ y. y ≤ k) xs → count_to k xs ≡ length xs
all_counted k [] h = refl
all_counted k (x ∷ xs) (h, hs) = omega (arith, counted k x xs h, all_counted k xs hs)

-- no more are counted than there are
pub count_le_length : (k : ℕ) (xs : List ℕ) → count_to k xs ≤ length xs
count_le_length k [] = omega arith
count_le_length k (x ∷ xs) = tested (le_or_lt x k) (count_le_length k xs)
  where
    tested : (x ≤ k) ⊎ (k < x) → count_to k xs ≤ length xs → count_to k (x ∷ xs) ≤ length (x ∷ xs)
    tested (inl h) ih = omega (arith, counted k x xs h)
    tested (inr h) ih = omega (arith, uncounted k x xs h)

-- of a list that increases, those that are at most k stand at the front
pub place_counted : (k : ℕ) (xs : List ℕ) → Rises xs → (i : ℕ) → i < length xs → slice_index xs i ≤ k →
    i < count_to k xs
place_counted k [] r i lt h = absurd (omega arith)
place_counted k (x ∷ xs) r zero lt h = omega (arith, counted k x xs h)
place_counted k (x ∷ xs) (first, r) (suc i) lt h =
    let within : i < length xs = omega arith in
    let below : x ≤ slice_index xs i = all_at (λ y. x ≤ y) xs i 0 first within in
    let least : x ≤ k = le_trans below h in
    omega (arith, counted k x xs least, place_counted k xs r i within h)

-- and what stands there is at most k
pub counted_place : (k : ℕ) (xs : List ℕ) → Rises xs → (i : ℕ) → i < count_to k xs → slice_index xs i ≤ k
counted_place k [] r i lt = absurd (omega arith)
counted_place k (x ∷ xs) (first, r) i lt = tested (le_or_lt x k) i lt (counted_place k xs r)
  where
    tested : (x ≤ k) ⊎ (k < x) → (i : ℕ) → i < count_to k (x ∷ xs) →
        ((i : ℕ) → i < count_to k xs → slice_index xs i ≤ k) → slice_index (x ∷ xs) i ≤ k
    tested (inl h) zero lt more = h
    tested (inl h) (suc i) lt more = more i (omega (arith, counted k x xs h))
    tested (inr h) i lt more =
        let none : count_to k xs ≡ 0 =
        none_counted k xs (all_weaken (λ y. x ≤ y) (λ y. k < y) xs (λ y le. omega arith) first) in
        absurd (omega (arith, uncounted k x xs h))

-- a list rises where each number is at most the next
pub rises : (xs : List ℕ) → ((i : ℕ) → suc i < length xs → slice_index xs i ≤ slice_index xs (suc i)) → Rises xs
rises [] f = tt
rises (x ∷ []) f = (tt, tt)
rises (x ∷ y ∷ xs) f =
    let more : Rises (y ∷ xs) = rises (y ∷ xs) (λ i lt. f (suc i) (omega arith)) in
    let le : x ≤ y = f 0 (omega arith) in
    ((le, all_weaken (λ z. y ≤ z) (λ z. x ≤ z) xs (λ z h. omega arith) more.0), more)

-- each number of a rising list is at most the next
pub rises_next : (xs : List ℕ) → Rises xs → (i : ℕ) → suc i < length xs → slice_index xs i ≤ slice_index xs (suc i)
rises_next [] r i lt = absurd (omega arith)
rises_next (x ∷ []) r i lt = absurd (omega arith)
rises_next (x ∷ y ∷ xs) r zero lt = r.0.0
rises_next (x ∷ y ∷ xs) (first, r) (suc i) lt = rises_next (y ∷ xs) r i (omega arith)

-- two rising lists, of which the second has no smaller numbers, rise joined
pub rises_append : (xs ys : List ℕ) (m : ℕ) → Rises xs → AllByRecursion (λ x. x ≤ m) xs → Rises ys →
    AllByRecursion (λ y. m ≤ y) ys → Rises (xs ++ ys)
rises_append [] ys m r hx s hy = s
rises_append (x ∷ xs) ys m (first, r) (h, hx) s hy = (
  all_append (λ y. x ≤ y) xs ys first (all_weaken (λ y. m ≤ y) (λ y. x ≤ y) ys (λ y le. omega arith) hy),
  rises_append xs ys m r hx s hy,
)

-- equal numbers rise
pub rises_equal : (n v : ℕ) → Rises (replicate n v)
rises_equal zero v = tt
rises_equal (suc n) v = (all_equal n, rises_equal n v)
  where
    all_equal : (n : ℕ) → AllByRecursion (λ y. v ≤ y) (replicate n v)
    all_equal zero = tt
    all_equal (suc n) = (omega arith, all_equal n)

-- those that equal k + 1 are those up to k + 1 without those up to k
pub count_one : (k : ℕ) (xs : List ℕ) → count_to k xs + count_by (nat_eq (k + 1)) xs ≡ count_to (k + 1) xs
count_one k [] = refl
count_one k (x ∷ xs) =
    omega (
      arith,
      count-cons (λ n. nat_le n k) x xs,
      count-cons (nat_eq (k + 1)) x xs,
      count-cons (λ n. nat_le n (k + 1)) x xs,
      count_one k xs,
      one x k,
    )
  where
    one : (x k : ℕ) → cond (nat_le x k) 1 0 + cond (nat_eq (k + 1) x) 1 0 ≡ cond (nat_le x (k + 1)) 1 0
    one x k = grind (arith, nat_tests)
