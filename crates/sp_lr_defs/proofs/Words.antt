-- The word of rows that increase is a lattice word where, for each k, the numbers k in the rows before any row are at
-- least as many as the numbers k + 1 up to it.
use Rattle.std.proofs.Common.{◌≡◌, ℕ, zero, suc, ◌+◌, ◌-◌, ◌<◌, ◌≤◌, Bool, false, cond, List, [], ◌∷◌, ◌++◌, length}
use Rattle.std.proofs.Common.{slice_index_or, count_by, nat_eq, reverse, take, refl, sym, ◌∙◌, ap, ap₂, arith}
use Rattle.std.proofs.Common.{subst, ◌⊎◌, inl, inr, ne_eqb}
use Rattle.std.specs.List.{AllByRecursion}
use Rattle.std.proofs.Math.Seq.{take-append-add}
use Rattle.std.proofs.lemmas.List.{take-append-le, length-reverse, reverse-append}
use Rattle.std.proofs.lemmas.List.Concat.{flat_map-cons}
use Rattle.std.proofs.lemmas.List.Sums.{sum_by-append, sum_by-take-le}
use Rattle.std.proofs.lemmas.List.Sorted.{sum_by-IsPermutation, IsPermutation-reverse}
use Rattle.sp_lists.proofs.Counts.{count-cons}
use Rattle.sp_lists.proofs.Elements.{all_append, all_reverse, count_zero, le_or_lt}
use Rattle.sp_lists.proofs.Places.{all_weaken}
use Rattle.sp_lr_defs.specs.Filling.{word}
use Rattle.sp_lr_defs.specs.Strip.{first}
use Rattle.sp_lr_defs.proofs.Sorted.{Rises}
use Rattle.sp_lr_defs.proofs.Sums.{first-zeros}

-- a(i) says how many numbers of row i pass, counted from 0
abbrev pub Counted : (ℕ → Bool) → List (List ℕ) → (ℕ → ℕ) → Type 0
Counted p rows a = (i : ℕ) → count_by p (slice_index_or rows i []) ≡ a i

counted_rest : (p : ℕ → Bool) (row : List ℕ) (rows : List (List ℕ)) (a : ℕ → ℕ) → Counted p (row ∷ rows) a →
    Counted p rows (λ i. a (suc i))
counted_rest p row rows a h i = h (suc i)

-- in two lists joined
pub count-append : (p : ℕ → Bool) (xs ys : List ℕ) → count_by p (xs ++ ys) ≡ count_by p xs + count_by p ys
count-append p xs ys = sum_by-append (λ x. cond (p x) 1 0) xs ys

-- in the other order
pub count-reverse : (p : ℕ → Bool) (xs : List ℕ) → count_by p (reverse xs) ≡ count_by p xs
count-reverse p xs = sum_by-IsPermutation (λ x. cond (p x) 1 0) xs (reverse xs) (IsPermutation-reverse xs)

-- in a front
pub count-take : (p : ℕ → Bool) (xs : List ℕ) (n : ℕ) → count_by p (take n xs) ≤ count_by p xs
count-take p xs n = sum_by-take-le (λ x. cond (p x) 1 0) xs n

-- in the word of a row and more rows
word-count : (p : ℕ → Bool) (row : List ℕ) (rows : List (List ℕ)) (n : ℕ) →
    count_by p (take (length row + n) (word (row ∷ rows))) ≡ count_by p row + count_by p (take n (word rows))
word-count p row rows n =
    ap (λ w. count_by p (take (length row + n) w)) (flat_map-cons (λ numbers. reverse numbers) row rows)
    ∙ ap (λ m. count_by p (take (m + n) (reverse row ++ word rows))) (sym (length-reverse row))
    ∙ ap (count_by p) (take-append-add (reverse row) (word rows) n)
    ∙ count-append p (reverse row) (take n (word rows))
    ∙ ap (λ m. m + count_by p (take n (word rows))) (count-reverse p row)

-- in a front of the word that ends within the first row
word-front : (p : ℕ → Bool) (row : List ℕ) (rows : List (List ℕ)) (n : ℕ) → n ≤ length row →
    count_by p (take n (word (row ∷ rows))) ≡ count_by p (take n (reverse row))
word-front p row rows n h =
    ap (λ w. count_by p (take n w)) (flat_map-cons (λ numbers. reverse numbers) row rows)
    ∙ ap (count_by p) (take-append-le n (reverse row) (word rows) (omega (arith, length-reverse row)))

-- in the whole word
pub word-all : (p : ℕ → Bool) (n : ℕ) (rows : List (List ℕ)) (a : ℕ → ℕ) → length rows ≤ n → Counted p rows a →
    count_by p (word rows) ≡ first n a
word-all p n [] a few h = sym (first-zeros n a (λ i. sym (h i)))
word-all p zero (row ∷ rows) a few h = absurd (omega arith)
word-all p (suc n) (row ∷ rows) a few h =
    ap (count_by p) (flat_map-cons (λ numbers. reverse numbers) row rows)
    ∙ count-append p (reverse row) (word rows)
    ∙ ap₂ (λ m n. m + n) (count-reverse p row ∙ h 0)
    (word-all p n rows (λ i. a (suc i)) (omega arith) (counted_rest p row rows a h))

-- ---- from sums over rows to the word

-- where the sums over rows hold, so do the counts in each front of the word
pub fronts_hold : (p q : ℕ → Bool) (rows : List (List ℕ)) (a b : ℕ → ℕ) (u v : ℕ) → Counted p rows a →
    Counted q rows b → ((i : ℕ) → v + first (suc i) b ≤ u + first i a) → (n : ℕ) →
    v + count_by q (take n (word rows)) ≤ u + count_by p (take n (word rows))
fronts_hold p q [] a b u v ha hb sums n = nothing n
  where
    nothing : (n : ℕ) → v + count_by q (take n []) ≤ u + count_by p (take n [])
    nothing zero = omega (arith, sums 0)
    nothing (suc n) = omega (arith, sums 0)
fronts_hold p q (row ∷ rows) a b u v ha hb sums n =
    settle (le_or_lt n (length row))
    (fronts_hold p q rows (λ i. a (suc i)) (λ i. b (suc i)) (u + a 0) (v + b 0)
    (counted_rest p row rows a ha) (counted_rest q row rows b hb) (λ i. omega (arith, sums (suc i))) (n - length row))
  where
    settle : (n ≤ length row) ⊎ (length row < n) →
        v + b 0 + count_by q (take (n - length row) (word rows))
        ≤ u + a 0 + count_by p (take (n - length row) (word rows)) →
        v + count_by q (take n (word (row ∷ rows))) ≤ u + count_by p (take n (word (row ∷ rows)))
    settle (inl h) ih =
        omega (
          arith,
          word-front q row rows n h,
          word-front p row rows n h,
          count-take q (reverse row) n,
          count-reverse q row,
          hb 0,
          sums 0,
        )
    settle (inr h) ih =
        let is : length row + (n - length row) ≡ n = omega arith in
        let front_q : count_by q (take n (word (row ∷ rows)))
        ≡ count_by q row + count_by q (take (n - length row) (word rows)) =
        ap (λ m. count_by q (take m (word (row ∷ rows)))) (sym is) ∙ word-count q row rows (n - length row) in
        let front_p : count_by p (take n (word (row ∷ rows)))
        ≡ count_by p row + count_by p (take (n - length row) (word rows)) =
        ap (λ m. count_by p (take m (word (row ∷ rows)))) (sym is) ∙ word-count p row rows (n - length row) in
        omega (arith, ih, ha 0, hb 0)

-- ---- and back

-- each number is at least all that follow it
abbrev Sinks : List ℕ → Type 0
Sinks [] = Unit {0}
Sinks (x ∷ xs) = AllByRecursion (λ y. y ≤ x) xs × Sinks xs

sinks_snoc : (xs : List ℕ) (x : ℕ) → Sinks xs → AllByRecursion (λ y. x ≤ y) xs → Sinks (xs ++ x ∷ [])
sinks_snoc [] x s h = (tt, tt)
sinks_snoc (y ∷ xs) x (first, s) (h, hs) =
    (all_append (λ z. z ≤ y) xs (x ∷ []) first (h, tt), sinks_snoc xs x s hs)

reversed : (xs : List ℕ) → Rises xs → Sinks (reverse xs)
reversed [] r = tt
reversed (x ∷ xs) (first, r) =
    subst Sinks (sym (reverse-append (x ∷ []) xs))
    (sinks_snoc (reverse xs) x (reversed xs r) (all_reverse (λ y. x ≤ y) xs first))

-- a front of the row that has all its numbers k + 1, and no k
record Cut (k : ℕ) (xs : List ℕ) : Type 0 where
  place : ℕ
  within : place ≤ length xs
  all_of : count_by (nat_eq (k + 1)) (take place xs) ≡ count_by (nat_eq (k + 1)) xs
  none_of : count_by (nat_eq k) (take place xs) ≡ 0

cut : (k : ℕ) (xs : List ℕ) → Sinks xs → Cut k xs
cut k [] s = record { place = 0; within = omega arith; all_of = refl; none_of = refl }
cut k (x ∷ xs) (first, s) = settle (le_or_lt x k) (cut k xs s)
  where
    settle : (x ≤ k) ⊎ (k < x) → Cut k xs → Cut k (x ∷ xs)
    settle (inl h) more = record {
      place = 0;
      within = omega arith;
      all_of = sym (count_zero (nat_eq (k + 1)) (x ∷ xs) (
        ne_eqb (k + 1) x (λ e. omega arith),
        all_weaken (λ y. y ≤ x) (λ y. nat_eq (k + 1) y ≡ false) xs (λ y le. ne_eqb (k + 1) y (λ e. omega arith)) first,
      ));
      none_of = refl;
    }
    settle (inr h) more = record {
      place = suc more.place;
      within = omega (arith, more.within);
      all_of =
          count-cons (nat_eq (k + 1)) x (take more.place xs)
          ∙ ap (λ m. cond (nat_eq (k + 1) x) 1 0 + m) more.all_of
          ∙ sym (count-cons (nat_eq (k + 1)) x xs);
      none_of =
          count-cons (nat_eq k) x (take more.place xs)
          ∙ ap₂ (λ b m. cond b 1 0 + m) (ne_eqb k x (λ e. omega arith)) more.none_of;
    }

-- where the counts hold in each front of the word, so do the sums over rows
pub sums_hold : (k : ℕ) (rows : List (List ℕ)) (a b : ℕ → ℕ) (u v : ℕ) → AllByRecursion Rises rows →
    Counted (nat_eq k) rows a → Counted (nat_eq (k + 1)) rows b →
    ((n : ℕ) → v + count_by (nat_eq (k + 1)) (take n (word rows)) ≤ u + count_by (nat_eq k) (take n (word rows))) →
    (i : ℕ) → v + first (suc i) b ≤ u + first i a
sums_hold k [] a b u v r ha hb fronts i =
    omega (arith, fronts 0, first-zeros (suc i) b (λ j. sym (hb j)))
sums_hold k (row ∷ rows) a b u v (r, rs) ha hb fronts zero =
    let c : Cut k (reverse row) = cut k (reverse row) (reversed row r) in
    let n : ℕ = c.place in
    let within : n ≤ length row = omega (arith, c.within, length-reverse row) in
    omega (
      arith,
      fronts n,
      word-front (nat_eq (k + 1)) row rows n within,
      word-front (nat_eq k) row rows n within,
      c.all_of,
      c.none_of,
      count-reverse (nat_eq (k + 1)) row,
      hb 0,
    )
sums_hold k (row ∷ rows) a b u v (r, rs) ha hb fronts (suc i) =
    omega (
      arith,
      sums_hold k rows (λ i. a (suc i)) (λ i. b (suc i)) (u + a 0) (v + b 0) rs
          (counted_rest (nat_eq k) row rows a ha) (counted_rest (nat_eq (k + 1)) row rows b hb)
          (λ n. omega (
            arith,
            fronts (length row + n),
            word-count (nat_eq (k + 1)) row rows n,
            word-count (nat_eq k) row rows n,
            ha 0,
            hb 0,
          ))
          i,
    )
