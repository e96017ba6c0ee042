-- Sums of a whole number for each element of a list: their order, and lists with one element that counts.
use Rattle.std.proofs.Common.{◌≡◌, ◌≢◌, ℕ, zero, suc, ◌+◌, ◌<◌, ◌≤◌, Bool, true, false, cond, List, [], ◌∷◌}
use Rattle.std.proofs.Common.{refl, sym, ◌∙◌, ap, ap₂, subst, arith, ℤ, pos, ◌+ℤ◌, ◌-ℤ◌, ◌⊎◌, inl, inr, Less, Equal}
use Rattle.std.proofs.Common.{sum_by}
use Rattle.std.proofs.lemmas.List.Sums.{sum_by-cons}
use Rattle.std.proofs.lemmas.Int.{ints}
use Rattle.std.specs.List.{AllByRecursion, range_with_len}
use Rattle.sp_defs.specs.Partition.{compare, Ascending, IsEarlier}
use Rattle.sp_defs.specs.Laurent.{Laurent, coefficient, sum_over}
use Rattle.sp_lists.proofs.Elements.{le_or_lt, range_all}
use Rattle.sp_lists.proofs.Occurrence.{Occurs, at_occurs}
use Rattle.sp_lists.proofs.Places.{all_weaken}
use Rattle.sp_algebra.proofs.Laws.{coefficient-plus}
use Rattle.sp_shapes.proofs.Order.{equal_self}

-- The sum of a whole number for each element.
unfoldable pub total : {X : Type 0} → List X → (X → ℤ) → ℤ
total [] f = pos 0
total (x ∷ xs) f = f x +ℤ total xs f

-- With equal numbers the sums are equal.
pub total-alike : {X : Type 0} (xs : List X) (f g : X → ℤ) → AllByRecursion (λ x. f x ≡ g x) xs →
    total xs f ≡ total xs g
unfolding total
total-alike [] f g h = refl
total-alike (x ∷ xs) f g (h, hs) = ap₂ (λ a b. a +ℤ b) h (total-alike xs f g hs)

-- The sum of sums is the sum of both.
pub total-sum : {X : Type 0} (xs : List X) (f g : X → ℤ) → total xs (λ x. f x +ℤ g x) ≡ total xs f +ℤ total xs g
unfolding total
total-sum [] f g = omega (arith, ints)
total-sum (x ∷ xs) f g = omega (arith, ints, total-sum xs f g)

-- The sum of differences is the difference of the sums.
pub total-minus : {X : Type 0} (xs : List X) (f g : X → ℤ) → total xs (λ x. f x -ℤ g x) ≡ total xs f -ℤ total xs g
unfolding total
total-minus [] f g = omega (arith, ints)
total-minus (x ∷ xs) f g = omega (arith, ints, total-minus xs f g)

-- Zeros sum up to 0.
pub total-zeros : {X : Type 0} (xs : List X) (f : X → ℤ) → AllByRecursion (λ x. f x ≡ pos 0) xs → total xs f ≡ pos 0
unfolding total
total-zeros [] f h = refl
total-zeros (x ∷ xs) f (h, hs) = omega (arith, ints, h, total-zeros xs f hs)

-- Two sums, one within the other, may be exchanged.
pub total-swap : {X Y : Type 0} (xs : List X) (ys : List Y) (f : X → Y → ℤ) →
    total xs (λ x. total ys (f x)) ≡ total ys (λ y. total xs (λ x. f x y))
unfolding total
total-swap [] ys f = sym (none ys)
  where
    none : {Y : Type 0} (ys : List Y) → total ys (λ _. pos 0) ≡ pos 0
    none [] = refl
    none (y ∷ ys) = omega (arith, ints, none ys)
total-swap (x ∷ xs) ys f =
    ap (λ n. total ys (f x) +ℤ n) (total-swap xs ys f) ∙ sym (total-sum ys (f x) (λ y. total xs (λ x. f x y)))

-- What fails a test as a whole counts as 0 in each part.
pub total-cond : {X : Type 0} (b : Bool) (xs : List X) (f : X → ℤ) →
    cond b (total xs f) (pos 0) ≡ total xs (λ x. cond b (f x) (pos 0))
unfolding total
total-cond true xs f = refl
total-cond false xs f = sym (none xs)
  where
    none : {X : Type 0} (xs : List X) → total xs (λ _. pos 0) ≡ pos 0
    none [] = refl
    none (x ∷ xs) = omega (arith, ints, none xs)

-- A sum of natural numbers as one of whole numbers.
pub total-natural : {X : Type 0} (xs : List X) (f : X → ℕ) → pos (sum_by f xs) ≡ total xs (λ x. pos (f x))
unfolding total
total-natural [] f = refl
total-natural (x ∷ xs) f = omega (arith, ints, sum_by-cons f x xs, total-natural xs f)

-- The coefficients of a sum of polynomials.
pub coefficient-total : {X : Type 0} (xs : List X) (f : X → Laurent) (z : ℤ) →
    coefficient (sum_over xs f) z ≡ total xs (λ x. coefficient (f x) z)
unfolding sum_over coefficient total
coefficient-total [] f z = refl
coefficient-total (x ∷ xs) f z =
    coefficient-plus (f x) (sum_over xs f) z ∙ ap (λ n. coefficient (f x) z +ℤ n) (coefficient-total xs f z)

-- In a range where all but the number at q are 0 the sum is that number.
pub total-range_one : (f : ℕ → ℤ) (q a n : ℕ) → a ≤ q → q < a + n →
    ((r : ℕ) → a ≤ r → r < a + n → r ≢ q → f r ≡ pos 0) → total (range_with_len a n) f ≡ f q
unfolding total
total-range_one f q a zero lo hi others = absurd (omega arith)
total-range_one f q a (suc n) lo hi others = settle (le_or_lt q a) (total-range_one f q (a + 1) n)
  where
    settle : (q ≤ a) ⊎ (a < q) → (a + 1 ≤ q → q < a + 1 + n →
        ((r : ℕ) → a + 1 ≤ r → r < a + 1 + n → r ≢ q → f r ≡ pos 0) → total (range_with_len (a + 1) n) f ≡ f q) →
        f a +ℤ total (range_with_len (a + 1) n) f ≡ f q
    settle (inl le) later =
        let same : a ≡ q = omega arith in
        let rest : total (range_with_len (a + 1) n) f ≡ pos 0 =
        total-zeros (range_with_len (a + 1) n) f
        (range_all (λ r. f r ≡ pos 0) (a + 1) n (λ r l h. others r (omega arith) (omega arith) (λ e. omega arith))) in
        omega (arith, ints, ap f same, rest)
    settle (inr lt) later =
        omega (
          arith,
          ints,
          others a (omega arith) (omega arith) (λ e. omega arith),
          later (omega arith) (omega arith) (λ r l h. others r (omega arith) (omega arith)),
        )

-- So it is in an ascending list of partitions.
pub total-ascending_one : (f : List ℕ → ℤ) (q : List ℕ) (xs : List (List ℕ)) → Ascending xs → Occurs q xs →
    ((x : List ℕ) → x ≢ q → f x ≡ pos 0) → total xs f ≡ f q
unfolding total
total-ascending_one f q [] up o others = absurd o
total-ascending_one f q (x ∷ xs) (later, up) o others = settle o (λ o'. total-ascending_one f q xs up o' others)
  where
    after : AllByRecursion (λ y. f y ≡ pos 0) xs → f x +ℤ total xs f ≡ f x
    after zeros = omega (arith, ints, total-zeros xs f zeros)

    apart : (p y : List ℕ) → IsEarlier p y → y ≢ p
    apart p y early e =
        let k : Less ≡ Equal = sym early ∙ subst (λ l. compare p l ≡ Equal) (sym e) (equal_self p) in cc

    settle : Occurs q (x ∷ xs) → (Occurs q xs → total xs f ≡ f q) → f x +ℤ total xs f ≡ f q
    settle (inl e) rest =
        subst (λ p. f x +ℤ total xs f ≡ f p) (sym e)
        (after (all_weaken (IsEarlier x) (λ y. f y ≡ pos 0) xs
        (λ y early. others y (λ s. apart x y early (s ∙ e))) later))
    settle (inr o') rest =
        let early : IsEarlier x q = at_occurs (IsEarlier x) q xs o' later in
        omega (arith, ints, others x (λ s. apart x q early (sym s)), rest o')
