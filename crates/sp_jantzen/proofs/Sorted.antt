-- Distinct numbers in descending order: they fall, and there are as many, of the same sum.
use Rattle.std.proofs.Common.{◌≡◌, ◌≢◌, ℕ, zero, suc, ◌+◌, ◌-◌, ◌<◌, ◌≤◌, true, false, cond, ◌||◌, not, nat_eq}
use Rattle.std.proofs.Common.{List, [], ◌∷◌, ◌++◌, filter, length, refl, sym, ◌∙◌, ap, ap₂, subst, sum_by, sum, arith}
use Rattle.std.proofs.Common.{◌⊎◌, inl, inr, eq-or-lt_of_le, eq-eqb, length-append, append_assoc, append-nil}
use Rattle.std.specs.List.{AllByRecursion}
use Rattle.std.proofs.lemmas.List.Sums.{sum_by-cons}
use Rattle.std.proofs.lemmas.Bool.Decides.{eqb_tells}
use Rattle.sp_lists.proofs.Elements.{all_every}
use Rattle.sp_lists.proofs.Counts.{sum-filter}
use Rattle.sp_abacus_law.specs.Beads.{down, Falls}
use Rattle.sp_abacus_law.proofs.Falling.{down-falls, falls-filter}
use Rattle.sp_abacus_law.proofs.Runners.{down-range}
use Rattle.sp_abacus_law.proofs.Bounds.{filter-same}
use Rattle.std.proofs.Common.{ne_eqb}
use Rattle.sp_module_defs.specs.Jantzen.{occurs, is_distinct, descending}
use Rattle.std.proofs.lemmas.Bool.{and_parts}
use Rattle.sp_lists.proofs.Sums.{all_below_sum, sum-alike, sum-ones, sum-plus, sum-zeros}
use Rattle.std.proofs.lemmas.Bool.{not-true}

-- Each number is below n.
abbrev pub AllBelow : ℕ → List ℕ → Type 0
AllBelow n xs = AllByRecursion (λ x. x < n) xs

-- The numbers below n that occur, descending.
unfoldable pub found_below : List ℕ → ℕ → List ℕ
found_below xs n = filter (occurs xs) (down n)

-- ---- where the walk may begin

none_above : (xs : List ℕ) (n b : ℕ) → AllBelow n xs → n ≤ b → occurs xs b ≡ false
none_above [] n b h le = refl
none_above (x ∷ xs) n b (h, hs) le = ap₂ (λ v w. v || w) (ne_eqb x b (λ same. omega arith)) (none_above xs n b hs le)

-- The walk may begin at any bound of the numbers.
pub descending-below : (xs : List ℕ) (n : ℕ) → AllBelow n xs → found_below xs n ≡ descending xs
unfolding descending found_below
descending-below xs n h =
    filter-same (occurs xs) n (sum xs + 1) (λ b le lt. none_above xs (sum xs + 1) b (all_below_sum xs) le)
    (λ b le lt. none_above xs n b h le)
    ∙ ap (filter (occurs xs)) (sym (down-range (sum xs + 1)))

-- The numbers in order fall,
pub descending-falls : (xs : List ℕ) → Falls (descending xs)
unfolding descending
descending-falls xs =
    subst (λ ds. Falls (filter (occurs xs) ds)) (sym (down-range (sum xs + 1)))
    (falls-filter (occurs xs) (down (sum xs + 1)) (down-falls (sum xs + 1)))

-- ---- sums over distinct numbers

one_none : (x v n : ℕ) → n ≤ x → sum_by (λ i. cond (nat_eq x i) v 0) (down n) ≡ 0
one_none x v zero h = refl
one_none x v (suc n) h =
    sum_by-cons (λ i. cond (nat_eq x i) v 0) n (down n)
    ∙ ap₂ (λ b m. cond b v 0 + m) (ne_eqb x n (λ same. omega arith)) (one_none x v n (omega arith))

-- Of the numbers below n one is x.
one_of : (x v n : ℕ) → x < n → sum_by (λ i. cond (nat_eq x i) v 0) (down n) ≡ v
one_of x v zero h = absurd (omega arith)
one_of x v (suc n) h =
    sum_by-cons (λ i. cond (nat_eq x i) v 0) n (down n) ∙ settle (eq-or-lt_of_le (below h)) (one_of x v n)
  where
    below : x < suc n → x ≤ n
    below h = omega arith

    plain : (v : ℕ) → v + 0 ≡ v
    plain v = omega arith

    plain' : (v : ℕ) → 0 + v ≡ v
    plain' v = omega arith

    settle : (x ≡ n) ⊎ (x < n) → (x < n → sum_by (λ i. cond (nat_eq x i) v 0) (down n) ≡ v) →
        cond (nat_eq x n) v 0 + sum_by (λ i. cond (nat_eq x i) v 0) (down n) ≡ v
    settle (inl e) more = ap₂ (λ b m. cond b v 0 + m) (eq-eqb x n e) (one_none x v n (omega arith)) ∙ plain v
    settle (inr lt) more = ap₂ (λ b m. cond b v 0 + m) (ne_eqb x n (λ same. omega arith)) (more lt) ∙ plain' v

-- With one number more, at each place.
split_first : (f : ℕ → ℕ) (x : ℕ) (xs : List ℕ) (b : ℕ) → occurs xs x ≡ false →
    cond (nat_eq x b || occurs xs b) (f b) 0 ≡ cond (nat_eq x b) (f x) 0 + cond (occurs xs b) (f b) 0
split_first f x xs b fresh = told (eqb_tells x b)
  where
    told : ((nat_eq x b ≡ true) × (x ≡ b)) ⊎ ((nat_eq x b ≡ false) × (x ≢ b)) →
        cond (nat_eq x b || occurs xs b) (f b) 0 ≡ cond (nat_eq x b) (f x) 0 + cond (occurs xs b) (f b) 0
    told (inl (t, e)) =
        let gone : occurs xs b ≡ false = ap (occurs xs) (sym e) ∙ fresh in
        ap (λ v. cond (v || occurs xs b) (f b) 0) t
        ∙ ap f (sym e)
        ∙ plain (f x)
        ∙ sym (ap₂ (λ v w. cond v (f x) 0 + cond w (f b) 0) t gone)
      where
        plain : (n : ℕ) → n ≡ n + 0
        plain n = omega arith
    told (inr (t, _)) =
        ap (λ v. cond (v || occurs xs b) (f b) 0) t
        ∙ plain (cond (occurs xs b) (f b) 0)
        ∙ sym (ap (λ v. cond v (f x) 0 + cond (occurs xs b) (f b) 0) t)
      where
        plain : (n : ℕ) → n ≡ 0 + n
        plain n = omega arith

sum_occurring : (f : ℕ → ℕ) (xs : List ℕ) (n : ℕ) → is_distinct xs ≡ true → AllBelow n xs →
    sum_by (λ b. cond (occurs xs b) (f b) 0) (down n) ≡ sum_by f xs
sum_occurring f [] n d h = sum-zeros (down n)
sum_occurring f (x ∷ xs) n d (h, hs) =
    let apart = and_parts (not (occurs xs x)) (is_distinct xs) d in
    sum-alike (λ b. cond (nat_eq x b || occurs xs b) (f b) 0)
    (λ b. cond (nat_eq x b) (f x) 0 + cond (occurs xs b) (f b) 0) (down n)
    (all_every
    (λ b. cond (nat_eq x b || occurs xs b) (f b) 0 ≡ cond (nat_eq x b) (f x) 0 + cond (occurs xs b) (f b) 0) (down n)
    (λ b. split_first f x xs b (not-true (occurs xs x) apart.0)))
    ∙ sum-plus (λ b. cond (nat_eq x b) (f x) 0) (λ b. cond (occurs xs b) (f b) 0) (down n)
    ∙ ap₂ (λ m k. m + k) (one_of x (f x) n h) (sum_occurring f xs n apart.1 hs)
    ∙ sym (sum_by-cons f x xs)

-- have the same sums
pub sum-descending : (f : ℕ → ℕ) (xs : List ℕ) → is_distinct xs ≡ true → sum_by f (descending xs) ≡ sum_by f xs
unfolding found_below
sum-descending f xs d =
    ap (sum_by f) (sym (descending-below xs (sum xs + 1) (all_below_sum xs)))
    ∙ sum-filter (occurs xs) f (down (sum xs + 1))
    ∙ sum_occurring f xs (sum xs + 1) d (all_below_sum xs)

-- and are as many.
pub length-descending : (xs : List ℕ) → is_distinct xs ≡ true → length (descending xs) ≡ length xs
length-descending xs d = sym (sum-ones (descending xs)) ∙ sum-descending (λ _. 1) xs d ∙ sum-ones xs

-- ---- the walk down the numbers

found_yes : (xs : List ℕ) (n : ℕ) → occurs xs n ≡ true → found_below xs (suc n) ≡ n ∷ found_below xs n
unfolding found_below
found_yes xs n e = ap (λ v. cond v (n ∷ found_below xs n) (found_below xs n)) e

found_no : (xs : List ℕ) (n : ℕ) → occurs xs n ≡ false → found_below xs (suc n) ≡ found_below xs n
unfolding found_below
found_no xs n e = ap (λ v. cond v (n ∷ found_below xs n) (found_below xs n)) e

back : (n : ℕ) → 1 ≤ n → n ≡ suc (n - 1)
back n k = omega arith

-- Where a number is found there is room.
pub walk_room : (xs : List ℕ) (n : ℕ) (found : List ℕ) → 1 ≤ n → occurs xs (n - 1) ≡ true → is_distinct xs ≡ true →
    length xs ≤ 64 → found ++ found_below xs n ≡ descending xs → length found < 64
walk_room xs n found least e d few is =
    let last = ap (found_below xs) (back n least) ∙ found_yes xs (n - 1) e in
    settle (length-append found (found_below xs n)) (ap length is) (ap length last) (length-descending xs d)
  where
    settle : length (found ++ found_below xs n) ≡ length found + length (found_below xs n) →
        length (found ++ found_below xs n) ≡ length (descending xs) →
        length (found_below xs n) ≡ suc (length (found_below xs (n - 1))) → length (descending xs) ≡ length xs →
        length found < 64
    settle p q r s = omega arith

-- A number that occurs.
pub walk_yes : (xs : List ℕ) (n : ℕ) (found : List ℕ) → 1 ≤ n → occurs xs (n - 1) ≡ true →
    found ++ found_below xs n ≡ descending xs → (found ++ (n - 1) ∷ []) ++ found_below xs (n - 1) ≡ descending xs
walk_yes xs n found least e is =
    append_assoc found ((n - 1) ∷ []) (found_below xs (n - 1))
    ∙ ap (λ r. found ++ r) (sym (ap (found_below xs) (back n least) ∙ found_yes xs (n - 1) e))
    ∙ is

-- A number that doesn't.
pub walk_no : (xs : List ℕ) (n : ℕ) (found : List ℕ) → 1 ≤ n → occurs xs (n - 1) ≡ false →
    found ++ found_below xs n ≡ descending xs → found ++ found_below xs (n - 1) ≡ descending xs
walk_no xs n found least e is =
    ap (λ r. found ++ r) (sym (ap (found_below xs) (back n least) ∙ found_no xs (n - 1) e)) ∙ is

-- At the end all have been found.
pub walk_done : (xs : List ℕ) (n : ℕ) (found : List ℕ) → n ≤ 0 → found ++ found_below xs n ≡ descending xs →
    found ≡ descending xs
unfolding found_below
walk_done xs n found none is =
    sym (append-nil found) ∙ ap (λ m. found ++ found_below xs m) (sym (zero_is none)) ∙ is
  where
    zero_is : n ≤ 0 → n ≡ 0
    zero_is k = omega arith
