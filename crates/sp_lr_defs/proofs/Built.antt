-- The row of a filling whose numbers up to k reach to a given place, for each k.
use Rattle.std.proofs.Common.{◌≡◌, ℕ, zero, suc, ◌+◌, ◌-◌, ◌<◌, ◌≤◌, false, List, [], ◌++◌, length}
use Rattle.std.proofs.Common.{nat_le, nat_eq, count_by, replicate, ap, arith}
use Rattle.std.proofs.Common.{add-one, ◌⊎◌, inl, inr, ne_eqb, length-append}
use Rattle.std.specs.List.{AllByRecursion}
use Rattle.std.proofs.lemmas.List.{length-replicate}
use Rattle.sp_lists.proofs.Elements.{le_or_lt, all_append, count_zero}
use Rattle.sp_lists.proofs.Places.{all_weaken}
use Rattle.sp_lr_defs.proofs.Sorted.{Rises, rises_append, rises_equal, count_to, count_one, none_counted, all_counted}
use Rattle.sp_lr_defs.proofs.Words.{count-append}

-- the numbers from 1 to n, each as often as a grows there
abbrev pub built : (ℕ → ℕ) → ℕ → List ℕ
built a zero = []
built a (suc n) = built a n ++ replicate (a (suc n) - a n) (suc n)

-- a grows up to n
abbrev pub Grows : (ℕ → ℕ) → ℕ → Type 0
Grows a n = (k : ℕ) → k < n → a k ≤ a (suc k)

all_equal : (P : ℕ → Type 0) (n v : ℕ) → P v → AllByRecursion P (replicate n v)
all_equal P zero v h = tt
all_equal P (suc n) v h = (h, all_equal P n v h)

-- the numbers are from 1 to n
pub built_numbers : (a : ℕ → ℕ) (n : ℕ) → AllByRecursion (λ v. (1 ≤ v) × (v ≤ n)) (built a n)
built_numbers a zero = tt
built_numbers a (suc n) =
    all_append (λ v. (1 ≤ v) × (v ≤ suc n)) (built a n) (replicate (a (suc n) - a n) (suc n))
    (all_weaken (λ v. (1 ≤ v) × (v ≤ n)) (λ v. (1 ≤ v) × (v ≤ suc n)) (built a n) (λ v (lo, hi). (lo, omega arith))
    (built_numbers a n))
    (all_equal (λ v. (1 ≤ v) × (v ≤ suc n)) (a (suc n) - a n) (suc n) (omega arith, omega arith))

-- at most n
pub built_most : (a : ℕ → ℕ) (n : ℕ) → AllByRecursion (λ v. v ≤ n) (built a n)
built_most a n = all_weaken (λ v. (1 ≤ v) × (v ≤ n)) (λ v. v ≤ n) (built a n) (λ v (lo, hi). hi) (built_numbers a n)

-- they increase
pub built_rises : (a : ℕ → ℕ) (n : ℕ) → Rises (built a n)
built_rises a zero = tt
built_rises a (suc n) =
    rises_append (built a n) (replicate (a (suc n) - a n) (suc n)) n (built_rises a n) (built_most a n)
    (rises_equal (a (suc n) - a n) (suc n)) (all_equal (λ y. n ≤ y) (a (suc n) - a n) (suc n) (omega arith))

-- how many there are
pub built-length : (a : ℕ → ℕ) (n : ℕ) → Grows a n → a 0 + length (built a n) ≡ a n
built-length a zero g = omega arith
built-length a (suc n) g =
    omega (
      arith,
      length-append (built a n) (replicate (a (suc n) - a n) (suc n)),
      length-replicate (a (suc n) - a n) (suc n),
      built-length a n (λ k lt. g k (omega arith)),
      g n (omega arith),
    )

-- those up to k reach to a k
pub built-count : (a : ℕ → ℕ) (n : ℕ) → Grows a n → (k : ℕ) → k ≤ n → a 0 + count_to k (built a n) ≡ a k
built-count a zero g k h =
    let none : k ≡ 0 = omega arith in omega (arith, ap a none)
built-count a (suc n) g k h = settle (le_or_lt k n) (built-count a n (λ j lt. g j (omega arith)) k)
  where
    settle : (k ≤ n) ⊎ (n < k) → (k ≤ n → a 0 + count_to k (built a n) ≡ a k) →
        a 0 + count_to k (built a (suc n)) ≡ a k
    settle (inl le) ih =
        omega (
          arith,
          ih le,
          count-append (λ v. nat_le v k) (built a n) (replicate (a (suc n) - a n) (suc n)),
          none_counted k (replicate (a (suc n) - a n) (suc n))
              (all_equal (λ y. k < y) (a (suc n) - a n) (suc n) (omega arith)),
        )
    settle (inr lt) ih =
        let is : suc n ≡ k = omega arith in
        let most : AllByRecursion (λ v. v ≤ k) (built a (suc n)) =
        all_weaken (λ v. v ≤ suc n) (λ v. v ≤ k) (built a (suc n)) (λ v le. omega arith) (built_most a (suc n)) in
        omega (arith, all_counted k (built a (suc n)) most, built-length a (suc n) g, ap a is)

-- how often a number stands there
pub built-times : (a : ℕ → ℕ) (n : ℕ) → Grows a n → (k : ℕ) → k < n →
    count_by (nat_eq (k + 1)) (built a n) ≡ a (suc k) - a k
built-times a n g k h =
    omega (
      arith,
      count_one k (built a n),
      built-count a n g k (omega arith),
      built-count a n g (k + 1) (omega arith),
      ap a (add-one k),
      g k h,
    )

-- none is greater than n
pub built-none : (a : ℕ → ℕ) (n k : ℕ) → n ≤ k → count_by (nat_eq (k + 1)) (built a n) ≡ 0
built-none a n k h =
    count_zero (nat_eq (k + 1)) (built a n)
    (all_weaken (λ v. v ≤ n) (λ v. nat_eq (k + 1) v ≡ false) (built a n)
    (λ v le. ne_eqb (k + 1) v (λ e. omega arith)) (built_most a n))
