-- The number of the partitions of n with parts at most m, for all n below a bound, by a table that grows from m to
-- m + 1. The rows of the table are computed by the checker.
use Rattle.std.proofs.Common.{◌≡◌, ℕ, zero, suc, ◌+◌, ◌-◌, ◌*◌, ◌/◌, ◌<◌, ◌≤◌, Bool, true, false, cond, nat_eq}
use Rattle.std.proofs.Common.{nat_le}
use Rattle.std.proofs.Common.{List, [], ◌∷◌, ◌++◌, map, take, length, get_or, replicate, sum_by, refl, sym, ◌∙◌, ap}
use Rattle.std.proofs.Common.{subst, arith, leb-true}
use Rattle.std.proofs.Math.Nat.{div-eq_of_lt}
use Rattle.std.proofs.lemmas.List.{length-map}
use Rattle.std.proofs.lemmas.List.Concat.{length-flat_map}
use Rattle.std.proofs.lemmas.List.FromFn.{get_or-map-range_with_len, take-map-range_with_len}
use Rattle.std.proofs.lemmas.List.Sums.{sum_by-cons}
use Rattle.std.specs.List.{AllByRecursion, list_all, range_with_len}
use Rattle.sp_defs.specs.Partition.{partitions_within, partitions}
use Rattle.sp_lists.proofs.Elements.{all_tests, range_all, range_at}
use Rattle.sp_lists.proofs.Greatest.{within_map}
use Rattle.sp_lists.proofs.Maps.{map-alike}
use Rattle.sp_row_bounds.specs.Counts.{partition_numbers}
use Rattle.sp_lists.proofs.Places.{all_weaken}

-- how many partitions of n have no part greater than m
counted : ℕ → ℕ → ℕ
counted m n = length (partitions_within m n)

-- those with k parts m + 1, for each k
counted-next : (m n : ℕ) →
    counted (suc m) n ≡ sum_by (λ k. counted m (n - k * suc m)) (range_with_len 0 (n / suc m + 1))
unfolding partitions_within counted
counted-next m n =
    length-flat_map (λ k. map (λ rest. replicate k (suc m) ++ rest) (partitions_within m (n - k * suc m)))
    (range_with_len 0 (n / suc m + 1))
    ∙ ap (λ f. sum_by f (range_with_len 0 (n / suc m + 1)))
    (λ i k. length-map (partitions_within m (n - k * suc m)) (λ rest. replicate k (suc m) ++ rest) i)

-- no partition of n has a part greater than n
counted-more : (n d : ℕ) → counted (n + d) n ≡ counted n n
counted-more n zero = ap (λ m. counted m n) (omega arith)
counted-more n (suc d) =
    ap (λ m. counted m n) (one_up n d)
    ∙ counted-next (n + d) n
    ∙ ap (λ q. sum_by (λ k. counted (n + d) (n - k * suc (n + d))) (range_with_len 0 (q + 1)))
    (div-eq_of_lt {n = n} {m = suc (n + d)} (omega arith))
    ∙ sum_by-cons (λ k. counted (n + d) (n - k * suc (n + d))) 0 []
    ∙ ap (λ x. x + 0) (ap (counted (n + d)) (none n d))
    ∙ plain (counted (n + d) n)
    ∙ counted-more n d
  where
    one_up : (n d : ℕ) → n + suc d ≡ suc (n + d)
    one_up n d = omega arith

    none : (n d : ℕ) → n - 0 * suc (n + d) ≡ n
    none n d = omega arith

    plain : (x : ℕ) → x + 0 ≡ x
    plain x = omega arith

-- ---- the table

-- the numbers for 0, 1, .. l - 1, from those with parts at most m to those with parts at most m + 1
next_row : ℕ → ℕ → List ℕ → List ℕ
next_row l m row =
    map (λ n. sum_by (λ k. get_or row (n - k * suc m) 0) (range_with_len 0 (n / suc m + 1))) (range_with_len 0 l)

-- the numbers for 0, 1, .. l - 1 with parts at most m
row_of : ℕ → ℕ → List ℕ
row_of l zero = map (λ n. cond (nat_eq n 0) 1 0) (range_with_len 0 l)
row_of l (suc m) = next_row l m (row_of l m)

row_is : (l m : ℕ) → row_of l m ≡ map (counted m) (range_with_len 0 l)
unfolding row_of next_row counted partitions_within
row_is l zero = map-alike (λ n. cond (nat_eq n 0) 1 0) (counted 0) (range_with_len 0 l)
    (range_all (λ n. cond (nat_eq n 0) 1 0 ≡ counted 0 n) 0 l (λ n lo hi. one (nat_eq n 0)))
  where
    one : (b : Bool) → cond b 1 0 ≡ length {A = List ℕ} (cond b ([] ∷ []) [])
    one true = refl
    one false = refl
row_is l (suc m) =
    ap (next_row l m) (row_is l m)
    ∙ map-alike (λ n. sum_by (λ k. get_or row (n - k * suc m) 0) (range_with_len 0 (n / suc m + 1))) (counted (suc m))
    (range_with_len 0 l)
    (range_all
    (λ n. sum_by (λ k. get_or row (n - k * suc m) 0) (range_with_len 0 (n / suc m + 1)) ≡ counted (suc m) n) 0 l
    (λ n lo hi. ap (λ f. sum_by f (range_with_len 0 (n / suc m + 1))) (λ i k. found n k (omega arith) i)
    ∙ sym (counted-next m n)))
  where
    row : List ℕ
    row = map (counted m) (range_with_len 0 l)

    found : (n k : ℕ) → n < l → get_or row (n - k * suc m) 0 ≡ counted m (n - k * suc m)
    found n k lt =
        get_or-map-range_with_len (counted m) 0 l (n - k * suc m) (n - k * suc m) 0 (omega arith) (omega arith)

-- ---- the numbers

computed : row_of 33 32 ≡ partition_numbers
unfolding row_of next_row
computed = refl

counted_all : (n : ℕ) → n ≤ 32 → counted 32 n ≡ counted n n
counted_all n le = ap (λ m. counted m n) (gap n le) ∙ counted-more n (32 - n)
  where
    gap : (n : ℕ) → n ≤ 32 → 32 ≡ n + (32 - n)
    gap n le = omega arith

-- The partitions of 0, 1, .. 32, counted.
pub numbers : map (λ n. length (partitions n)) (range_with_len 0 33) ≡ partition_numbers
unfolding partitions counted
numbers =
    sym (map-alike (counted 32) (λ n. length (partitions n)) (range_with_len 0 33)
    (range_all (λ n. counted 32 n ≡ length (partitions n)) 0 33 (λ n lo hi. counted_all n (omega arith))))
    ∙ sym (row_is 33 32)
    ∙ computed

-- a bound on the first of the numbers
few : (l b : ℕ) → l ≤ 33 → list_all (λ x. nat_le x b) (take l partition_numbers) ≡ true → (n : ℕ) → n < l →
    length (partitions n) ≤ b
few l b le test n lt =
    range_at (λ k. length (partitions k) ≤ b) 0 l
    (within_map (λ k. length (partitions k)) b (range_with_len 0 l)
    (subst (λ xs. AllByRecursion (λ x. x ≤ b) xs) (sym first)
    (all_weaken (λ x. nat_le x b ≡ true) (λ x. x ≤ b) (take l partition_numbers) (λ x e. leb-true x b e)
    (all_tests (λ x. nat_le x b) (take l partition_numbers) test)))) n (omega arith) (omega arith)
  where
    first : map (λ k. length (partitions k)) (range_with_len 0 l) ≡ take l partition_numbers
    first = sym (take-map-range_with_len (λ k. length (partitions k)) 0 33 l le) ∙ ap (take l) numbers

-- the bounds for all n up to 30, and up to 32
pub up_to_30 : (n : ℕ) → n ≤ 30 → length (partitions n) ≤ 5604
up_to_30 n le = few 31 5604 (omega arith) refl n (omega arith)

-- the bound for all n up to 32
pub up_to_32 : (n : ℕ) → n ≤ 32 → length (partitions n) ≤ 8349
up_to_32 n le = few 33 8349 (omega arith) refl n (omega arith)
