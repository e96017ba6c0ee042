-- On the way to the inverse of a triangular matrix: how far powers lie from 0, and what the sizes sum up to.
use Rattle.std.proofs.Common.{◌≡◌, ℕ, zero, suc, ◌+◌, ◌-◌, ◌*◌, ◌<◌, ◌≤◌}
use Rattle.std.proofs.Common.{true, false, cond, nat_eq, List, [], ◌∷◌, ◌++◌, length}
use Rattle.std.proofs.Common.{get_or, sym, ◌∙◌, ap, subst, refl, arith, sum_by, ◌⊎◌, inl, inr, zero-add, add-zero}
use Rattle.std.proofs.lemmas.List.Sums.{sum_by-append}
use Rattle.std.proofs.Math.Nat.{mul-zero}
use Rattle.std.specs.List.{range_with_len}
use Rattle.sp_defs.specs.Laurent.{Laurent, one, negate, times, size}
use Rattle.sp_defs.specs.Within.{PowersWithin}
use Rattle.sp_lists.proofs.Elements.{range_add, le_or_lt}
use Rattle.sp_algebra.proofs.Sizes.{within_plus, within_sum, within_negate, within_times, product_within}
use Rattle.sp_grid_law.specs.Tables.{delta}
use Rattle.sp_grid_law.specs.Solved.{solution, solved}
use Rattle.sp_grid_law.proofs.Sums.{all_range}
use Rattle.sp_grid_law.proofs.SparseSums.{sum_by-none, sum_by-range}
use Rattle.sp_grid_law.proofs.Matrices.{Matrix}
use Rattle.sp_grid_law.proofs.Solutions.{earlier, length-solved, solution_step}
use Rattle.sp_grid_law.proofs.Solutions.{solution_above, solved_at}

-- ---- powers

within-delta : (d i j : ℕ) → PowersWithin d (delta i j)
within-delta d i j = elim (nat_eq i j) as (λ b. PowersWithin d (cond b one [])) [
  | true ↦ (omega arith, tt)
  | false ↦ tt
]

-- Where the powers of a matrix are within 100,000 of 0, those of its inverse's cells in line k are within k times that.
pub solution_within : (n : ℕ) (A : Matrix) → ((i k : ℕ) → i < n → k < n → PowersWithin 100000 (A i k)) → (j m k : ℕ) →
    m ≤ n → k < m → PowersWithin (100000 * k) (solution A k j)
solution_within n A h j zero k le lt = absurd (omega arith)
solution_within n A h j (suc m) k le lt =
    settle (λ i under. solution_within n A h j m i (omega arith) under) (le_or_lt m k)
  where
    last : ((i : ℕ) → i < m → PowersWithin (100000 * i) (solution A i j)) → PowersWithin (100000 * m) (solution A m j)
    last before =
        subst (PowersWithin (100000 * m)) (sym (solution_step A j m))
        (within_plus (100000 * m) (delta m j) (negate (earlier A j m)) (within-delta (100000 * m) m j)
        (within_negate (100000 * m) (earlier A j m)
        (within_sum (100000 * m) (λ i. times (A m i) (solution A i j)) (range_with_len 0 m)
        (all_range (λ i. PowersWithin (100000 * m) (times (A m i) (solution A i j))) 0 m
        (λ i from under. within_times (100000 * m) (A m i) (solution A i j)
        (product_within 100000 (100000 * i) (100000 * m) (A m i) (solution A i j) (omega arith)
        (h m i (omega arith) (omega arith)) (before i (omega arith))))))))

    settle : ((i : ℕ) → i < m → PowersWithin (100000 * i) (solution A i j)) → (m ≤ k) ⊎ (k < m) →
        PowersWithin (100000 * k) (solution A k j)
    settle before (inl le) =
        subst (λ i. PowersWithin (100000 * i) (solution A i j)) {x = m} {y = k} (omega arith) (last before)
    settle before (inr under) = before k under

-- ---- sizes

-- Behind the last stands 0.
pub past_end : (xs : List Laurent) (k : ℕ) → length xs ≤ k → get_or xs k [] ≡ []
past_end [] k h = refl
past_end (x ∷ xs) zero h = absurd (omega arith)
past_end (x ∷ xs) (suc k) h = past_end xs k (omega arith)

-- The products of a line's cells with those of a column so far have the sizes of the places from the column's on.
pub earlier_sizes : (n : ℕ) (A : Matrix) (j i : ℕ) → j < i → i < n →
    sum_by (λ k. size (A i k) * size (get_or (solved A j i) k [])) (range_with_len 0 n)
    ≡ sum_by (λ k. size (A i k) * size (solution A k j)) (range_with_len j (i - j))
earlier_sizes n A j i lt under =
    ap (λ r. sum_by term r)
    (ap (range_with_len 0) {x = n} {y = j + (i - j + (n - i))} (omega arith)
    ∙ range_add 0 j (i - j + (n - i))
    ∙ ap (λ k. range_with_len 0 j ++ range_with_len k (i - j + (n - i))) {x = 0 + j} {y = j} (omega arith)
    ∙ ap (λ r. range_with_len 0 j ++ r) (range_add j (i - j) (n - i)))
    ∙ sum_by-append term (range_with_len 0 j) (range_with_len j (i - j) ++ range_with_len (j + (i - j)) (n - i))
    ∙ ap (λ m. m + sum_by term (range_with_len j (i - j) ++ range_with_len (j + (i - j)) (n - i)))
    (sum_by-none 0 j term
    (λ k from below. nothing k (solved_at A j i k (omega arith)
    ∙ solution_above A j j k (omega arith) (omega arith))))
    ∙ zero-add (sum_by term (range_with_len j (i - j) ++ range_with_len (j + (i - j)) (n - i)))
    ∙ sum_by-append term (range_with_len j (i - j)) (range_with_len (j + (i - j)) (n - i))
    ∙ ap (λ m. sum_by term (range_with_len j (i - j)) + m)
    (sum_by-none (j + (i - j)) (n - i) term (λ k from below. nothing k (behind k (omega arith))))
    ∙ add-zero (sum_by term (range_with_len j (i - j)))
    ∙ sum_by-range j (i - j) term (λ k. size (A i k) * size (solution A k j))
    (λ k from below. ap (λ p. size (A i k) * size p) (solved_at A j i k (omega arith)))
  where
    term : ℕ → ℕ
    term k = size (A i k) * size (get_or (solved A j i) k [])

    nothing : (k : ℕ) → get_or (solved A j i) k [] ≡ [] → term k ≡ 0
    nothing k e = ap (λ p. size (A i k) * size p) e ∙ mul-zero (size (A i k))

    behind : (k : ℕ) → i ≤ k → get_or (solved A j i) k [] ≡ []
    behind k le = past_end (solved A j i) k (omega (arith, length-solved A j i))
