-- One diagram within another: the sums of the rows, and that they are one diagram if the degrees agree.
use Rattle.std.proofs.Common.{◌≡◌, ℕ, zero, suc, ◌≤◌, List, [], ◌∷◌, arith, sum, slice_index}
use Rattle.std.proofs.lemmas.List.Sums.{sum_by-cons}
use Rattle.sp_defs.specs.Partition.{degree, IsPartition}
use Rattle.sp_shapes.proofs.Diagram.{same_rows}

-- rows that are as long have as great a sum
pub rows_sum : (inner outer : List ℕ) → ((k : ℕ) → slice_index inner k ≤ slice_index outer k) → sum inner ≤ sum outer
rows_sum [] ys f = omega arith
rows_sum (x ∷ xs) [] f = omega (arith, sum_by-cons (λ n. n) x xs, f 0, rows_sum xs [] (λ k. f (suc k)))
rows_sum (x ∷ xs) (y ∷ ys) f =
    omega (arith, sum_by-cons (λ n. n) x xs, sum_by-cons (λ n. n) y ys, f 0, rows_sum xs ys (λ k. f (suc k)))

rows_equal : (inner outer : List ℕ) → ((k : ℕ) → slice_index inner k ≤ slice_index outer k) → sum outer ≤ sum inner →
    (k : ℕ) → slice_index inner k ≡ slice_index outer k
rows_equal xs [] f h k = omega (arith, f k)
rows_equal [] (y ∷ ys) f h zero = omega (arith, sum_by-cons (λ n. n) y ys)
rows_equal [] (y ∷ ys) f h (suc k) = rows_equal [] ys (λ k. f (suc k)) (omega (arith, sum_by-cons (λ n. n) y ys)) k
rows_equal (x ∷ xs) (y ∷ ys) f h zero =
    omega (arith, f 0, sum_by-cons (λ n. n) x xs, sum_by-cons (λ n. n) y ys, rows_sum xs ys (λ k. f (suc k)))
rows_equal (x ∷ xs) (y ∷ ys) f h (suc k) =
    rows_equal xs ys (λ k. f (suc k)) (omega (arith, f 0, sum_by-cons (λ n. n) x xs, sum_by-cons (λ n. n) y ys)) k

-- a diagram within another of no greater degree is the other
pub same_within : (inner outer : List ℕ) → IsPartition inner → IsPartition outer →
    ((k : ℕ) → slice_index inner k ≤ slice_index outer k) → degree outer ≤ degree inner → inner ≡ outer
same_within inner outer pi po f h = same_rows inner outer pi po (rows_equal inner outer f h)
