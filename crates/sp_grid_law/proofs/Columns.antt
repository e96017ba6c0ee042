-- A column of the inverse of a triangular grid, as it is made line by line.
use Rattle.std.proofs.Common.{◌≡◌, ℕ, suc, ◌+◌, ◌-◌, ◌*◌, ◌<◌, ◌≤◌, List, [], ◌∷◌, ◌++◌, map, length, get_or}
use Rattle.std.proofs.Common.{refl, sym, ◌∙◌, ap, ap₂, subst, arith, ◌⊎◌, inl, inr}
use Rattle.std.proofs.lemmas.List.FromFn.{get_or-map-range_with_len, map-range_with_len_more}
use Rattle.std.specs.List.{AllByRecursion, range_with_len}
use Rattle.sp_defs.specs.Laurent.{Laurent, nought, one, plus, negate, times, size, sum_over}
use Rattle.sp_defs.specs.Within.{PowersWithin}
use Rattle.sp_lists.proofs.Elements.{range_add, all_map, le_or_lt}
use Rattle.sp_algebra.proofs.Laws.{IsLaurent-negate, nought_plus, plus_nought, times_nought}
use Rattle.sp_algebra.proofs.Sizes.{within_more}
use Rattle.sp_algebra.proofs.Sums.{IsLaurent-sum_over, sum_over-append}
use Rattle.sp_fock_law.specs.Grid.{GridValue, row_of, cell_of}
use Rattle.sp_fock_law.specs.Sparse.{Cells, IsSparse, spread}
use Rattle.sp_grid_law.specs.Tables.{HasPowersWithin, delta, transposed}
use Rattle.sp_grid_law.specs.Columns.{IsColumnWithin}
use Rattle.sp_grid_law.specs.Products.{product_cell, product_size}
use Rattle.sp_grid_law.specs.Inverses.{IsTriangular, inverse_size}
use Rattle.sp_grid_law.specs.Lines.{IsLine, factor_at, line_sum, line_size}
use Rattle.sp_grid_law.proofs.Lines.{all_line, among_all, among_is, line-alike}
use Rattle.sp_grid_law.specs.Solved.{earlier_sum, inverse_of, solution, solved}
use Rattle.sp_grid_law.proofs.Sums.{all_range, sum_over-none, sum_over-range}
use Rattle.sp_grid_law.proofs.SparseSums.{sum_by-range}
use Rattle.sp_grid_law.proofs.Matrices.{Matrix, delta-same, delta-other}
use Rattle.sp_grid_law.proofs.Solutions.{length-solved, solved_is, solved_at, solution_above, solution_own}
use Rattle.sp_grid_law.proofs.Bounds.{earlier_sizes, past_end, solution_within}
use Rattle.sp_grid_law.proofs.Tabulated.{range-alike, cell_tabulated, row_tabulated}

-- The first cells, down to the diagonal, are 0 and 1.
pub first_solved : (A : Matrix) (j : ℕ) → solved A j (j + 1) ≡ map (λ line. delta line j) (range_with_len 0 (j + 1))
first_solved A j = solved_is A j (j + 1) ∙ range-alike (j + 1) (λ i. solution A i j) (λ i. delta i j) at
  where
    at : (k : ℕ) → k < j + 1 → solution A k j ≡ delta k j
    at k lt = settle (le_or_lt j k)
      where
        settle : (j ≤ k) ⊎ (k < j) → solution A k j ≡ delta k j
        settle (inl le) =
            ap (λ i. solution A i j) {x = k} {y = j} (omega arith)
            ∙ solution_own A j
            ∙ sym (delta-same k j (omega arith))
        settle (inr before) = solution_above A j j k (omega arith) before ∙ sym (delta-other k j (λ e. omega arith))

-- So many zeros and a 1 behind them.
pub zeros_and_one : (j : ℕ) →
    map (λ k. nought) (range_with_len 0 j) ++ one ∷ [] ≡ map (λ line. delta line j) (range_with_len 0 (j + 1))
zeros_and_one j =
    ap₂ (λ ps p. ps ++ p ∷ [])
    (range-alike j (λ k. nought) (λ line. delta line j) (λ k lt. sym (delta-other k j (λ e. omega arith))))
    (sym (delta-same j j refl))
    ∙ sym (map-range_with_len_more (λ line. delta line j) 0 j j (omega arith))

module _ (g : GridValue) (t : IsTriangular g) (column line : ℕ) (behind : column < line)
    (within : line < length g.lines) where
  cells : List Laurent
  cells = solved (cell_of g) column line

  width : length g.columns ≡ length g.lines
  width = ap length t.square

  sum_is : line_sum g (solved (cell_of g) column line) line
      ≡ earlier_sum (cell_of g) line (solved (cell_of g) column line)
  sum_is =
      ap (λ r. sum_over r term) (ap (range_with_len 0) {x = length g.columns} {y = line + (length g.columns - line)}
      (omega (arith, width)) ∙ range_add 0 line (length g.columns - line))
      ∙ sum_over-append (range_with_len 0 line) (range_with_len (0 + line) (length g.columns - line)) term
      ∙ ap (plus (sum_over (range_with_len 0 line) term))
      (sum_over-none (0 + line) (length g.columns - line) term
      (λ k from under. ap (times (cell_of g line k))
      (past_end (solved (cell_of g) column line) k (omega (arith, length-solved (cell_of g) column line)))
      ∙ times_nought (cell_of g line k)))
      ∙ plus_nought (sum_over (range_with_len 0 line) term) (IsLaurent-sum_over (range_with_len 0 line) term)
    where
      term : ℕ → Laurent
      term k = times (cell_of g line k) (get_or (solved (cell_of g) column line) k [])

  -- The next cell is the negation of the sum of the products.
  pub next_solved : (p : Laurent) → p ≡ negate (line_sum g (solved (cell_of g) column line) line) →
      solved (cell_of g) column (line + 1) ≡ solved (cell_of g) column line ++ p ∷ []
  unfolding solved
  next_solved p e =
      ap (solved (cell_of g) column) {x = line + 1} {y = suc line} (omega arith)
      ∙ ap (λ q. solved (cell_of g) column line ++ q ∷ [])
      (ap (λ d. plus d (negate sum)) (delta-other line column (λ same. omega (arith, same, behind)))
      ∙ nought_plus (negate sum) (IsLaurent-negate sum)
      ∙ ap negate (sym sum_is)
      ∙ sym e)
    where
      sum : Laurent
      sum = earlier_sum (cell_of g) line (solved (cell_of g) column line)

  -- The sizes sum up to those of the inverse.
  pub size_is : line_size g (solved (cell_of g) column line) line ≡ inverse_size g (inverse_of g) line column
  size_is =
      earlier_sizes (length g.columns) (cell_of g) column line behind (omega (arith, width, within))
      ∙ sum_by-range column (line - column) (λ k. size (cell_of g line k) * size (solution (cell_of g) k column))
      (λ k. size (cell_of g line k) * size (cell_of (inverse_of g) k column))
      (λ k from under. ap (λ p. size (cell_of g line k) * size p)
      (sym (cell_tabulated g.degree g.columns g.lines (solution (cell_of g)) k column (omega (arith, within))
      (omega (arith, width, within, behind)))))

-- The powers in a column are small.
pub solved_powers : (g : GridValue) → length g.columns ≡ length g.lines → length g.lines ≤ 5604 →
    HasPowersWithin 100000 g → (column line : ℕ) → line ≤ length g.lines →
    AllByRecursion (PowersWithin 560300000) (solved (cell_of g) column line)
solved_powers g width le small column line within =
    subst (AllByRecursion (PowersWithin 560300000)) (sym (solved_is (cell_of g) column line))
    (all_map (PowersWithin 560300000) (λ i. solution (cell_of g) i column) (range_with_len 0 line)
    (all_range (λ i. PowersWithin 560300000 (solution (cell_of g) i column)) 0 line
    (λ i from under. within_more (100000 * i) 560300000 (solution (cell_of g) i column) (omega arith)
    (solution_within (length g.lines) (cell_of g)
    (λ i k hi hk. small i k hi (subst (λ m. k < m) (sym width) hk)) column (length g.lines) i (omega arith)
    (omega arith)))))

-- A whole column as a line by its cells that aren't 0.
pub solved_line : (A : Matrix) (column m : ℕ) (xs : List Laurent) → xs ≡ solved A column m → (cells : Cells) →
    IsLine (length xs) (factor_at xs) cells → IsLine m (λ line. solution A line column) cells
solved_line A column m xs same cells h =
    line-alike m (factor_at xs) (λ line. solution A line column) cells
    (subst (λ n. IsLine n (factor_at xs) cells) (ap length same ∙ length-solved A column m) h)
    (range-alike m (factor_at xs) (λ line. solution A line column)
    (λ k lt. ap (λ ys. get_or ys k []) same ∙ solved_at A column m k lt))

-- ---- a column of a product

module _ (a b : GridValue) (meet : a.columns ≡ b.lines) (column : ℕ) (in_range : column < length b.columns)
    (factors : List Laurent) (same : factors ≡ row_of (transposed b) column) where
  row_is : factors ≡ map (λ k. cell_of b k column) (range_with_len 0 (length b.lines))
  row_is = same ∙ row_tabulated b.degree b.lines b.columns (λ i k. cell_of b k i) column in_range

  factor_is : (k : ℕ) → k < length a.columns → factor_at factors k ≡ cell_of b k column
  factor_is k lt =
      ap (λ fs. get_or fs k []) row_is
      ∙ get_or-map-range_with_len (λ k. cell_of b k column) 0 (length b.lines) k k []
      (subst (λ n. k < n) (ap length meet) lt) (omega arith)

  -- The sum over a line of the first factor is the product's cell.
  pub product_sum : (line : ℕ) → line_sum a factors line ≡ product_cell a b line column
  product_sum line =
      sum_over-range 0 (length a.columns) (λ k. times (cell_of a line k) (factor_at factors k))
      (λ k. times (cell_of a line k) (cell_of b k column))
      (λ k from lt. ap (times (cell_of a line k)) (factor_is k (omega arith)))

  -- And so it is for the sizes.
  pub product_total : (line : ℕ) → line_size a factors line ≡ product_size a b line column
  product_total line =
      sum_by-range 0 (length a.columns) (λ k. size (cell_of a line k) * size (factor_at factors k))
      (λ k. size (cell_of a line k) * size (cell_of b k column))
      (λ k from lt. ap (λ p. size (cell_of a line k) * size p) (factor_is k (omega arith)))

  -- The cells of the column as a line.
  pub product_line : (cells : Cells) → IsLine (length a.lines) (line_sum a factors) cells →
      IsLine (length a.lines) (λ line. product_cell a b line column) cells
  product_line cells h =
      line-alike (length a.lines) (line_sum a factors) (λ line. product_cell a b line column) cells h
      (range-alike (length a.lines) (line_sum a factors) (λ line. product_cell a b line column)
      (λ line lt. product_sum line))

  -- Its powers are those of the second factor.
  pub factors_within : (d : ℕ) → HasPowersWithin d b → AllByRecursion (PowersWithin d) factors
  factors_within d h =
      subst (AllByRecursion (PowersWithin d)) (sym row_is)
      (all_map (PowersWithin d) (λ k. cell_of b k column) (range_with_len 0 (length b.lines))
      (all_range (λ k. PowersWithin d (cell_of b k column)) 0 (length b.lines)
      (λ k from lt. h k column (omega arith) in_range)))

-- ---- columns of a grid and lines of its transpose

module _ (d : ℕ) (g : GridValue) (column : ℕ) (in_range : column < length g.columns) (cells : Cells)
    (sparse : IsSparse (length g.lines) cells)
    (row : spread (length g.lines) cells ≡ row_of (transposed g) column) where
  turned_cell : (line : ℕ) → line < length g.lines → cell_of (transposed g) column line ≡ cell_of g line column
  turned_cell line lt = cell_tabulated g.degree g.lines g.columns (λ i k. cell_of g k i) column line in_range lt

  -- The powers in a column are small where those in the line of the transpose are.
  pub column_within : AllByRecursion (λ c. PowersWithin d c.1) cells → IsColumnWithin d g column
  column_within h line lt =
      subst (PowersWithin d) (among_is (transposed g) column cells sparse row line lt ∙ turned_cell line lt)
      (among_all (PowersWithin d) tt cells h line)

  -- And back.
  pub line_within : IsColumnWithin d g column → AllByRecursion (λ c. PowersWithin d c.1) cells
  line_within h =
      all_line (transposed g) column cells sparse row (PowersWithin d)
      (λ line lt. subst (PowersWithin d) (sym (turned_cell line lt)) (h line lt))

-- What holds before a place and at it holds before the next one.
pub one_further : (P : ℕ → Type 0) (n : ℕ) → ((k : ℕ) → k < n → P k) → P n → (k : ℕ) → k < n + 1 → P k
one_further P n before at k lt = settle (le_or_lt n k)
  where
    settle : (n ≤ k) ⊎ (k < n) → P k
    settle (inl le) = subst P {x = n} {y = k} (omega arith) at
    settle (inr under) = before k under
