-- Lines by their cells that aren't 0: how they grow, what they sum up to, and grids of them.
use Rattle.std.proofs.Common.{◌≡◌, ◌≢◌, ℕ, zero, suc, ◌+◌, ◌-◌, ◌*◌, ◌<◌}
use Rattle.std.proofs.Common.{◌≤◌, List, [], ◌∷◌, ◌++◌, map, length, take, get_or}
use Rattle.std.proofs.Common.{refl, sym, ◌∙◌, ap, ap₂, subst, arith, sum_by, true, false, cond, nat_eq}
use Rattle.std.proofs.Math.Nat.{zero-mul}
use Rattle.std.proofs.lemmas.List.{length-map, take_more}
use Rattle.std.proofs.lemmas.List.FromFn.{map-range_with_len_more, get_or-map-range_with_len, length-map-range_with_len}
use Rattle.std.specs.List.{AllByRecursion, range_with_len}
use Rattle.sp_defs.specs.Laurent.{Laurent, times, size, sum_over}
use Rattle.sp_defs.specs.Within.{PowersWithin, ProductWithin}
use Rattle.sp_lists.proofs.Places.{all_weaken, all_places}
use Rattle.sp_algebra.proofs.Laws.{nought_times}
use Rattle.sp_algebra.proofs.Sizes.{product_within}
use Rattle.sp_fock_law.specs.Grid.{GridValue, row_of, cell_of}
use Rattle.sp_fock_law.specs.Sparse.{Cells, IsSparse, IsSparseFrom, cell_among, spread}
use Rattle.sp_fock_law.proofs.Sparse.{IsSparseFrom-append, IsSparseFrom-wider, spread-append, spread-append_zero}
use Rattle.sp_fock_law.proofs.Sparse.{spread-at, cell_among-behind, cell_among-append_here, cell_among-append_other}
use Rattle.sp_grid_law.specs.Tables.{tabulated, transposed}
use Rattle.sp_grid_law.specs.Lines.{IsLine, factor_at, cells_sum, cells_size, line_sum, line_size}
use Rattle.sp_grid_law.proofs.Sums.{sum_over-range}
use Rattle.sp_grid_law.proofs.SparseSums.{all_cells, sum_over-cells, sum_by-cells, sum_by-range}
use Rattle.sp_grid_law.proofs.Tabulated.{cell_tabulated, tabulated_is, tabulated-alike, with_cells}

-- ---- how a line grows

-- No cells are those of a line without places.
pub line_none : (f : ℕ → Laurent) → IsLine 0 f []
line_none f = record { sparse = tt; row = refl }

module _ (width : ℕ) (f : ℕ → Laurent) (cells : Cells) (h : IsLine width f cells) where
  last_place : map f (range_with_len 0 (width + 1)) ≡ map f (range_with_len 0 width) ++ f width ∷ []
  last_place = map-range_with_len_more f 0 width width (omega arith)

  -- A cell that isn't 0 goes to the end.
  pub line_more : (p : Laurent) → p ≡ f width → p ≢ [] → IsLine (width + 1) f (cells ++ (width, p) ∷ [])
  line_more p e ne = record {
    sparse = IsSparseFrom-append 0 width cells h.sparse width p (omega arith) (omega arith) ne;
    row = spread-append width cells h.sparse p ∙ ap₂ (λ ps q. ps ++ q ∷ []) h.row e ∙ sym last_place;
  }

  -- For a 0 the cells stay.
  pub line_zero : f width ≡ [] → IsLine (width + 1) f cells
  line_zero e = record {
    sparse = IsSparseFrom-wider 0 width (width + 1) cells (omega arith) h.sparse;
    row = spread-append_zero width cells h.sparse ∙ ap₂ (λ ps q. ps ++ q ∷ []) h.row (sym e) ∙ sym last_place;
  }

-- A line with the same polynomials.
pub line-alike : (width : ℕ) (f g : ℕ → Laurent) (cells : Cells) → IsLine width f cells →
    map f (range_with_len 0 width) ≡ map g (range_with_len 0 width) → IsLine width g cells
line-alike width f g cells h same = record { sparse = h.sparse; row = h.row ∙ same }

-- ---- the cells of a line of a grid

module _ (g : GridValue) (line : ℕ) (cells : Cells) (sparse : IsSparse (length g.columns) cells)
    (row : spread (length g.columns) cells ≡ row_of g line) where
  -- The polynomial at a place is the grid's cell.
  pub among_is : (k : ℕ) → k < length g.columns → cell_among cells k ≡ cell_of g line k
  among_is k lt = sym (spread-at (length g.columns) cells k lt) ∙ ap (λ ps. get_or ps k []) row

  -- What holds of the grid's cells in the line holds of those that aren't 0.
  pub all_line : (P : Laurent → Type 0) → ((k : ℕ) → k < length g.columns → P (cell_of g line k)) →
      AllByRecursion (λ c. P c.1) cells
  all_line P h = all_cells P 0 (length g.columns) cells sparse (λ k from lt. subst P (sym (among_is k lt)) (h k lt))

  -- The sum over the cells that aren't 0 is that over all of them.
  pub cells_sum_is : (factors : List Laurent) → cells_sum cells factors ≡ line_sum g factors line
  cells_sum_is factors =
      sum_over-cells (λ k p. times p (factor_at factors k)) (λ k. nought_times (factor_at factors k)) 0
      (length g.columns) cells sparse
      ∙ ap (λ n. sum_over (range_with_len 0 n) (λ k. times (cell_among cells k) (factor_at factors k)))
      {x = length g.columns - 0} {y = length g.columns} (omega arith)
      ∙ sum_over-range 0 (length g.columns) (λ k. times (cell_among cells k) (factor_at factors k))
      (λ k. times (cell_of g line k) (factor_at factors k))
      (λ k from lt. ap (λ p. times p (factor_at factors k)) (among_is k (omega arith)))

  -- And so it is for the sizes.
  pub cells_size_is : (factors : List Laurent) → cells_size cells factors ≡ line_size g factors line
  cells_size_is factors =
      sum_by-cells (λ k p. size p * size (factor_at factors k)) (λ k. zero-mul (size (factor_at factors k))) 0
      (length g.columns) cells sparse
      ∙ ap (λ n. sum_by (λ k. size (cell_among cells k) * size (factor_at factors k)) (range_with_len 0 n))
      {x = length g.columns - 0} {y = length g.columns} (omega arith)
      ∙ sum_by-range 0 (length g.columns) (λ k. size (cell_among cells k) * size (factor_at factors k))
      (λ k. size (cell_of g line k) * size (factor_at factors k))
      (λ k from lt. ap (λ p. size p * size (factor_at factors k)) (among_is k (omega arith)))

  -- Where the powers in the line and in the factors are small, so are those in the products.
  pub products_within : (x y d : ℕ) → x + y ≤ d → ((k : ℕ) → k < length g.columns → PowersWithin x (cell_of g line k)) →
      (factors : List Laurent) → AllByRecursion (PowersWithin y) factors →
      AllByRecursion (λ c. AllByRecursion (ProductWithin d c.1) factors) cells
  products_within x y d le small factors near =
      all_line (λ p. AllByRecursion (ProductWithin d p) factors)
      (λ k lt. all_weaken (PowersWithin y) (ProductWithin d (cell_of g line k)) factors
      (λ q h. product_within x y d (cell_of g line k) q le (small k lt) h) near)

-- ---- the first cells of a line

sparse_take : (first width : ℕ) (cells : Cells) → IsSparseFrom first width cells → (i : ℕ) (d : ℕ × Laurent) →
    i < length cells → (IsSparseFrom first (get_or cells i d).0 (take i cells)) × (first ≤ (get_or cells i d).0)
sparse_take first width [] h i d lt = absurd (omega arith)
sparse_take first width ((k, p) ∷ others) (from, under, ne, hs) zero d lt = (tt, from)
sparse_take first width ((k, p) ∷ others) (from, under, ne, hs) (suc i) d lt =
    let later = sparse_take (k + 1) width others hs i d (omega arith) in
    ((from, omega (arith, later.1), ne, later.0), omega (arith, later.1, from))

module _ (width : ℕ) (cells : Cells) (h : IsSparse width cells) (i : ℕ) (d : ℕ × Laurent) (lt : i < length cells) where
  -- Among the cells before one, 0 stands at its place.
  pub taken_before : cell_among (take i cells) (get_or cells i d).0 ≡ []
  taken_before =
      cell_among-behind 0 (get_or cells i d).0 (take i cells) (sparse_take 0 width cells h i d lt).0
      (get_or cells i d).0
      (omega arith)

  -- With it, its polynomial stands there.
  pub taken_here : cell_among (take (i + 1) cells) (get_or cells i d).0 ≡ (get_or cells i d).1
  taken_here =
      ap (λ cs. cell_among cs (get_or cells i d).0) (take_more cells i d lt)
      ∙ cell_among-append_here 0 (get_or cells i d).0 (take i cells) (sparse_take 0 width cells h i d lt).0
      (get_or cells i d).0 (get_or cells i d).1 (omega arith)

  -- At other places stands what stood there.
  pub taken_other : (k : ℕ) → (get_or cells i d).0 ≢ k → cell_among (take (i + 1) cells) k ≡ cell_among (take i cells) k
  taken_other k ne =
      ap (λ cs. cell_among cs k) (take_more cells i d lt)
      ∙ cell_among-append_other (take i cells) (get_or cells i d).0 k (get_or cells i d).1 ne

-- ---- grids of lines

module _ (n : ℕ) (columns lines : List (List ℕ)) (f : ℕ → ℕ → Laurent) (rows : List Cells)
    (count : length rows ≡ length lines)
    (are : (i : ℕ) → i < length lines → IsLine (length columns) (f i) (get_or rows i [])) where
  spread_at : (rows : List Cells) (i : ℕ) → i < length rows →
      get_or (map (spread (length columns)) rows) i [] ≡ spread (length columns) (get_or rows i [])
  spread_at [] i lt = absurd (omega arith)
  spread_at (r ∷ rs) zero lt = refl
  spread_at (r ∷ rs) (suc i) lt = spread_at rs i (omega arith)

  row_is : (i : ℕ) → i < length lines →
      get_or (map (spread (length columns)) rows) i [] ≡ map (f i) (range_with_len 0 (length columns))
  row_is i lt = spread_at rows i (subst (λ m. i < m) (sym count) lt) ∙ (are i lt).row

  -- The grid of these lines is the one of their polynomials.
  pub lines_grid : with_cells n columns lines f (map (spread (length columns)) rows) ≡ tabulated n columns lines f
  lines_grid =
      tabulated_is n columns lines f (map (spread (length columns)) rows)
      (length-map rows (spread (length columns)) ∙ count)
      (all_places (λ row. length row ≡ length columns) (map (spread (length columns)) rows) []
      (λ i lt. ap length (row_is i (subst (λ m. i < m) (length-map rows (spread (length columns)) ∙ count) lt))
      ∙ length-map-range_with_len (f i) 0 (length columns)))
      (λ i j hi hj. ap (λ row. get_or row j []) (row_is i hi)
      ∙ get_or-map-range_with_len (f i) 0 (length columns) j j [] hj (omega arith))

  -- Each line has its cells that aren't 0, by ascending places.
  pub lines_sparse : AllByRecursion (IsSparse (length columns)) rows
  lines_sparse =
      all_places (IsSparse (length columns)) rows [] (λ i lt. (are i (subst (λ m. i < m) count lt)).sparse)

-- The transpose of a grid whose lines are the columns of another one is that other one.
pub transposed_back : (n : ℕ) (columns lines : List (List ℕ)) (f : ℕ → ℕ → Laurent) →
    transposed (tabulated n lines columns (λ column line. f line column)) ≡ tabulated n columns lines f
transposed_back n columns lines f =
    tabulated-alike n columns lines
    (λ line column. cell_of (tabulated n lines columns (λ column line. f line column)) column line) f
    (λ i j hi hj. cell_tabulated n lines columns (λ column line. f line column) j i hj hi)

-- What holds of 0 and of each cell holds of the polynomial at every place.
pub among_all : (P : Laurent → Type 0) → P [] → (cells : Cells) → AllByRecursion (λ c. P c.1) cells → (k : ℕ) →
    P (cell_among cells k)
unfolding cell_among
among_all P none [] h k = none
among_all P none ((place, p) ∷ others) (h, hs) k =
    elim (nat_eq place k) as (λ b. P (cond b p (cell_among others k))) [
      | true ↦ h
      | false ↦ among_all P none others hs k
    ]

-- A cell's place lies below the width, and its polynomial isn't 0.
pub cell_proper : (first width : ℕ) (cells : Cells) → IsSparseFrom first width cells → (i : ℕ) (d : ℕ × Laurent) →
    i < length cells → ((get_or cells i d).0 < width) × ((get_or cells i d).1 ≢ [])
cell_proper first width [] h i d lt = absurd (omega arith)
cell_proper first width ((k, p) ∷ others) (from, under, ne, hs) zero d lt = (under, ne)
cell_proper first width ((k, p) ∷ others) (from, under, ne, hs) (suc i) d lt =
    cell_proper (k + 1) width others hs i d (omega arith)

-- Among no cells stands 0.
pub nothing_among : (k : ℕ) → cell_among [] k ≡ []
unfolding cell_among
nothing_among k = refl
