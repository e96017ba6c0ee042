-- Grids by the polynomials at their places: their cells, and when two of them are equal.
use Rattle.std.proofs.Common.{◌≡◌, ℕ, ◌<◌, List, [], map, length, get_or, refl, ◌∙◌, ap, arith}
use Rattle.std.proofs.lemmas.List.FromFn.{fill_by_all, get_or-map-range_with_len, length-map-range_with_len}
use Rattle.std.specs.List.{AllByRecursion, range_with_len}
use Rattle.sp_defs.specs.Laurent.{Laurent}
use Rattle.sp_lists.proofs.Elements.{all_map, all_every}
use Rattle.sp_lists.proofs.Maps.{map-alike}
use Rattle.sp_lists.proofs.Places.{all_at}
use Rattle.sp_fock_law.specs.Grid.{GridValue, IsHeading, IsGrid, row_of, cell_of}
use Rattle.sp_grid_law.specs.Tables.{tabulated}
use Rattle.sp_grid_law.proofs.Sums.{all_range}

-- A list of images of a range that agree.
pub range-alike : {X : Type 0} (n : ℕ) (f g : ℕ → X) → ((k : ℕ) → k < n → f k ≡ g k) →
    map f (range_with_len 0 n) ≡ map g (range_with_len 0 n)
range-alike n f g h =
    map-alike f g (range_with_len 0 n) (all_range (λ k. f k ≡ g k) 0 n (λ k from lt. h k (omega arith)))

module _ (n : ℕ) (columns lines : List (List ℕ)) (f : ℕ → ℕ → Laurent) where
  -- The grid with these rows of cells.
  abbrev pub with_cells : List (List Laurent) → GridValue
  with_cells cells = record { degree = n; columns = columns; lines = lines; cells = cells }

  -- A line of such a grid.
  pub row_tabulated : (i : ℕ) → i < length lines →
      row_of (tabulated n columns lines f) i ≡ map (f i) (range_with_len 0 (length columns))
  row_tabulated i lt =
      get_or-map-range_with_len (λ line. map (f line) (range_with_len 0 (length columns))) 0 (length lines) i i [] lt
      (omega arith)

  -- A cell of such a grid.
  pub cell_tabulated : (i j : ℕ) → i < length lines → j < length columns →
      cell_of (tabulated n columns lines f) i j ≡ f i j
  cell_tabulated i j hi hj =
      ap (λ row. get_or row j []) (row_tabulated i hi)
      ∙ get_or-map-range_with_len (f i) 0 (length columns) j j [] hj (omega arith)

  -- Where the lines and the columns are partitions of n, descending, it is a grid.
  pub tabulated_grid : IsHeading n columns → IsHeading n lines → IsGrid (tabulated n columns lines f)
  tabulated_grid hc hl = record {
    columns = hc;
    lines = hl;
    height = length-map-range_with_len (λ line. map (f line) (range_with_len 0 (length columns))) 0 (length lines);
    width =
        all_map (λ row. length row ≡ length columns) (λ line. map (f line) (range_with_len 0 (length columns)))
        (range_with_len 0 (length lines))
        (all_every (λ line. length (map (f line) (range_with_len 0 (length columns))) ≡ length columns)
        (range_with_len 0 (length lines)) (λ line. length-map-range_with_len (f line) 0 (length columns)));
  }

  -- With the same polynomials it is the same grid.
  pub tabulated-alike : (g : ℕ → ℕ → Laurent) → ((i j : ℕ) → i < length lines → j < length columns → f i j ≡ g i j) →
      tabulated n columns lines f ≡ tabulated n columns lines g
  tabulated-alike g same =
      ap (λ cells. with_cells cells)
      (range-alike (length lines) (λ i. map (f i) (range_with_len 0 (length columns)))
      (λ i. map (g i) (range_with_len 0 (length columns)))
      (λ i hi. range-alike (length columns) (f i) (g i) (λ j hj. same i j hi hj)))

  -- A grid with these lines and columns and these polynomials is this one.
  pub tabulated_is : (rows : List (List Laurent)) → length rows ≡ length lines →
      AllByRecursion (λ row. length row ≡ length columns) rows →
      ((i j : ℕ) → i < length lines → j < length columns → get_or (get_or rows i []) j [] ≡ f i j) →
      with_cells rows ≡ tabulated n columns lines f
  tabulated_is rows height width same =
      ap (λ cells. with_cells cells)
      (fill_by_all (λ i. map (f i) (range_with_len 0 (length columns))) rows (length lines) [] height
      (λ i hi. fill_by_all (f i) (get_or rows i []) (length columns) []
      (all_at (λ row. length row ≡ length columns) rows i [] width (omega arith)) (λ j hj. same i j hi hj)))

-- A grid by its own cells.
pub grid_is : (g : GridValue) → IsGrid g → g ≡ tabulated g.degree g.columns g.lines (cell_of g)
grid_is g h = tabulated_is g.degree g.columns g.lines (cell_of g) g.cells h.height h.width (λ i j hi hj. refl)
