-- Lines of a grid as they are kept: how they grow, and the grid of them.
use Rattle.std.proofs.Common.{◌≡◌, ◌≢◌, ℕ, zero, suc, ◌+◌, ◌<◌, ◌≤◌, List, [], ◌∷◌, ◌++◌, length}
use Rattle.std.proofs.Common.{take, get_or, slice_set, refl, sym, ◌∙◌, ap, ap₂, subst, arith}
use Rattle.std.proofs.Common.{◌⊎◌, inl, inr, eq-or-lt_of_le}
use Rattle.std.proofs.lemmas.List.{append-nil, map-append, map-set, length-append, length-map}
use Rattle.std.proofs.lemmas.List.{get_or_append_left, get_or-set_same, get_or-set_other}
use Rattle.std.proofs.lemmas.List.FromFn.{fill_by_all}
use mathlib.Core.List.{map-map}
use Rattle.std.specs.Global.{Vec}
use Rattle.std.specs.List.{AllByRecursion}
use Rattle.sp_defs.specs.Laurent.{Laurent}
use Rattle.sp_lists.proofs.Elements.{le_or_lt}
use Rattle.sp_fock_law.specs.Grid.{GridValue, IsHeading, IsGrid, cell_of, row_of}
use Rattle.sp_fock_law.specs.Sparse.{Cells, IsSparse, cell_among, spread}
use Rattle.sp_fock.specs.Cells.{AreSparse, sparse_grid}
use Rattle.sp_fock.specs.Rows.{cells_at}
use Rattle.sp_grid_law.specs.Lines.{IsLine, factor_at}
use Rattle.sp_grid_law.specs.Tables.{tabulated}
use Rattle.sp_grid_law.proofs.Lines.{cell_proper, line_more, line_zero, lines_grid, lines_sparse, taken_before}
use Rattle.sp_grid_law.proofs.Lines.{among_is, taken_here, taken_other}
use Rattle.sp_grid_law.proofs.Tabulated.{tabulated_grid, with_cells}
use Rattle.sp_inverse.specs.Lines.{line_at, lines_of}
use Rattle.sp_inverse.specs.Turned.{AreColumns}

-- The cells of a row that aren't 0 are a line of its polynomials.
pub row_line : (row : List Laurent) (cells : Cells) → spread (length row) cells ≡ row → IsSparse (length row) cells →
    IsLine (length row) (factor_at row) cells
row_line row cells value sparse = record {
  sparse = sparse;
  row = value ∙ fill_by_all (factor_at row) row (length row) [] refl (λ k lt. refl);
}

-- A line with its next cell.
pub line_next : (width : ℕ) (f : ℕ → Laurent) (cells : Cells) → IsLine width f cells → (p : Laurent) → p ≡ f width →
    IsLine (width + 1) f (cells ++ cells_at width p)
line_next width f cells h [] e =
    subst (IsLine (width + 1) f) (sym (append-nil cells)) (line_zero width f cells h (sym e))
line_next width f cells h (t ∷ ts) e = line_more width f cells h (t ∷ ts) e (λ z. cc)

-- ---- one line more

get_or-behind : (xs : List Cells) (y d : Cells) → get_or (xs ++ y ∷ []) (length xs) d ≡ y
get_or-behind [] y d = refl
get_or-behind (x ∷ xs) y d = get_or-behind xs y d

module _ (rows : List (Vec (ℕ × Laurent))) (row : Vec (ℕ × Laurent)) where
  appended : lines_of (rows ++ row ∷ []) ≡ lines_of rows ++ row.items ∷ []
  appended = map-append (λ (r : Vec (ℕ × Laurent)). r.items) rows (row ∷ [])

  count : length (lines_of rows) ≡ length rows
  count = length-map rows (λ (r : Vec (ℕ × Laurent)). r.items)

  line_before : (k : ℕ) → k < length rows → line_at (rows ++ row ∷ []) k ≡ line_at rows k
  line_before k lt =
      ap (λ xs. get_or xs k []) appended
      ∙ get_or_append_left (lines_of rows) (row.items ∷ []) [] k (subst (λ n. k < n) (sym count) lt)

  line_last : line_at (rows ++ row ∷ []) (length rows) ≡ row.items
  line_last =
      ap (λ xs. get_or xs (length rows) []) appended
      ∙ ap (λ n. get_or (lines_of rows ++ row.items ∷ []) n []) (sym count)
      ∙ get_or-behind (lines_of rows) row.items []

  -- Columns and one more.
  pub columns_more : (width height : ℕ) (cell : ℕ → ℕ → Laurent) → AreColumns width height cell rows →
      IsLine height (λ line. cell line width) row.items → AreColumns (width + 1) height cell (rows ++ row ∷ [])
  columns_more width height cell h next = record {
    count = length-append rows (row ∷ []) ∙ ap (λ n. n + 1) h.count;
    lines = λ column lt. settle column lt (le_or_lt width column);
  }
    where
      settle : (column : ℕ) → column < width + 1 → (width ≤ column) ⊎ (column < width) →
          IsLine height (λ line. cell line column) (line_at (rows ++ row ∷ []) column)
      settle column lt (inl le) =
          subst (λ k. IsLine height (λ line. cell line k) (line_at (rows ++ row ∷ []) k)) {x = width} {y = column}
          (omega arith)
          (subst (IsLine height (λ line. cell line width))
          (sym (ap (line_at (rows ++ row ∷ [])) (sym h.count) ∙ line_last)) next)
      settle column lt (inr before) =
          subst (IsLine height (λ line. cell line column))
          (sym (line_before column (subst (λ n. column < n) (sym h.count) before))) (h.lines column before)

-- ---- a line that is changed

module _ (rows : List (Vec (ℕ × Laurent))) (i : ℕ) (row : Vec (ℕ × Laurent)) where
  changed : lines_of (slice_set rows i row) ≡ slice_set (lines_of rows) i row.items
  changed = map-set (λ (r : Vec (ℕ × Laurent)). r.items) rows i row

  -- The line itself.
  pub set_here : i < length rows → line_at (slice_set rows i row) i ≡ row.items
  set_here lt =
      ap (λ xs. get_or xs i []) changed
      ∙ get_or-set_same (lines_of rows) i row.items []
      (subst (λ n. i < n) (sym (length-map rows (λ (r : Vec (ℕ × Laurent)). r.items))) lt)

  -- The other lines stay.
  pub set_other : (k : ℕ) → k ≢ i → line_at (slice_set rows i row) k ≡ line_at rows k
  set_other k ne = ap (λ xs. get_or xs k []) changed ∙ get_or-set_other (lines_of rows) i k row.items [] ne

-- The cells of a line as the list of lines has it.
pub line_of : (rows : List (Vec (ℕ × Laurent))) (i : ℕ) (d : Vec (ℕ × Laurent)) → i < length rows →
    line_at rows i ≡ (get_or rows i d).items
line_of [] i d lt = absurd (omega arith)
line_of (r ∷ rs) zero d lt = refl
line_of (r ∷ rs) (suc i) d lt = line_of rs i d (omega arith)

-- ---- the grid of the lines

all_rows : (P : Cells → Type 0) (rows : List (Vec (ℕ × Laurent))) → AllByRecursion P (lines_of rows) →
    AllByRecursion (λ row. P row.items) rows
all_rows P [] h = tt
all_rows P (r ∷ rs) (h, hs) = (h, all_rows P rs hs)

module _ (n : ℕ) (columns lines : List (List ℕ)) (cell : ℕ → ℕ → Laurent) (rows : List (Vec (ℕ × Laurent)))
    (h : AreColumns (length lines) (length columns) (λ column line. cell line column) rows) where
  many : length (lines_of rows) ≡ length lines
  many = length-map rows (λ (r : Vec (ℕ × Laurent)). r.items) ∙ h.count

  -- It has these polynomials.
  pub rows_grid : sparse_grid n columns lines rows ≡ tabulated n columns lines cell
  rows_grid =
      ap (with_cells n columns lines cell)
      (sym (map-map (spread (length columns)) (λ (r : Vec (ℕ × Laurent)). r.items) rows))
      ∙ lines_grid n columns lines cell (lines_of rows) many h.lines

  -- Its lines have their cells that aren't 0, by ascending places.
  pub rows_sparse : AreSparse (length columns) rows
  rows_sparse =
      all_rows (IsSparse (length columns)) rows (lines_sparse n columns lines cell (lines_of rows) many h.lines)

  -- It is a grid.
  pub rows_are_grid : IsHeading n columns → IsHeading n lines → IsGrid (sparse_grid n columns lines rows)
  rows_are_grid hc hl = subst IsGrid (sym rows_grid) (tabulated_grid n columns lines cell hc hl)

-- ---- a column that is added cell by cell

nonzero_at : (width : ℕ) (p : Laurent) → p ≢ [] → cells_at width p ≡ (width, p) ∷ []
nonzero_at width [] ne = absurd (ne refl)
nonzero_at width (t ∷ ts) ne = refl

module _ (rows old : List (Vec (ℕ × Laurent))) (column : ℕ) (cells : Cells) (sparse : IsSparse (length old) cells)
    (i : ℕ) (c : ℕ × Laurent) (lt : i < length cells) (here : c ≡ get_or cells i c)
    (many : length rows ≡ length old) where
  place_is : c.0 ≡ (get_or cells i c).0
  place_is = ap (λ (x : ℕ × Laurent). x.0) here

  -- The place of the next cell is that of a line.
  pub next_place : c.0 < length rows
  next_place = omega (arith, place_is, many, (cell_proper 0 (length old) cells sparse i c lt).0)

  module _ (so_far : (k : ℕ) → line_at rows k ≡ line_at old k ++ cells_at column (cell_among (take i cells) k))
      (before after : Vec (ℕ × Laurent)) (is : before ≡ get_or rows c.0 before) (p : Laurent) (copied : p ≡ c.1)
      (grown : after.items ≡ before.items ++ (column, p) ∷ []) where
    whole : p ≡ (get_or cells i c).1
    whole = copied ∙ ap (λ (x : ℕ × Laurent). x.1) here

    nonzero : p ≢ []
    nonzero e = (cell_proper 0 (length old) cells sparse i c lt).1 (sym whole ∙ e)

    old_line : before.items ≡ line_at old c.0
    old_line =
        ap (λ (r : Vec (ℕ × Laurent)). r.items) is
        ∙ sym (line_of rows c.0 before next_place)
        ∙ so_far c.0
        ∙ ap (λ q. line_at old c.0 ++ cells_at column q)
        (ap (cell_among (take i cells)) place_is ∙ taken_before (length old) cells sparse i c lt)
        ∙ append-nil (line_at old c.0)

    added_here : line_at (slice_set rows c.0 after) c.0
        ≡ line_at old c.0 ++ cells_at column (cell_among (take (i + 1) cells) c.0)
    added_here =
        set_here rows c.0 after next_place
        ∙ grown
        ∙ ap₂ (λ xs ys. xs ++ ys) old_line (sym (nonzero_at column p nonzero))
        ∙ ap (λ q. line_at old c.0 ++ cells_at column q)
        (whole
        ∙ sym (ap (cell_among (take (i + 1) cells)) place_is ∙ taken_here (length old) cells sparse i c lt))

    added_other : (k : ℕ) → k ≢ c.0 →
        line_at (slice_set rows c.0 after) k ≡ line_at old k ++ cells_at column (cell_among (take (i + 1) cells) k)
    added_other k ne =
        set_other rows c.0 after k ne
        ∙ so_far k
        ∙ ap (λ q. line_at old k ++ cells_at column q)
        (sym (taken_other (length old) cells sparse i c lt k (λ e. ne (sym e ∙ sym place_is))))

    -- With the next cell at the end of its line, each line has one cell more of the column.
    pub added : (k : ℕ) →
        line_at (slice_set rows c.0 after) k ≡ line_at old k ++ cells_at column (cell_among (take (i + 1) cells) k)
    added k = settle (le_or_lt k c.0)
      where
        same : k ≡ c.0 → line_at (slice_set rows c.0 after) k
            ≡ line_at old k ++ cells_at column (cell_among (take (i + 1) cells) k)
        same e =
            subst (λ n. line_at (slice_set rows c.0 after) n
            ≡ line_at old n ++ cells_at column (cell_among (take (i + 1) cells) n)) (sym e) added_here

        settle : (k ≤ c.0) ⊎ (c.0 < k) → line_at (slice_set rows c.0 after) k
            ≡ line_at old k ++ cells_at column (cell_among (take (i + 1) cells) k)
        settle (inl le) = closer (eq-or-lt_of_le le)
          where
            closer : (k ≡ c.0) ⊎ (k < c.0) → line_at (slice_set rows c.0 after) k
                ≡ line_at old k ++ cells_at column (cell_among (take (i + 1) cells) k)
            closer (inl e) = same e
            closer (inr less) = added_other k (λ e. omega (arith, e, less))
        settle (inr more) = added_other k (λ e. omega (arith, e, more))

-- With the cells of one line more, columns go on.
pub column_added : (g : GridValue) (line : ℕ) (cells : Cells) → IsSparse (length g.columns) cells →
    spread (length g.columns) cells ≡ row_of g line → (rows : List (Vec (ℕ × Laurent))) →
    AreColumns (length g.columns) line (cell_of g) rows → (after : List (Vec (ℕ × Laurent))) →
    length after ≡ length rows →
    ((k : ℕ) → line_at after k ≡ line_at rows k ++ cells_at line (cell_among cells k)) →
    AreColumns (length g.columns) (line + 1) (cell_of g) after
column_added g line cells sparse row rows h after same grown = record {
  count = same ∙ h.count;
  lines = λ k lt. subst (IsLine (line + 1) (λ i. cell_of g i k)) (sym (grown k))
      (line_next line (λ i. cell_of g i k) (line_at rows k) (h.lines k lt) (cell_among cells k)
      (among_is g line cells sparse row k lt));
}

-- ---- the grid that is made of columns

module _ (n m : ℕ) (columns lines xs ys : List (List ℕ)) (cell : ℕ → ℕ → Laurent)
    (rows : List (Vec (ℕ × Laurent))) (degree : m ≡ n) (first : xs ≡ columns) (second : ys ≡ lines)
    (h : AreColumns (length lines) (length columns) (λ column line. cell line column) rows) where
  -- It has these polynomials.
  pub kept_is : sparse_grid m xs ys rows ≡ tabulated n columns lines cell
  kept_is =
      ap (λ k. sparse_grid k xs ys rows) degree
      ∙ ap (λ cs. sparse_grid n cs ys rows) first
      ∙ ap (λ ls. sparse_grid n columns ls rows) second
      ∙ rows_grid n columns lines cell rows h

  -- Its lines have their cells that aren't 0, by ascending places.
  pub kept_sparse : AreSparse (length xs) rows
  kept_sparse =
      subst (λ (cs : List (List ℕ)). AreSparse (length cs) rows) (sym first)
      (rows_sparse n columns lines cell rows h)

  -- It is a grid.
  pub kept_grid : IsHeading n columns → IsHeading n lines → IsGrid (sparse_grid m xs ys rows)
  kept_grid hc hl = subst IsGrid (sym kept_is) (tabulated_grid n columns lines cell hc hl)
