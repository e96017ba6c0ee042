-- Lines by their cells that aren't 0: what stands at a place, how they grow, and what a search by halves finds.
use Rattle.std.proofs.Common.{◌≡◌, ◌≢◌, ℕ, zero, suc, ◌+◌, ◌<◌, ◌≤◌, [], ◌∷◌, ◌++◌, cond, length, get_or}
use Rattle.std.proofs.Common.{Result, Ok, Err, refl, sym, ◌∙◌, ap, ap₂, subst, inl, inr, arith}
use Rattle.std.proofs.Common.{Less, Equal, Greater}
use Rattle.std.proofs.lemmas.Bool.{eq-eqb, ne_eqb, cases_lt}
use Rattle.std.proofs.lemmas.List.FromFn.{map-range_with_len_more, get_or-map-range_with_len, length-map-range_with_len}
use Rattle.std.specs.List.Sorted.{IsSearchInRange, IsBinarySearchResult, IsNonDecreasingBy}
use Rattle.std.specs.Ordering.{nat_cmp, ordering_index}
use Rattle.std.specs.Result.{MatchResult}
use Rattle.sp_defs.specs.Laurent.{Laurent}
use Rattle.sp_lists.proofs.Comparing.{ranked, comparison_rises}
use Rattle.sp_fock_law.specs.Sparse.{Cells, IsSparseFrom, IsSparse, cell_among, spread_from, spread}

-- ---- the polynomial at a place

cell_among-here : (place column : ℕ) (p : Laurent) (others : Cells) → place ≡ column
    → cell_among ((place, p) ∷ others) column ≡ p
unfolding cell_among
cell_among-here place column p others e =
    ap (λ b. cond b p (cell_among others column)) (eq-eqb place column e)

-- what stands at another place than the first
pub cell_among-other : (place column : ℕ) (p : Laurent) (others : Cells) → place ≢ column
    → cell_among ((place, p) ∷ others) column ≡ cell_among others column
unfolding cell_among
cell_among-other place column p others ne =
    ap (λ b. cond b p (cell_among others column)) (ne_eqb place column ne)

-- Before the first place stands 0.
pub cell_among-before : (first width : ℕ) (cells : Cells) → IsSparseFrom first width cells → (column : ℕ)
    → column < first → cell_among cells column ≡ []
unfolding cell_among
cell_among-before first width [] h column lt = refl
cell_among-before first width ((place, p) ∷ others) (from, within, ne, hs) column lt =
    cell_among-other place column p others (λ e. omega arith)
    ∙ cell_among-before (place + 1) width others hs column (omega arith)

-- Behind the width stands 0.
pub cell_among-behind : (first width : ℕ) (cells : Cells) → IsSparseFrom first width cells → (column : ℕ)
    → width ≤ column → cell_among cells column ≡ []
unfolding cell_among
cell_among-behind first width [] h column le = refl
cell_among-behind first width ((place, p) ∷ others) (from, within, ne, hs) column le =
    cell_among-other place column p others (λ e. omega arith)
    ∙ cell_among-behind (place + 1) width others hs column le

-- ---- a cell that is appended

-- Cells and one more behind them are cells that aren't 0, by ascending places.
pub IsSparseFrom-append : (first width : ℕ) (cells : Cells) → IsSparseFrom first width cells
    → (place : ℕ) (p : Laurent) → first ≤ place → width ≤ place → p ≢ []
    → IsSparseFrom first (place + 1) (cells ++ (place, p) ∷ [])
IsSparseFrom-append first width [] h place p from le ne = (from, omega arith, ne, tt)
IsSparseFrom-append first width ((k, q) ∷ others) (h, within, nonzero, hs) place p from le ne =
    (h, omega arith, nonzero, IsSparseFrom-append (k + 1) width others hs place p (omega arith) le ne)

-- What lies below a width lies below a greater one.
pub IsSparseFrom-wider : (first width wider : ℕ) (cells : Cells) → width ≤ wider → IsSparseFrom first width cells
    → IsSparseFrom first wider cells
IsSparseFrom-wider first width wider [] le h = tt
IsSparseFrom-wider first width wider ((k, q) ∷ others) le (h, within, nonzero, hs) =
    (h, omega arith, nonzero, IsSparseFrom-wider (k + 1) width wider others le hs)

-- At the place of a cell that is appended stands its polynomial.
pub cell_among-append_here : (first width : ℕ) (cells : Cells) → IsSparseFrom first width cells
    → (place : ℕ) (p : Laurent) → width ≤ place → cell_among (cells ++ (place, p) ∷ []) place ≡ p
cell_among-append_here first width [] h place p le = cell_among-here place place p [] refl
cell_among-append_here first width ((k, q) ∷ others) (h, within, nonzero, hs) place p le =
    cell_among-other k place q (others ++ (place, p) ∷ []) (λ e. omega arith)
    ∙ cell_among-append_here (k + 1) width others hs place p le

-- At other places stands what stood there.
pub cell_among-append_other : (cells : Cells) (place column : ℕ) (p : Laurent) → place ≢ column
    → cell_among (cells ++ (place, p) ∷ []) column ≡ cell_among cells column
unfolding cell_among
cell_among-append_other [] place column p ne = cell_among-other place column p [] ne
cell_among-append_other ((k, q) ∷ others) place column p ne =
    ap (cond (_) q) (cell_among-append_other others place column p ne)

-- ---- the line of a width

-- Where two lists of cells have the same polynomials from a place on, so do the lines.
pub spread_from-alike : (first count : ℕ) (cells others : Cells)
    → ((column : ℕ) → first ≤ column → column < first + count → cell_among cells column ≡ cell_among others column)
    → spread_from first count cells ≡ spread_from first count others
spread_from-alike first zero cells others same = refl
spread_from-alike first (suc count) cells others same =
    ap₂ (λ p ps. p ∷ ps) (same first (omega arith) (omega arith))
    (spread_from-alike (first + 1) count cells others (λ column from lt. same column (omega arith) (omega arith)))

-- A line with one more cell at its end, which isn't 0.
pub spread-append : (width : ℕ) (cells : Cells) → IsSparse width cells → (p : Laurent)
    → spread (width + 1) (cells ++ (width, p) ∷ []) ≡ spread width cells ++ p ∷ []
spread-append width cells h p =
    map-range_with_len_more (cell_among (cells ++ (width, p) ∷ [])) 0 width width (omega arith)
    ∙ ap₂ (λ ps q. ps ++ q ∷ [])
    (spread_from-alike 0 width (cells ++ (width, p) ∷ []) cells
    (λ column from lt. cell_among-append_other cells width column p (λ e. omega arith)))
    (cell_among-append_here 0 width cells h width p (omega arith))

-- A line with one more 0 at its end.
pub spread-append_zero : (width : ℕ) (cells : Cells) → IsSparse width cells
    → spread (width + 1) cells ≡ spread width cells ++ [] ∷ []
spread-append_zero width cells h =
    map-range_with_len_more (cell_among cells) 0 width width (omega arith)
    ∙ ap (λ q. spread width cells ++ q ∷ []) (cell_among-behind 0 width cells h width (omega arith))

-- A line whose first cell isn't 0.
pub spread_from-here : (place width count : ℕ) (p : Laurent) (others : Cells) → IsSparseFrom (place + 1) width others
    → spread_from place (suc count) ((place, p) ∷ others) ≡ p ∷ spread_from (place + 1) count others
spread_from-here place width count p others h =
    ap₂ (λ q ps. q ∷ ps) (cell_among-here place place p others refl)
    (spread_from-alike (place + 1) count ((place, p) ∷ others) others
    (λ column from lt. cell_among-other place column p others (λ e. omega arith)))

-- A line whose first cell is 0.
pub spread_from-gap : (place width count : ℕ) (cells : Cells) → IsSparseFrom (place + 1) width cells
    → spread_from place (suc count) cells ≡ [] ∷ spread_from (place + 1) count cells
spread_from-gap place width count cells h =
    ap (λ q. q ∷ spread_from (place + 1) count cells)
    (cell_among-before (place + 1) width cells h place (omega arith))

-- The cells of a line are what its list has at their places.
pub spread-at : (width : ℕ) (cells : Cells) (column : ℕ) → column < width
    → get_or (spread width cells) column [] ≡ cell_among cells column
spread-at width cells column lt =
    get_or-map-range_with_len (cell_among cells) 0 width column column [] lt (omega arith)

-- A line has as many cells as its width says.
pub length-spread : (width : ℕ) (cells : Cells) → length (spread width cells) ≡ width
length-spread width cells = length-map-range_with_len (cell_among cells) 0 width

-- ---- search by halves

place_from : (first width : ℕ) (cells : Cells) → IsSparseFrom first width cells → (i : ℕ) (d : ℕ × Laurent)
    → i < length cells → first ≤ (get_or cells i d).0
place_from first width [] h i d lt = absurd (omega arith)
place_from first width ((k, p) ∷ others) h zero d lt = h.0
place_from first width ((k, p) ∷ others) (h, within, nonzero, hs) (suc i) d lt =
    omega (arith, place_from (k + 1) width others hs i d (omega arith))

places_rise : (first width : ℕ) (cells : Cells) → IsSparseFrom first width cells → (i j : ℕ) (d : ℕ × Laurent)
    → i < j → j < length cells → (get_or cells i d).0 < (get_or cells j d).0
places_rise first width [] h i j d lt within = absurd (omega arith)
places_rise first width (c ∷ cells) h zero zero d lt within = absurd (omega arith)
places_rise first width (c ∷ cells) h (suc i) zero d lt within = absurd (omega arith)
places_rise first width ((k, p) ∷ cells) (h, below, nonzero, hs) zero (suc j) d lt within =
    omega (arith, place_from (k + 1) width cells hs j d (omega arith))
places_rise first width ((k, p) ∷ cells) (h, below, nonzero, hs) (suc i) (suc j) d lt within =
    places_rise (k + 1) width cells hs i j d (omega arith) (omega arith)

cell_among-at : (first width : ℕ) (cells : Cells) → IsSparseFrom first width cells → (i : ℕ) (d : ℕ × Laurent)
    → i < length cells → cell_among cells (get_or cells i d).0 ≡ (get_or cells i d).1
cell_among-at first width [] h i d lt = absurd (omega arith)
cell_among-at first width ((k, p) ∷ others) h zero d lt = cell_among-here k k p others refl
cell_among-at first width ((k, p) ∷ others) (h, within, nonzero, hs) (suc i) d lt =
    cell_among-other k (get_or others i d).0 p others
    (λ e. omega (arith, e, place_from (k + 1) width others hs i d (omega arith)))
    ∙ cell_among-at (k + 1) width others hs i d (omega arith)

cell_among-absent : (cells : Cells) (column : ℕ) (d : ℕ × Laurent)
    → ((i : ℕ) → i < length cells → (get_or cells i d).0 ≢ column) → cell_among cells column ≡ []
unfolding cell_among
cell_among-absent [] column d none = refl
cell_among-absent ((k, p) ∷ others) column d none =
    cell_among-other k column p others (none zero (omega arith))
    ∙ cell_among-absent others column d (λ i lt. none (suc i) (omega arith))

comparisons_rise : (width : ℕ) (cells : Cells) → IsSparse width cells → (column : ℕ)
    → IsNonDecreasingBy (λ c. ordering_index (nat_cmp c.0 column)) cells
comparisons_rise width cells h column i k d le in_range = elim (cases_lt i k) [
  | inl lt ↦ comparison_rises (get_or cells i d).0 (get_or cells k d).0 column
      (omega (arith, places_rise 0 width cells h i k d lt in_range))
  | inr ge ↦ subst (λ n. ordering_index (nat_cmp (get_or cells i d).0 column) ≤ ordering_index
      (nat_cmp (get_or cells n d).0 column)) {x = i} (omega arith) (omega arith)
]

-- A search by halves finds the polynomial at a place, or that 0 stands there.
pub searched : (width : ℕ) (cells : Cells) → IsSparse width cells → (column : ℕ) (r : Result ℕ ℕ)
    → IsSearchInRange r (length cells) → IsBinarySearchResult (λ c. nat_cmp c.0 column) cells r
    → MatchResult r (λ i. (d : ℕ × Laurent) → cell_among cells column ≡ (get_or cells i d).1)
    (λ _. cell_among cells column ≡ [])
searched width cells h column (Ok i) in_range equal = λ d.
    sym (ap (cell_among cells) (ranked (get_or cells i d).0 column Equal (equal d)))
    ∙ cell_among-at 0 width cells h i d in_range
searched width cells h column (Err i) in_range parted = cell_among-absent cells column (0, []) (λ k lt e.
    elim (cases_lt k i) [
      | inl before ↦ omega (
        arith,
        ranked (get_or cells k (0, [])).0 column Less
            ((parted (comparisons_rise width cells h column)).0 k (0, []) (omega arith) before),
      )
      | inr after ↦ omega (
        arith,
        ranked (get_or cells k (0, [])).0 column Greater
            ((parted (comparisons_rise width cells h column)).1 k (0, []) after lt),
      )
    ])
