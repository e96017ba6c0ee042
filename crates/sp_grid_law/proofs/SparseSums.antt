-- Sums over the cells of a line that aren't 0 are sums over all its places.
use Rattle.std.proofs.Common.{◌≡◌, ℕ, suc, ◌+◌, ◌-◌, ◌<◌, ◌≤◌, cond}
use Rattle.std.proofs.Common.{List, [], ◌∷◌, ◌++◌, refl, sym, ◌∙◌, ap, ap₂, arith}
use Rattle.std.proofs.Common.{sum_by, eq-eqb, subst, zero-add}
use Rattle.std.proofs.lemmas.List.Sums.{sum_by-append, sum_by-cons}
use Rattle.std.specs.List.{AllByRecursion, range_with_len}
use Rattle.sp_lists.proofs.Elements.{range_add}
use Rattle.sp_defs.specs.Laurent.{Laurent, plus, sum_over}
use Rattle.sp_lists.proofs.Sums.{sum-alike, sum-zeros}
use Rattle.sp_fock_law.specs.Sparse.{Cells, IsSparseFrom, cell_among}
use Rattle.sp_fock_law.proofs.Sparse.{cell_among-before, cell_among-other}
use Rattle.sp_algebra.proofs.Laws.{nought_plus}
use Rattle.sp_algebra.proofs.Sums.{IsLaurent-sum_over, sum_over-append}
use Rattle.sp_grid_law.proofs.Sums.{all_range, sum_over-none, sum_over-range}

-- ---- the polynomial at a place

among-here : (place : ℕ) (p : Laurent) (others : Cells) → cell_among ((place, p) ∷ others) place ≡ p
unfolding cell_among
among-here place p others = ap (λ b. cond b p (cell_among others place)) (eq-eqb place place refl)

among-none : (column : ℕ) → cell_among [] column ≡ []
unfolding cell_among
among-none column = refl

-- What holds of the polynomial at each place holds of each cell.
pub all_cells : (P : Laurent → Type 0) (first width : ℕ) (cells : Cells) → IsSparseFrom first width cells
    → ((k : ℕ) → first ≤ k → k < width → P (cell_among cells k)) → AllByRecursion (λ c. P c.1) cells
all_cells P first width [] s h = tt
all_cells P first width ((place, p) ∷ others) (from, under, ne, s) h = (
  subst P (among-here place p others) (h place from under),
  all_cells P (place + 1) width others s
      (λ k above below. subst P (cell_among-other place k p others (λ e. omega (arith, e, above)))
      (h k (omega arith) below)),
)

-- ---- sums

-- the places from the first on: those before the first cell, its place, and those behind it
parts : (first place width : ℕ) → first ≤ place → place < width
    → range_with_len first (width - first)
    ≡ range_with_len first (place - first) ++ (place ∷ range_with_len (place + 1) (width - (place + 1)))
parts first place width from under =
    ap (range_with_len first) {x = width - first} {y = place - first + suc (width - (place + 1))} (omega arith)
    ∙ range_add first (place - first) (suc (width - (place + 1)))
    ∙ ap (λ k. range_with_len first (place - first) ++ range_with_len k (suc (width - (place + 1))))
    {x = first + (place - first)} {y = place} (omega arith)

module _ (f : ℕ → Laurent → Laurent) (nothing : (k : ℕ) → f k [] ≡ []) where
  -- A sum of polynomials over the cells is the sum over the places, where 0 gives 0.
  pub sum_over-cells : (first width : ℕ) (cells : Cells) → IsSparseFrom first width cells
      → sum_over cells (λ c. f c.0 c.1)
      ≡ sum_over (range_with_len first (width - first)) (λ k. f k (cell_among cells k))
  unfolding sum_over
  sum_over-cells first width [] s =
      sym (sum_over-none first (width - first) (λ k. f k (cell_among [] k))
      (λ k from under. ap (f k) (among-none k) ∙ nothing k))
  sum_over-cells first width ((place, p) ∷ others) (from, under, ne, s) =
      ap₂ plus (sym (ap (f place) (among-here place p others)))
      (sum_over-cells (place + 1) width others s
      ∙ sum_over-range (place + 1) (width - (place + 1)) (λ k. f k (cell_among others k)) whole
      (λ k above below. ap (f k) (sym (cell_among-other place k p others (λ e. omega (arith, e, above))))))
      ∙ sym (nought_plus (sum_over behind whole) (IsLaurent-sum_over behind whole))
      ∙ sym (ap (λ q. plus q (sum_over behind whole))
      (sum_over-none first (place - first) whole
      (λ k above below. ap (f k) (cell_among-other place k p others (λ e. omega (arith, e, above, below))
      ∙ cell_among-before (place + 1) width others s k (omega arith)) ∙ nothing k)))
      ∙ sym (sum_over-append (range_with_len first (place - first)) behind whole)
      ∙ sym (ap (λ r. sum_over r whole) (parts first place width from under))
    where
      whole : ℕ → Laurent
      whole k = f k (cell_among ((place, p) ∷ others) k)

      behind : List ℕ
      behind = place ∷ range_with_len (place + 1) (width - (place + 1))

-- Numbers that are the same on a range have the same sum.
pub sum_by-range : (a n : ℕ) (f g : ℕ → ℕ) → ((k : ℕ) → a ≤ k → k < a + n → f k ≡ g k)
    → sum_by f (range_with_len a n) ≡ sum_by g (range_with_len a n)
sum_by-range a n f g h = sum-alike f g (range_with_len a n) (all_range (λ k. f k ≡ g k) a n h)

-- A sum over a range on which all are 0.
pub sum_by-none : (a n : ℕ) (f : ℕ → ℕ) → ((k : ℕ) → a ≤ k → k < a + n → f k ≡ 0) → sum_by f (range_with_len a n) ≡ 0
sum_by-none a n f h = sum_by-range a n f (λ _. 0) h ∙ sum-zeros (range_with_len a n)

module _ (f : ℕ → Laurent → ℕ) (nothing : (k : ℕ) → f k [] ≡ 0) where
  -- A sum of numbers over the cells is the sum over the places, where 0 gives 0.
  pub sum_by-cells : (first width : ℕ) (cells : Cells) → IsSparseFrom first width cells
      → sum_by (λ c. f c.0 c.1) cells ≡ sum_by (λ k. f k (cell_among cells k)) (range_with_len first (width - first))
  sum_by-cells first width [] s =
      sym (sum_by-none first (width - first) (λ k. f k (cell_among [] k))
      (λ k from under. ap (f k) (among-none k) ∙ nothing k))
  sum_by-cells first width ((place, p) ∷ others) (from, under, ne, s) =
      sum_by-cons (λ c. f c.0 c.1) (place, p) others
      ∙ ap₂ (λ m n. m + n) (sym (ap (f place) (among-here place p others)))
      (sum_by-cells (place + 1) width others s
      ∙ sum_by-range (place + 1) (width - (place + 1)) (λ k. f k (cell_among others k)) whole
      (λ k above below. ap (f k) (sym (cell_among-other place k p others (λ e. omega (arith, e, above))))))
      ∙ sym (sum_by-cons whole place (range_with_len (place + 1) (width - (place + 1))))
      ∙ sym (zero-add (sum_by whole behind))
      ∙ sym (ap (λ n. n + sum_by whole behind)
      (sum_by-none first (place - first) whole
      (λ k above below. ap (f k) (cell_among-other place k p others (λ e. omega (arith, e, above, below))
      ∙ cell_among-before (place + 1) width others s k (omega arith)) ∙ nothing k)))
      ∙ sym (sum_by-append whole (range_with_len first (place - first)) behind)
      ∙ sym (ap (sum_by whole) (parts first place width from under))
    where
      whole : ℕ → ℕ
      whole k = f k (cell_among ((place, p) ∷ others) k)

      behind : List ℕ
      behind = place ∷ range_with_len (place + 1) (width - (place + 1))
