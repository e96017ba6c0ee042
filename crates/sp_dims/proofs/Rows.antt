-- The sums over the cells of a grid along one line.
use Rattle.std.proofs.Common.{◌≡◌, ℕ, ◌+◌, ◌*◌, ◌<◌, List, [], ◌∷◌, map, length, refl, sym, ◌∙◌, ap, ap₂, sum_by, arith}
use Rattle.std.proofs.Common.{ℤ, pos, ◌+ℤ◌, ◌-ℤ◌, ◌*ℤ◌}
use Rattle.std.specs.Int.RustNames.{unsigned_abs}
use Rattle.std.specs.List.{zip}
use Rattle.sp_defs.specs.Laurent.{int_sum, value_at_one, slope_at_one}
use Rattle.sp_lists.proofs.Counts.{sum-map}
use Rattle.sp_lists.proofs.Places.{all_at}
use Rattle.sp_fock_law.specs.Grid.{GridValue, IsGrid, row_of}
use Rattle.sp_module_defs.specs.Agreement.{Cells}
use Rattle.sp_module_defs.specs.Cells.{place, cell_at}
use Rattle.sp_module_defs.specs.Dims.{Dims, composed_dim, specht_dim}
use Rattle.sp_module_defs.proofs.Places.{row_cells}
use Rattle.sp_dims.specs.Equation.{products_of, products_weight, next_dim, known_weight}

-- A row has one cell for each column.
pub row_width : (g : GridValue) (line : ℕ) → IsGrid g → line < length g.lines →
    length (row_of g line) ≡ length g.columns
row_width g line h lt =
    all_at (λ row. length row ≡ length g.columns) g.cells line [] h.width (omega (arith, h.height))

products-zip : (d : Cells) (lambda : List ℕ) (cs : List (List ℕ)) (xs : List ℤ) →
    products_of (map (d lambda) cs) xs ≡ map (λ t. (value_at_one (d lambda t.0), t.1)) (zip cs xs)
unfolding products_of
products-zip d lambda [] xs = refl
products-zip d lambda (c ∷ cs) [] = refl
products-zip d lambda (c ∷ cs) (x ∷ xs) =
    ap (λ ts. (value_at_one (d lambda c), x) ∷ ts) (products-zip d lambda cs xs)

slope-map : (d : Cells) (lambda : List ℕ) (ts : Dims) →
    slope_at_one (map (λ t. (value_at_one (d lambda t.0), t.1)) ts) ≡ composed_dim d ts lambda
unfolding composed_dim int_sum
slope-map d lambda [] = refl
slope-map d lambda ((mu, x) ∷ ts) = ap₂ (λ a b. a *ℤ x +ℤ b) refl (slope-map d lambda ts)

-- What the row of a line leaves of its Specht dimension is the dimension at its column.
pub next_by_row : (g : GridValue) (lambda : List ℕ) (xs : List ℤ) → IsGrid g →
    place g.lines lambda < length g.lines →
    pos (specht_dim lambda) -ℤ slope_at_one (products_of (row_of g (place g.lines lambda)) xs) ≡
    next_dim (cell_at g) (zip g.columns xs) lambda
unfolding next_dim
next_by_row g lambda xs h lt =
    ap (λ s. pos (specht_dim lambda) -ℤ s)
    (ap (λ row. slope_at_one (products_of row xs)) (sym (row_cells g lambda h lt))
    ∙ ap slope_at_one (products-zip (cell_at g) lambda g.columns xs)
    ∙ slope-map (cell_at g) lambda (zip g.columns xs))

-- The weight by the row of a line is the weight at its column.
pub weight_by_row : (g : GridValue) (lambda : List ℕ) (xs : List ℤ) → IsGrid g →
    place g.lines lambda < length g.lines →
    specht_dim lambda + products_weight (row_of g (place g.lines lambda)) xs ≡
    known_weight (cell_at g) (zip g.columns xs) lambda
unfolding known_weight products_weight
weight_by_row g lambda xs h lt =
    ap (λ s. specht_dim lambda + s)
    (ap (λ row. sum_by (λ t. unsigned_abs t.0 * unsigned_abs t.1) (products_of row xs)) (sym (row_cells g lambda h lt))
    ∙ ap (sum_by (λ t. unsigned_abs t.0 * unsigned_abs t.1)) (products-zip (cell_at g) lambda g.columns xs)
    ∙ sum-map (λ t. unsigned_abs t.0 * unsigned_abs t.1) (λ t. (value_at_one (cell_at g lambda t.0), t.1))
    (zip g.columns xs))
