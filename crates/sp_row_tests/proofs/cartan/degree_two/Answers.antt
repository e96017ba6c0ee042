use Rattle.std.proofs.Common.{◌≡◌, ℕ, List, [], ◌∷◌, refl, sym, ◌∙◌, ap, ap₂, subst, rules}
use Rattle.sp_defs.specs.Laurent.{Laurent, one}
use Rattle.sp_fock.specs.Cells.{rows_of}
use Rattle.sp_fock_law.specs.Grid.{GridValue}
use Rattle.sp_module_defs.proofs.Places.{gridded}
use Rattle.sp_module_defs.specs.Cells.{IsSquareUnitriangular, cell_at, place}
use Rattle.sp_row_tests.proofs.cartan.degree_two.Goals as goal

-- the matrix, whatever stands in the other line
abbrev matrix : Laurent → GridValue
matrix p = gridded 2 ((2 ∷ []) ∷ []) ((2 ∷ []) ∷ (1 ∷ 1 ∷ []) ∷ []) ((one ∷ []) ∷ (p ∷ []) ∷ [])

triangular : (p : Laurent) → IsSquareUnitriangular (matrix p).columns (cell_at (matrix p))
unfolding cell_at place
triangular p = record { own = (refl, tt); greater = ((λ h. cc, tt), tt) }

pub returns-clause-triangular : goal.returns-clause-triangular
returns-clause-triangular c =
    let columns_are : c.in_ok-columns.columns.items ≡ (2 ∷ []) ∷ [] = search rules in
    let lines_are : c.in_ok-lines.lines.items ≡ (2 ∷ []) ∷ (1 ∷ 1 ∷ []) ∷ [] = search rules in
    let cells_are : rows_of c.in_ok-cells.cells.items ≡ (one ∷ []) ∷ (c.in_ok-monomial.field-0 ∷ []) ∷ [] =
    search rules in
    subst (λ (g : GridValue). IsSquareUnitriangular g.columns (cell_at g))
    (sym (c.in_ok-build.ensures
    ∙ ap₂ (λ a b. gridded 2 a b (rows_of c.in_ok-cells.cells.items)) columns_are lines_are
    ∙ ap (gridded 2 ((2 ∷ []) ∷ []) ((2 ∷ []) ∷ (1 ∷ 1 ∷ []) ∷ [])) cells_are)) (triangular c.in_ok-monomial.field-0)
