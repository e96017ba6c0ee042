use Rattle.std.proofs.Common.{◌≡◌, ◌≤◌, ℕ, List, [], ◌∷◌, length, refl, sym, ◌∙◌, ap, ap₂, subst, pos, rules, arith}
use Rattle.sp_defs.specs.Laurent.{Laurent, one}
use Rattle.sp_fock.specs.Cells.{rows_of}
use Rattle.sp_fock_law.specs.Grid.{GridValue}
use Rattle.sp_module_defs.proofs.Places.{gridded}
use Rattle.sp_module_defs.specs.Cells.{IsSquareUnitriangular, cell_at, place}
use Rattle.sp_cartan.specs.Square.{HasSquare}
use Rattle.sp_row_tests.proofs.cartan.degree_four.Goals as goal

abbrev v : Laurent
v = (pos 1, pos 1) ∷ []

abbrev v_squared : Laurent
v_squared = (pos 2, pos 1) ∷ []

abbrev matrix : GridValue
matrix =
    gridded 4 ((4 ∷ []) ∷ (3 ∷ 1 ∷ []) ∷ [])
    ((4 ∷ []) ∷ (3 ∷ 1 ∷ []) ∷ (2 ∷ 2 ∷ []) ∷ (2 ∷ 1 ∷ 1 ∷ []) ∷ (1 ∷ 1 ∷ 1 ∷ 1 ∷ []) ∷ [])
    ((one ∷ [] ∷ []) ∷ (v ∷ one ∷ []) ∷ ([] ∷ v ∷ []) ∷ (v ∷ v_squared ∷ []) ∷ (v_squared ∷ [] ∷ []) ∷ [])

triangular : IsSquareUnitriangular matrix.columns (cell_at matrix)
unfolding cell_at place
triangular = record {
  own = (refl, (refl, tt));
  greater = ((λ h. cc, (λ h. cc, tt)), ((λ _. refl, (λ h. cc, tt)), tt));
}

square : HasSquare matrix
unfolding place
square = (omega arith, (omega arith, tt))

made : (columns lines : List (List ℕ)) (cells : List (List Laurent)) → columns ≡ matrix.columns →
    lines ≡ matrix.lines → cells ≡ matrix.cells → gridded 4 columns lines cells ≡ matrix
made columns lines cells c l k =
    ap₂ (λ a b. gridded 4 a b cells) c l ∙ ap (gridded 4 matrix.columns matrix.lines) k

pub returns-clause-triangular : goal.returns-clause-triangular
returns-clause-triangular c =
    let columns_are : c.in_ok-columns.columns.items ≡ matrix.columns = search rules in
    let lines_are : c.in_ok-lines.lines.items ≡ matrix.lines = search rules in
    let cells_are : rows_of c.in_ok-cells.cells.items ≡ matrix.cells = search rules in
    subst (λ (g : GridValue). IsSquareUnitriangular g.columns (cell_at g))
    (sym (c.in_ok-build.ensures
    ∙ made c.in_ok-columns.columns.items c.in_ok-lines.lines.items (rows_of c.in_ok-cells.cells.items) columns_are
    lines_are cells_are)) triangular

pub returns-clause-square : goal.returns-clause-square
returns-clause-square c =
    let columns_are : c.in_ok-columns.columns.items ≡ matrix.columns = search rules in
    let lines_are : c.in_ok-lines.lines.items ≡ matrix.lines = search rules in
    let cells_are : rows_of c.in_ok-cells.cells.items ≡ matrix.cells = search rules in
    subst HasSquare
    (sym (c.in_ok-build.ensures
    ∙ made c.in_ok-columns.columns.items c.in_ok-lines.lines.items (rows_of c.in_ok-cells.cells.items) columns_are
    lines_are cells_are)) square
