use Rattle.std.proofs.Common.{◌≡◌, ℕ, List, [], ◌∷◌, refl, sym, ◌∙◌, ap, ap₂, subst, pos, rules}
use Rattle.sp_defs.specs.Laurent.{Laurent, one}
use Rattle.sp_fock.specs.Cells.{rows_of}
use Rattle.sp_fock_law.specs.Grid.{GridValue}
use Rattle.sp_module_defs.proofs.Places.{gridded}
use Rattle.sp_module_defs.specs.Cells.{IsSquareUnitriangular, cell_at, place}
use Rattle.sp_row_tests.proofs.simple_dims.degree_four.Goals as goal

abbrev v : Laurent
v = (pos 1, pos 1) ∷ []

abbrev v_squared : Laurent
v_squared = (pos 2, pos 1) ∷ []

abbrev columns : List (List ℕ)
columns =
    (4 ∷ []) ∷ (3 ∷ 1 ∷ []) ∷ []

abbrev lines : List (List ℕ)
lines =
    (4 ∷ []) ∷ (3 ∷ 1 ∷ []) ∷ (2 ∷ 2 ∷ []) ∷ (2 ∷ 1 ∷ 1 ∷ []) ∷ (1 ∷ 1 ∷ 1 ∷ 1 ∷ []) ∷ []

abbrev cells : List (List Laurent)
cells =
    (one ∷ [] ∷ []) ∷ (v ∷ one ∷ []) ∷ ([] ∷ v ∷ []) ∷ (v ∷ v_squared ∷ []) ∷ (v_squared ∷ [] ∷ []) ∷ []

triangular : IsSquareUnitriangular columns (cell_at (gridded 4 columns lines cells))
unfolding cell_at place
triangular = record {
  own = (refl, (refl, tt));
  greater = ((λ h. cc, (λ h. cc, tt)), ((λ _. refl, (λ h. cc, tt)), tt));
}

pub returns : goal.returns
returns c =
    let columns_are : c.in_ok-columns.columns.items ≡ columns = search rules in
    let lines_are : c.in_ok-lines.lines.items ≡ lines = search rules in
    let cells_are : rows_of c.in_ok-cells.cells.items ≡ cells = search rules in
    subst (λ (g : GridValue). IsSquareUnitriangular g.columns (cell_at g))
    (sym (c.in_ok-build.ensures
    ∙ ap₂ (λ a b. gridded 4 a b (rows_of c.in_ok-cells.cells.items)) columns_are lines_are
    ∙ ap (gridded 4 columns lines) cells_are)) triangular
