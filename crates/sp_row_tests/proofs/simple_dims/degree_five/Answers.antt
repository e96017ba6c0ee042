use Rattle.std.proofs.Common.{◌≡◌, ℕ, List, [], ◌∷◌, refl, sym, ◌∙◌, ap, ap₂, subst, pos}
use Rattle.sp_defs.specs.Laurent.{Laurent, one}
use Rattle.sp_fock.specs.Cells.{rows_of}
use Rattle.sp_fock_law.specs.Grid.{GridValue}
use Rattle.sp_module_defs.proofs.Places.{gridded}
use Rattle.sp_module_defs.specs.Cells.{IsSquareUnitriangular, cell_at, place}
use Rattle.sp_row_tests.proofs.simple_dims.degree_five.Goals as goal

abbrev v : Laurent
v = (pos 1, pos 1) ∷ []

abbrev v_squared : Laurent
v_squared = (pos 2, pos 1) ∷ []

abbrev columns : List (List ℕ)
columns =
    (5 ∷ []) ∷ (4 ∷ 1 ∷ []) ∷ (3 ∷ 2 ∷ []) ∷ []

abbrev lines : List (List ℕ)
lines =
    (5 ∷ []) ∷ (4 ∷ 1 ∷ []) ∷ (3 ∷ 2 ∷ []) ∷ (3 ∷ 1 ∷ 1 ∷ []) ∷ (2 ∷ 2 ∷ 1 ∷ []) ∷ (2 ∷ 1 ∷ 1 ∷ 1 ∷ []) ∷ (1 ∷ 1 ∷
    1 ∷ 1 ∷ 1 ∷ []) ∷ []

abbrev cells : List (List Laurent)
cells =
    (one ∷ [] ∷ [] ∷ []) ∷ ([] ∷ one ∷ [] ∷ []) ∷ ([] ∷ [] ∷ one ∷ []) ∷ (v ∷ [] ∷ v ∷ []) ∷ ([] ∷ [] ∷ v_squared ∷
    []) ∷ ([] ∷ v ∷ [] ∷ []) ∷ (v_squared ∷ [] ∷ [] ∷ []) ∷ []

triangular : IsSquareUnitriangular columns (cell_at (gridded 5 columns lines cells))
unfolding cell_at place
triangular = record {
  own = (refl, (refl, (refl, tt)));
  greater = (
    (λ h. cc, (λ h. cc, (λ h. cc, tt))),
    ((λ _. refl, (λ h. cc, (λ h. cc, tt))), ((λ _. refl, (λ _. refl, (λ h. cc, tt))), tt)),
  );
}

cons : {X : Type 0} {x y : X} {xs ys : List X} → x ≡ y → xs ≡ ys → x ∷ xs ≡ y ∷ ys
cons first later = ap₂ (λ x xs. x ∷ xs) first later

pub returns : goal.returns
returns c =
    let columns_are : c.in_ok-columns.columns.items ≡ columns =
    c.in_ok-columns.ensures.items ∙ cons c.in_ok-from_parts.ensures.ok (cons c.in_ok-from_parts-2.ensures.ok (cons
    c.in_ok-from_parts-3.ensures.ok (refl))) in
    let lines_are : c.in_ok-lines.lines.items ≡ lines =
    c.in_ok-lines.ensures.items ∙ cons c.in_ok-from_parts-4.ensures.ok (cons c.in_ok-from_parts-5.ensures.ok (cons
    c.in_ok-from_parts-6.ensures.ok (cons c.in_ok-from_parts-7.ensures.ok (cons c.in_ok-from_parts-8.ensures.ok (cons
    c.in_ok-from_parts-9.ensures.ok (cons c.in_ok-from_parts-10.ensures.ok (refl))))))) in
    let cells_are : rows_of c.in_ok-cells.cells.items ≡ cells =
    ap rows_of c.in_ok-cells.ensures.items ∙ cons c.in_ok-row.ensures (cons c.in_ok-row-2.ensures (cons
    c.in_ok-row-3.ensures (cons c.in_ok-row-4.ensures (cons c.in_ok-row-5.ensures (cons c.in_ok-row-6.ensures (cons
    c.in_ok-row-7.ensures (refl))))))) in
    subst (λ (g : GridValue). IsSquareUnitriangular g.columns (cell_at g))
    (sym (c.in_ok-build.ensures
    ∙ ap₂ (λ a b. gridded 5 a b (rows_of c.in_ok-cells.cells.items)) columns_are lines_are
    ∙ ap (gridded 5 columns lines) cells_are)) triangular
