-- The dimensions of the simple modules are those that solve the equations.
use Rattle.std.proofs.Common.{◌≡◌, ℕ, List, [], ◌∷◌, ◌++◌, ℤ, refl, sym, ◌∙◌, ap, flat_map}
use Rattle.std.proofs.Common.{◌≢◌, Result, Ok, Err, OnOk, Option, Some, None, subst}
use Rattle.sp_lang.specs.declared.convention.Convention.{Convention}
use Rattle.sp_module_defs.specs.Cells.{IsSquareUnitriangular, cell_at}
use Rattle.sp_dims.specs.declared.fault.DimsFault.{DimsFault}
use Rattle.sp_dims.specs.declared.fault.DimsFault.TheVariants.{TooLarge, Memory}
use Rattle.sp_dims.specs.Equation.{next_dim}
use Rattle.sp_dims.specs.Solution.{IsSolution, IsWithin, IsPast, first_past}
use Rattle.sp_module_defs.proofs.Places.{descends}
use Rattle.sp_dims.proofs.Solving.{solved, solution, upper}
use Rattle.sp_fock_law.specs.Grid.{GridValue, IsGrid}
use Rattle.sp_module_defs.specs.Agreement.{Cells}
use Rattle.sp_module_defs.specs.Dims.{Dims}
use Rattle.sp_llt.specs.declared.refused.FirstRefused.{FirstRefused}
use Rattle.sp_matrix.specs.Matrix.{columns_of, matrix}
use Rattle.sp_matrix.specs.Refusal.{refused_column}
use Rattle.sp_matrix.proofs.Whole.{matrix_is_grid, matrix_is_triangular}
use Rattle.sp_replies.specs.Labels.{refusal_in}
use Rattle.sp_session.specs.Modules.{DimsLaw, IsSolved, dims_after, dims_or_refusal, dims_text, grid_dims_text}
use Rattle.sp_session.specs.Modules.{label_line, labels_of, on_table, refused_in}
use Rattle.sp_session.specs.Modules.{simple_dims_of}
use Rattle.sp_session.specs.Tables.{crystal_table, unless_refused}
use Rattle.sp_replies.specs.Refusals.{refusal_line}
use Rattle.sp_replies.specs.declared.refusals.Refusal.{Refusal}
use Rattle.sp_replies.specs.declared.refusals.Refusal.TheVariants.{LargeColumn}

dims-solved : (d : Cells) (known : Dims) (columns : List (List ℕ)) → dims_after d known columns ≡ solved d known columns
unfolding dims_after solved next_dim
dims-solved d known [] = refl
dims-solved d known (mu ∷ columns) =
    ap (λ dims. next_dim d known mu ∷ dims) (dims-solved d (known ++ (mu, next_dim d known mu) ∷ []) columns)

module _ (limit : ℕ) (convention : Convention) (labels : List (List ℕ)) (g : GridValue) (grid : IsGrid g)
    (triangular : IsSquareUnitriangular g.columns (cell_at g)) where
  dims_are : (dims : List ℤ) → IsSolution g.columns (cell_at g) dims → simple_dims_of g ≡ dims
  dims_are dims s =
      dims-solved (cell_at g) [] g.columns
      ∙ s.only (solved (cell_at g) [] g.columns)
      (solution (cell_at g) g.columns
      (upper (cell_at g) g.columns (descends g.columns grid.columns.descending) triangular)).solves

  told : (dims : List ℤ) → IsSolution g.columns (cell_at g) dims → grid_dims_text limit convention labels g
      ≡ dims_or_refusal convention labels (first_past limit g.columns (cell_at g) dims) g.columns dims
  told dims s =
      ap (λ ds. dims_or_refusal convention labels (first_past limit g.columns (cell_at g) ds) g.columns ds)
      (dims_are dims s)

  -- What is told of the grid is the text of the only solution.
  pub solved_text : IsSolved limit convention labels g (grid_dims_text limit convention labels g)
  solved_text =
      let s = solution (cell_at g) g.columns
      (upper (cell_at g) g.columns (descends g.columns grid.columns.descending) triangular) in
      record {
        dims = solved (cell_at g) [] g.columns;
        solution = s;
        told = told (solved (cell_at g) [] g.columns) s;
      }

  -- the text where no dimension passes the limit
  pub within_text : (dims : List ℤ) → IsWithin limit g.columns (cell_at g) dims →
      flat_map (label_line convention g.columns dims) labels ≡ grid_dims_text limit convention labels g
  within_text dims w =
      sym (told dims w.solution ∙ ap (λ o. dims_or_refusal convention labels o g.columns dims) w.within)

  -- the text where one does
  pub past_text : (at : List ℕ) → IsPast limit g.columns (cell_at g) at →
      refusal_line (refusal_in convention (LargeColumn at)) ≡ grid_dims_text limit convention labels g
  past_text at p =
      sym (told p.dims p.solution ∙ ap (λ o. dims_or_refusal convention labels o g.columns p.dims) p.first)

-- The only table of a degree is its matrix, where no column is refused.
table_is : (o : Option FirstRefused) (matrix grid : GridValue) → unless_refused o matrix ≡ Ok grid → grid ≡ matrix
table_is None matrix grid h = cc
table_is (Some refused) matrix grid h = cc

-- What is told of a table that is there is the text of the only solution.
told_of : (limit : ℕ) (convention : Convention) (labels : List (List ℕ)) (table : Result GridValue Refusal)
    (grid : GridValue) → table ≡ Ok grid → IsGrid grid → IsSquareUnitriangular grid.columns (cell_at grid) →
    IsSolved limit convention labels grid
    (on_table (grid_dims_text limit convention labels) (refused_in convention table))
told_of limit convention labels table grid h g u =
    subst (λ t. IsSolved limit convention labels grid
    (on_table (grid_dims_text limit convention labels) (refused_in convention t)))
    (sym h) (solved_text limit convention labels grid g u)

-- Where no column is refused, the answer to `dims` tells the only solution.
pub dims_solved : DimsLaw
unfolding dims_text crystal_table
dims_solved limit convention e n two grid h =
    let is : grid ≡ matrix e n = table_is (refused_column e limit (columns_of e n)) (matrix e n) grid h in
    told_of limit convention (labels_of convention e n)
    (unless_refused (refused_column e limit (columns_of e n)) (matrix e n)) grid h
    (subst IsGrid (sym is) (matrix_is_grid e n))
    (subst (λ (g : GridValue). IsSquareUnitriangular g.columns (cell_at g)) (sym is) (matrix_is_triangular e n two))

-- A fault that is told is no want of memory.
pub fault_told : {T E : Type 0} (r : Result T E) (convention : Convention) (fault : DimsFault)
    (new before text : List ℕ) →
    OnOk r ((at : List ℕ) → fault ≡ TooLarge at →
    new ≡ before ++ refusal_line (refusal_in convention (LargeColumn at))) → OnOk r (fault ≢ Memory) →
    ((at : List ℕ) → fault ≡ TooLarge at → refusal_line (refusal_in convention (LargeColumn at)) ≡ text) →
    OnOk r (new ≡ before ++ text)
fault_told (Ok x) convention (TooLarge at) new before text line memory past =
    line at refl ∙ ap (λ t. before ++ t) (past at refl)
fault_told (Ok x) convention Memory new before text line memory past = absurd (memory refl)
fault_told (Err e) convention fault new before text line memory past = tt
