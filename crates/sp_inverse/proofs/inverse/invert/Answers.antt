use Rattle.std.proofs.Common.{◌≡◌, Result, Err, sym, ◌∙◌, ap, subst}
use Rattle.std.specs.Result.{IsErrAnd}
use Rattle.sp_fock_law.specs.Grid.{GridValue, cell_of}
use Rattle.sp_grid_law.specs.Columns.{AreWithin, IsGreatestPast}
use Rattle.sp_grid_law.specs.Inverses.{IsInverse, IsInverseWithin}
use Rattle.sp_grid_law.specs.Solved.{inverse_of, solution}
use Rattle.sp_grid_law.specs.Tables.{transposed}
use Rattle.sp_grid_law.proofs.InverseLaw.{inverse_is, only_inverse}
use Rattle.sp_grid_law.proofs.Lines.{transposed_back}
use Rattle.sp_inverse.specs.declared.fault.GridFault.TheVariants.{TooLarge}
use Rattle.sp_inverse.proofs.Rows.{kept_grid, kept_is, kept_sparse}
use Rattle.sp_inverse.proofs.inverse.invert.Goals as goal

at_fault : {T E : Type 0} (P : E → Type 0) (r : Result T E) (x : E) → r ≡ Err x → IsErrAnd r P → P x
at_fault P r x e is = subst (λ r. IsErrAnd r P) e is

pub returns-in_err-columns-clause-too_large : goal.returns-in_err-columns-clause-too_large
returns-in_err-columns-clause-too_large c =
    let g = c.args.g.now in
    λ h at is e.
    let stop = at_fault _ c.from_residual.result (TooLarge at) e c.from_residual.ensures.1 in
    let same : c.in_err-columns.field-0.0 ≡ TooLarge at = cc in
    let told : IsGreatestPast g.columns (IsInverseWithin c.args.limit g (inverse_of g)) at =
    c.in_err-columns.ensures.too_large at (ap Err same) in
    subst (λ (x : GridValue). IsGreatestPast g.columns (IsInverseWithin c.args.limit g x) at)
    (sym (only_inverse g c.degree-degree.ensures.grid c.requires.triangular h is)) told

pub from_cells-turned-requires-clause-grid : goal.from_cells-turned-requires-clause-grid
from_cells-turned-requires-clause-grid c =
    let g = c.args.g.now in
    kept_grid g.degree c.degree-degree.result g.lines g.columns c.in_ok-from_slice.field-0.items
    c.in_ok-from_slice-2.field-0.items (λ line column. solution (cell_of g) column line) c.in_ok-columns.columns.items
    c.degree-degree.ensures.value (c.in_ok-from_slice.ensures.items ∙ c.lines.ensures.value)
    (c.in_ok-from_slice-2.ensures.items ∙ c.columns.ensures.value) c.in_ok-columns.ensures.columns
    c.degree-degree.ensures.grid.lines c.degree-degree.ensures.grid.columns

pub from_cells-turned-requires-clause-sparse : goal.from_cells-turned-requires-clause-sparse
from_cells-turned-requires-clause-sparse c =
    let g = c.args.g.now in
    kept_sparse g.degree c.degree-degree.result g.lines g.columns c.in_ok-from_slice.field-0.items
    c.in_ok-from_slice-2.field-0.items (λ line column. solution (cell_of g) column line) c.in_ok-columns.columns.items
    c.degree-degree.ensures.value (c.in_ok-from_slice.ensures.items ∙ c.lines.ensures.value)
    (c.in_ok-from_slice-2.ensures.items ∙ c.columns.ensures.value) c.in_ok-columns.ensures.columns

-- What is returned is the grid of the solutions.
made : (c : goal.After-drop-turned-inside-5) → c.in_ok-transpose.field-0 ≡ inverse_of c.args.g.now
made c =
    let g = c.args.g.now in
    c.in_ok-transpose.ensures
    ∙ ap transposed
    (c.from_cells-turned.ensures
    ∙ kept_is g.degree c.degree-degree.result g.lines g.columns c.in_ok-from_slice.field-0.items
    c.in_ok-from_slice-2.field-0.items (λ line column. solution (cell_of g) column line) c.in_ok-columns.columns.items
    c.degree-degree.ensures.value (c.in_ok-from_slice.ensures.items ∙ c.lines.ensures.value)
    (c.in_ok-from_slice-2.ensures.items ∙ c.columns.ensures.value) c.in_ok-columns.ensures.columns)
    ∙ transposed_back g.degree g.columns g.lines (solution (cell_of g))

pub returns-clause-inverse : goal.returns-clause-inverse
returns-clause-inverse c =
    subst (IsInverse c.args.g.now) (sym (made c))
    (inverse_is c.args.g.now c.degree-degree.ensures.grid c.requires.triangular)

pub returns-clause-only : goal.returns-clause-only
returns-clause-only c = λ h is.
    made c ∙ sym (only_inverse c.args.g.now c.degree-degree.ensures.grid c.requires.triangular h is)

pub returns-clause-within : goal.returns-clause-within
returns-clause-within c =
    let g = c.args.g.now in
    λ h is.
    subst (λ (x : GridValue). AreWithin g.columns (IsInverseWithin c.args.limit g x))
    (sym (only_inverse g c.degree-degree.ensures.grid c.requires.triangular h is)) c.in_ok-columns.ensures.within
