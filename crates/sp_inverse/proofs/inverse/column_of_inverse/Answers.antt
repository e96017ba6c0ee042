use Rattle.std.proofs.Common.{◌≡◌, ◌+◌, ◌<◌, ◌≤◌, ◌++◌, ◌∷◌, [], ℕ, List, length, sym, ◌∙◌, ap, subst, arith}
use Rattle.sp_fock.specs.declared.fault.FockFault.TheVariants.{TooLarge}
use Rattle.std.specs.List.{AllByRecursion}
use Rattle.sp_defs.specs.Laurent.{Laurent, negate}
use Rattle.sp_defs.specs.Within.{PowersWithin}
use Rattle.sp_fock_law.specs.Grid.{GridValue, cell_of, row_of}
use Rattle.sp_fock_law.specs.Sparse.{Cells, IsSparse, spread}
use Rattle.sp_grid_law.specs.Inverses.{inverse_size}
use Rattle.sp_grid_law.specs.Lines.{cells_size, cells_sum, line_size, line_sum}
use Rattle.sp_grid_law.specs.Solved.{inverse_of, solved}
use Rattle.sp_grid_law.proofs.Columns.{first_solved, next_solved, size_is, solved_powers, one_further}
use Rattle.sp_grid_law.proofs.Lines.{cells_size_is, cells_sum_is, products_within}
use Rattle.sp_laurent.specs.Held.{power_limit}
use Rattle.sp_inverse.specs.Turned.{CanInvert}
use Rattle.sp_inverse.specs.Within.{AreCellsWithin}
use Rattle.sp_inverse.proofs.Places.{place_in, same_fault}
use Rattle.sp_inverse.proofs.inverse.column_of_inverse.Goals as goal

module _ (g : GridValue) (can : CanInvert g) (column line : ℕ) (behind : column < line) (within : line < length g.lines)
    (cells : Cells) (sparse : IsSparse (length g.columns) cells) (row : spread (length g.columns) cells ≡ row_of g line)
    (factors : List Laurent) (same : factors ≡ solved (cell_of g) column line) where
  near : AreCellsWithin cells factors
  near =
      products_within g line cells sparse row 100000 560300000 power_limit (omega arith)
      (λ k lt. can.powers line k within lt) factors
      (subst (AllByRecursion (PowersWithin 560300000)) (sym same)
      (solved_powers g (ap length can.triangular.square) can.lines can.powers column line (omega arith)))

  total : cells_size cells factors ≡ inverse_size g (inverse_of g) line column
  total =
      cells_size_is g line cells sparse row factors
      ∙ ap (λ fs. line_size g fs line) same
      ∙ size_is g can.triangular column line behind within

  next : (sum : Laurent) → sum ≡ cells_sum cells factors →
      solved (cell_of g) column (line + 1) ≡ solved (cell_of g) column line ++ negate sum ∷ []
  next sum e =
      next_solved g can.triangular column line behind within (negate sum)
      (ap negate (e ∙ cells_sum_is g line cells sparse row factors ∙ ap (λ fs. line_sum g fs line) same))

further : (g : GridValue) (column line limit : ℕ) →
    ((i : ℕ) → column < i → i < line → inverse_size g (inverse_of g) i column ≤ limit) →
    inverse_size g (inverse_of g) line column ≤ limit → (i : ℕ) → column < i → i < line + 1 →
    inverse_size g (inverse_of g) i column ≤ limit
further g column line limit before at i above below =
    one_further (λ i. column < i → inverse_size g (inverse_of g) i column ≤ limit) line
    (λ i under behind. before i behind under) (λ behind. at) i below above

pub loop-line-init : goal.loop-line-init
loop-line-init c = (
  c.in_ok-cells.ensures ∙ sym (first_solved (cell_of c.args.g.now) c.args.column),
  λ i above below. absurd (omega arith),
)

pub sum_of_products-requires-clause-within : goal.sum_of_products-requires-clause-within
sum_of_products-requires-clause-within c =
    near c.args.g.now c.requires.can c.args.column c.loop-line.line (omega (arith, c.loop-line.auto.line))
    (place_in c.lines-line-end.result.now c.args.g.now.lines c.loop-line.line
    c.lines-line-end.ensures.value c.loop-line-test.true)
    c.line_cells.result.now c.line_cells.ensures.sparse c.line_cells.ensures.value c.deref.result.now
    (c.deref.ensures.value ∙ c.loop-line.invariant.0)

pub returns-in-Err-clause-too_large : goal.returns-in-Err-clause-too_large
returns-in-Err-clause-too_large c =
    let within = place_in c.lines-line-end.result.now c.args.g.now.lines c.loop-line.line
    c.lines-line-end.ensures.value c.loop-line-test.true in
    let sizes = total c.args.g.now c.requires.can c.args.column c.loop-line.line (omega (arith, c.loop-line.auto.line))
    within c.line_cells.result.now c.line_cells.ensures.sparse c.line_cells.ensures.value c.deref.result.now
    (c.deref.ensures.value ∙ c.loop-line.invariant.0) in
    λ is_large all_within.
    absurd (omega (
      arith,
      sizes,
      c.in-Err.ensures.too_large (same_fault c.in-Err.fault TooLarge is_large),
      all_within c.loop-line.line (omega (arith, c.loop-line.auto.line)) within,
    ))

pub loop-line-preserved : goal.loop-line-preserved
loop-line-preserved c =
    let g = c.args.g.now in
    let column = c.args.column in
    let line = c.loop-line.line in
    let behind : column < line = omega (arith, c.loop-line.auto.line) in
    let within = place_in c.lines-line-end.result.now g.lines line c.lines-line-end.ensures.value
    c.loop-line-test.true in
    let same = c.deref.ensures.value ∙ c.loop-line.invariant.0 in (
      c.in_ok-push_negated-in-Ok.ensures
          ∙ ap (λ xs. xs ++ negate c.in-Ok.sum ∷ []) c.loop-line.invariant.0
          ∙ sym (next g c.requires.can column line behind within c.line_cells.result.now c.line_cells.ensures.sparse
          c.line_cells.ensures.value c.deref.result.now same c.in-Ok.sum c.in-Ok.ensures.sum),
      further g column line c.args.limit c.loop-line.invariant.1
          (subst (λ n. n ≤ c.args.limit)
          (total g c.requires.can column line behind within c.line_cells.result.now c.line_cells.ensures.sparse
          c.line_cells.ensures.value c.deref.result.now same) c.in-Ok.ensures.fits),
    )
