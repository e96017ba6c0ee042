use Rattle.std.proofs.Common.{◌+◌, ◌≤◌, sym, ◌∙◌, subst, arith}
use Rattle.sp_fock.specs.declared.fault.FockFault.TheVariants.{TooLarge}
use Rattle.sp_grid_law.specs.Lines.{IsLine, line_size, line_sum}
use Rattle.sp_grid_law.proofs.Columns.{one_further}
use Rattle.sp_grid_law.proofs.Lines.{cells_size_is, cells_sum_is, products_within}
use Rattle.sp_laurent.specs.Held.{power_limit}
use Rattle.sp_inverse.proofs.Places.{place_in, same_fault}
use Rattle.sp_inverse.proofs.Rows.{line_next}
use Rattle.sp_inverse.proofs.product.column_of_product.Goals as goal

pub sum_of_products-requires-clause-within : goal.sum_of_products-requires-clause-within
sum_of_products-requires-clause-within c =
    let within = place_in c.lines-line-end.result.now c.args.a.now.lines c.loop-line.line
    c.lines-line-end.ensures.value c.loop-line-test.true in
    products_within c.args.a.now c.loop-line.line c.line_cells.result.now c.line_cells.ensures.sparse
    c.line_cells.ensures.value 500000000 500000000 power_limit (omega arith)
    (λ k lt. c.requires.cells c.loop-line.line k within lt) c.args.factors.now c.requires.factors

pub returns-in-Err-clause-too_large : goal.returns-in-Err-clause-too_large
returns-in-Err-clause-too_large c =
    let within = place_in c.lines-line-end.result.now c.args.a.now.lines c.loop-line.line
    c.lines-line-end.ensures.value c.loop-line-test.true in
    λ is_large all_within.
    absurd (omega (
      arith,
      cells_size_is c.args.a.now c.loop-line.line c.line_cells.result.now c.line_cells.ensures.sparse
          c.line_cells.ensures.value c.args.factors.now,
      c.in-Err.ensures.too_large (same_fault c.in-Err.fault TooLarge is_large),
      all_within c.loop-line.line within,
    ))

pub loop-line-preserved : goal.loop-line-preserved
loop-line-preserved c =
    let a = c.args.a.now in
    let factors = c.args.factors.now in
    let line = c.loop-line.line in (
      subst (IsLine (line + 1) (line_sum a factors)) (sym c.in_ok-push_cell-in-Ok.ensures)
          (line_next line (line_sum a factors) c.loop-line.cells.items c.loop-line.invariant.0 c.in-Ok.cell
          (c.in-Ok.ensures.sum
          ∙ cells_sum_is a line c.line_cells.result.now c.line_cells.ensures.sparse c.line_cells.ensures.value
          factors)),
      one_further (λ i. line_size a factors i ≤ c.args.limit) line c.loop-line.invariant.1
          (subst (λ n. n ≤ c.args.limit)
          (cells_size_is a line c.line_cells.result.now c.line_cells.ensures.sparse c.line_cells.ensures.value factors)
          c.in-Ok.ensures.fits),
    )
