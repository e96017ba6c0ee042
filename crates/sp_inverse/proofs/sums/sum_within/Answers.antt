use Rattle.std.proofs.Common.{◌≡◌, ◌+◌, ◌≤◌, take, sym, ◌∙◌, ap, subst, arith}
use Rattle.sp_defs.specs.Laurent.{plus, times, size}
use Rattle.sp_grid_law.specs.Lines.{cells_size, cells_sum}
use Rattle.sp_inverse.proofs.SumSteps.{step_taken, step_left, sum_none}
use Rattle.sp_inverse.proofs.sums.sum_within.Goals as goal
use Rattle.sp_inverse.proofs.sums.sum_within.Goals.{then-cell-factors+in_ok-sum, else-cell-factors}

pub loop-cell-init : goal.loop-cell-init
loop-cell-init c = (
  c.zero-sum.ensures ∙ sym (sum_none c.args.factors.now),
  subst (λ p. size p ≤ 0) (sym c.zero-sum.ensures) (omega arith),
)

pub loop-cell-preserved : goal.loop-cell-preserved
loop-cell-preserved c =
    let cells = c.args.cells.now in
    let factors = c.args.factors.now in
    let i = c.loop-cell.cell-index in
    elim c.if-cell-factors.branch [
      | then-cell-factors+in_ok-sum w ↦ subst
          (λ p. (p ≡ cells_sum (take (i + 1) cells) factors) × (size p ≤ cells_size (take (i + 1) cells) factors))
          (sym w.sum-is)
          (step_taken cells factors i c.cell-item.result c.loop-cell-test.true c.cell-item.is c.loop-cell.sum
          c.loop-cell.invariant.0 c.loop-cell.invariant.1 w.index-factors-cell.result w.index-factors-cell.is
          w.if-cell-factors.true w.in_ok-sum.sum
          (w.in_ok-sum.ensures.ok ∙ ap (λ b. plus c.loop-cell.sum (times c.cell-item.result.1 b)) w.terms.ensures.value))
      | else-cell-factors w ↦ subst
          (λ p. (p ≡ cells_sum (take (i + 1) cells) factors) × (size p ≤ cells_size (take (i + 1) cells) factors))
          (sym w.sum-is)
          (step_left cells factors i c.cell-item.result c.loop-cell-test.true c.cell-item.is c.loop-cell.sum
          c.loop-cell.invariant.0 c.loop-cell.invariant.1 (omega (arith, w.if-cell-factors.false)))
    ]
