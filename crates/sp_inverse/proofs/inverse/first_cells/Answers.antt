use Rattle.std.proofs.Common.{◌++◌, ◌∷◌, [], map, sym, ◌∙◌, ap, ap₂, arith}
use Rattle.std.proofs.lemmas.List.FromFn.{map-range_with_len_more}
use Rattle.std.specs.List.{range_with_len}
use Rattle.sp_defs.specs.Laurent.{nought}
use Rattle.sp_grid_law.proofs.Columns.{zeros_and_one}
use Rattle.sp_inverse.proofs.inverse.first_cells.Goals as goal

pub loop-line-preserved : goal.loop-line-preserved
loop-line-preserved c =
    c.in_ok-push.ensures.items
    ∙ ap₂ (λ ps p. ps ++ p ∷ []) c.loop-line.invariant c.zero.ensures
    ∙ sym (map-range_with_len_more (λ k. nought) 0 c.loop-line._line c.loop-line._line (omega arith))

pub returns : goal.returns
returns c =
    c.in_ok-push-2.ensures.items
    ∙ ap₂ (λ ps p. ps ++ p ∷ [])
    (c.loop-line.invariant
    ∙ ap (λ n. map (λ k. nought) (range_with_len 0 n)) {x = c.loop-line._line} {y = c.args.column}
    (omega (arith, c.loop-line.auto._line-end, c.loop-line-test.false)))
    c.in_ok-monomial.ensures
    ∙ zeros_and_one c.args.column
