-- Row by row the greatest ladder is that of the last node of a row.
use Rattle.std.proofs.Common.{◌≡◌, ◌+◌, ◌<◌, get_or, arith, subst, sym, ◌∙◌, ap, refl, max}
use Rattle.sp_defs.specs.Node.{nodes_from}
use Rattle.sp_defs.specs.Ladder.{ladder_of}
use Rattle.sp_partition.specs.Held.{IsHeld}
use Rattle.sp_ladder.proofs.Counts.{row, row_fits, rows_few, greatest_row}
use Rattle.sp_ladder.proofs.counting.ladders_end.Goals as goal

pub loop-part-init : goal.loop-part-init
unfolding nodes_from
loop-part-init c = record {
  held = subst IsHeld (sym c.parts-part-items.ensures.parts) c.parts-part-items.ensures.held;
  at = refl;
  greatest = refl;
  small = omega arith;
}

pub overflow_add-row : goal.overflow_add-row
overflow_add-row c = omega (arith, rows_few _ c.loop-part.invariant.held)

pub last_ladder-requires-clause-small : goal.last_ladder-requires-clause-small
last_ladder-requires-clause-small c =
    row_fits c.args.e _ _ _ c.loop-part.invariant.held c.loop-part-test.true c.loop-part.invariant.at

pub loop-part-preserved : goal.loop-part-preserved
loop-part-preserved c = record {
  held = c.loop-part.invariant.held;
  at = ap (λ n. n + 1) c.loop-part.invariant.at;
  greatest =
      greatest_row c.args.e c.loop-part.part-index c.loop-part.end c.greater-end.result
      c.parts-part-items.result.now c.loop-part-test.true
      (row c.args.e _ _ c.loop-part.invariant.held c.loop-part-test.true).positive c.loop-part.invariant.greatest
      (c.greater-end.ensures ∙ ap (max c.loop-part.end) last);
  small = omega (arith, c.greater-end.ensures, c.last_ladder.ensures.bound, c.loop-part.invariant.small);
}
  where
    last : c.last_ladder.result
        ≡ ladder_of c.args.e (c.loop-part.part-index + 1, get_or c.parts-part-items.result.now c.loop-part.part-index 0)
    last =
        c.last_ladder.ensures.value
        ∙ ap (λ r. ladder_of c.args.e (r + 1, get_or c.parts-part-items.result.now c.loop-part.part-index 0))
        c.loop-part.invariant.at
