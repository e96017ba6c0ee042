-- Row by row the counts are those of the rows so far.
use Rattle.std.proofs.Common.{◌≡◌, ℕ, ◌+◌, ◌<◌, get_or, length, arith, subst, sym, ◌∙◌, ap, refl, take}
use Rattle.std.proofs.lemmas.List.{take_all, length-replicate, get_or-replicate}
use Rattle.sp_defs.specs.Node.{nodes, nodes_from}
use Rattle.sp_defs.specs.Ladder.{on_ladder}
use Rattle.sp_partition.specs.Held.{IsHeld}
use Rattle.sp_ladder.proofs.Counts.{row, row_fits, rows_few, counted_row, count_on, row_nodes}
use Rattle.sp_ladder.specs.declared.counting.TheConstants.{LADDERS}
use Rattle.sp_ladder.proofs.counting.nodes_on_ladders.Goals as goal

pub loop-part-init : goal.loop-part-init
unfolding nodes_from
loop-part-init c = record {
  held = subst IsHeld (sym c.parts-part-items.ensures.parts) c.parts-part-items.ensures.held;
  at = refl;
  size = ap length c.no_nodes-counts.ensures ∙ length-replicate {A = ℕ} LADDERS 0;
  counted = λ n lt. ap (λ xs. get_or xs n 0) c.no_nodes-counts.ensures ∙ get_or-replicate LADDERS n 0 0 lt;
}

pub overflow_add-row : goal.overflow_add-row
overflow_add-row c = omega (arith, rows_few _ c.loop-part.invariant.held)

pub count_row-requires-clause-small : goal.count_row-requires-clause-small
count_row-requires-clause-small c =
    row_fits c.args.e _ _ _ c.loop-part.invariant.held c.loop-part-test.true c.loop-part.invariant.at

pub count_row-requires-clause-room : goal.count_row-requires-clause-room
count_row-requires-clause-room c l lt =
    let here = row c.args.e _ _ c.loop-part.invariant.held c.loop-part-test.true in
    omega (arith, here.room l, c.loop-part.invariant.counted l lt)

pub loop-part-preserved : goal.loop-part-preserved
loop-part-preserved c = record {
  held = c.loop-part.invariant.held;
  at = ap (λ n. n + 1) c.loop-part.invariant.at;
  size = c.count_row.auto.counts ∙ c.loop-part.invariant.size;
  counted = λ n lt.
      counted_row c.args.e n c.loop-part.part-index (get_or c.loop-part.counts n 0) (get_or c.count_row.new.counts n 0)
      c.parts-part-items.result.now c.loop-part-test.true (c.loop-part.invariant.counted n lt)
      (subst (λ r. get_or c.count_row.new.counts n 0 ≡ get_or c.loop-part.counts n 0
      + count_on c.args.e n (row_nodes (r + 1) (get_or c.parts-part-items.result.now c.loop-part.part-index 0)))
      c.loop-part.invariant.at (c.count_row.ensures n lt));
}

pub returns-clause-counts : goal.returns-clause-counts
unfolding on_ladder
returns-clause-counts c = λ l lt.
    let all : take c.loop-part.part-index c.parts-part-items.result.now ≡ c.args.mu.now =
    take_all c.loop-part.part-index c.parts-part-items.result.now c.loop-part-test.false
    ∙ c.parts-part-items.ensures.parts in
    c.loop-part.invariant.counted l lt ∙ ap (λ parts. count_on c.args.e l (nodes parts)) all
