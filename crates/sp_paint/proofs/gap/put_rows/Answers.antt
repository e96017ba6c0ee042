use Rattle.sp_partition.proofs.Kept.{kept_more}
use Rattle.sp_paint.specs.Page.{gap_row_text}
use Rattle.sp_paint.proofs.Joining.{written_item}
use Rattle.sp_paint.proofs.Rows.{row_at, within}
use Rattle.sp_paint.proofs.gap.put_rows.Goals as goal

pub loop-place-preserved : goal.loop-place-preserved
loop-place-preserved c = record {
  text =
      written_item gap_row_text c.args.grid.now.cells c.loop-place.place _ _ _ _
      (within _ c.lines-lines.ensures.grid _ c.lines-lines.ensures.value _ c.loop-place-test.true)
      (row_at _ c.lines-lines.ensures.grid _ c.lines-lines.ensures.value _ _ c.loop-place-test.true c.row.ensures.value)
      c.loop-place.invariant.text c.in_ok-put_next_row.ensures.text;
  kept = kept_more _ _ _ _ c.loop-place.invariant.kept c.in_ok-put_next_row.ensures.text;
}
