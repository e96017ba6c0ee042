use Rattle.sp_partition.proofs.Kept.{kept_more}
use Rattle.sp_paint.specs.Page.{tex_row_text}
use Rattle.sp_paint.proofs.Rows.{written_row, written_rows}
use Rattle.sp_paint.proofs.tex.put_rows.Goals as goal

pub loop-place-preserved : goal.loop-place-preserved
loop-place-preserved c = record {
  text =
      written_row c.args.grid.now c.lines-lines.ensures.grid _ c.lines-lines.ensures.value c.loop-place.place
      tex_row_text _ _ c.loop-place.invariant.text _ _ _ c.loop-place-test.true c.index-lines-place.is
      c.row.ensures.value c.in_ok-put_row.ensures.text;
  kept = kept_more _ _ _ _ c.loop-place.invariant.kept c.in_ok-put_row.ensures.text;
}

pub returns-clause-text : goal.returns-clause-text
returns-clause-text c =
    written_rows c.args.grid.now c.lines-lines.ensures.grid _ c.lines-lines.ensures.value c.loop-place.place
    tex_row_text _ _ c.loop-place.invariant.text c.loop-place-test.false
