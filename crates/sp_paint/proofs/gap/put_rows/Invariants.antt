use Rattle.std.proofs.Common.{◌≡◌, ◌++◌, map, take, length, codes}
use Rattle.sp_defs.specs.Text.{joined_by}
use Rattle.sp_paint.specs.Page.{gap_row_text}
use Rattle.sp_paint.proofs.gap.put_rows.Given as goal

abbrev pub invariant-loop-place : goal.invariant-loop-place
invariant-loop-place l = record {
  text : l.out.items ≡ l.fn.out.items ++ joined_by (codes ",") (map gap_row_text (take l.place l.grid.cells));
  kept : take (length l.fn.out.items) l.out.items ≡ l.fn.out.items;
}
