use Rattle.std.proofs.Common.{◌≡◌, ◌++◌, take, drop, length, flat_map}
use Rattle.sp_paint.specs.Page.{plain_row_text, rows_of}
use Rattle.sp_paint.proofs.plain.put_rows.Given as goal

abbrev pub invariant-loop-place : goal.invariant-loop-place
invariant-loop-place l = record {
  text :
      l.out.items ++ flat_map plain_row_text (drop l.place (rows_of l.grid))
      ≡ l.fn.out.items ++ flat_map plain_row_text (rows_of l.grid);
  kept : take (length l.fn.out.items) l.out.items ≡ l.fn.out.items;
}
