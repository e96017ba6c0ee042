use Rattle.std.proofs.Common.{◌≡◌, ◌++◌, take, drop, length, flat_map}
use Rattle.sp_paint.specs.Page.{plain_column_text}
use Rattle.sp_paint.proofs.plain.put_columns.Given as goal

abbrev pub invariant-loop-column : goal.invariant-loop-column
invariant-loop-column l = record {
  text :
      l.out.items ++ flat_map plain_column_text (drop l.column-index l.columns)
      ≡ l.fn.out.items ++ flat_map plain_column_text l.columns;
  kept : take (length l.fn.out.items) l.out.items ≡ l.fn.out.items;
}
