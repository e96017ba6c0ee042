use Rattle.std.proofs.Common.{◌≡◌, ◌++◌, take, length, flat_map}
use Rattle.sp_paint.specs.Page.{plain_cell_text}
use Rattle.sp_paint.proofs.plain.put_cells.Given as goal

abbrev pub invariant-loop-cell : goal.invariant-loop-cell
invariant-loop-cell l = record {
  text : l.out.items ++ flat_map plain_cell_text l.cell-iterator
      ≡ l.fn.out.items ++ flat_map plain_cell_text l.fn.cells;
  kept : take (length l.fn.out.items) l.out.items ≡ l.fn.out.items;
}
