use Rattle.sp_nodes.specs.Filling.{number_at}
use Rattle.sp_nodes.proofs.Lines.{Written, cell_text}
use Rattle.sp_nodes.proofs.texts.put_line.Given as goal

abbrev pub invariant-loop-column : goal.invariant-loop-column
invariant-loop-column l = Written l.fn.out.items (cell_text (number_at l.filling l.p) l.row) l.out.items l.column
