use Rattle.sp_nodes.specs.Filling.{number_at}
use Rattle.sp_nodes.specs.Texts.{row_line}
use Rattle.sp_nodes.proofs.Lines.{Written}
use Rattle.sp_nodes.proofs.texts.put_rows.Given as goal

abbrev pub invariant-loop-row : goal.invariant-loop-row
invariant-loop-row l = Written l.fn.out.items (row_line (number_at l.filling l.p) l.p) l.out.items l.row
