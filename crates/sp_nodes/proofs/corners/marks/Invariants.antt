use Rattle.sp_defs.specs.Signature.{row_marks}
use Rattle.sp_nodes.specs.Marks.{mark_of}
use Rattle.sp_nodes.proofs.Walks.{Walked}
use Rattle.sp_nodes.proofs.corners.marks.Given as goal

abbrev pub invariant-loop-row : goal.invariant-loop-row
invariant-loop-row l = Walked mark_of (row_marks l.e l.i l.p) l.found.items l.row
