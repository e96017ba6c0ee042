use Rattle.std.proofs.Common.{◌∙◌, arith}
use Rattle.sp_defs.specs.Signature.{row_marks}
use Rattle.sp_nodes.specs.Marks.{mark_of}
use Rattle.sp_nodes.proofs.Walks.{walked_row, walked_all}
use Rattle.sp_nodes.proofs.RowMarks.{marks_all}
use Rattle.sp_nodes.proofs.corners.marks.Goals as goal

pub loop-row-preserved : goal.loop-row-preserved
loop-row-preserved c =
    walked_row mark_of (row_marks c.args.e c.args.i c.args.p.now)
    c.loop-row.found.items c.push_if_some.new.found.items c.loop-row.row
    c.mark_in_row.result (omega arith) c.mark_in_row.ensures c.push_if_some.ensures c.loop-row.invariant

pub returns : goal.returns
returns c =
    walked_all mark_of (row_marks c.args.e c.args.i c.args.p.now) c.loop-row.found.items c.loop-row.row _ (omega arith)
    c.loop-row.invariant
    ∙ marks_all c.args.e c.args.i c.args.p.now
