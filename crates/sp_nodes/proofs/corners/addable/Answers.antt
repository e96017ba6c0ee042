use Rattle.std.proofs.Common.{◌∙◌, arith}
use Rattle.sp_nodes.specs.Nodes.{pair}
use Rattle.sp_nodes.specs.Rows.{gained}
use Rattle.sp_nodes.proofs.Walks.{walked_row, walked_all}
use Rattle.sp_nodes.proofs.RowMarks.{gained_all}
use Rattle.sp_nodes.proofs.corners.addable.Goals as goal

pub loop-row-preserved : goal.loop-row-preserved
loop-row-preserved c =
    walked_row pair (gained c.args.e c.args.i c.args.p.now)
    c.loop-row.found.items c.push_if_some.new.found.items c.loop-row.row
    c.addable_in_row.result (omega arith) c.addable_in_row.ensures c.push_if_some.ensures c.loop-row.invariant

pub returns : goal.returns
returns c =
    walked_all pair (gained c.args.e c.args.i c.args.p.now) c.loop-row.found.items c.loop-row.row _ (omega arith)
    c.loop-row.invariant
    ∙ gained_all c.args.e c.args.i c.args.p.now
