use Rattle.std.proofs.Common.{sym}
use Rattle.sp_nodes.specs.Nodes.{pair}
use Rattle.sp_nodes.proofs.RowMarks.{lost_mark}
use Rattle.sp_nodes.proofs.corners.mark_in_row.Goals as goal

pub returns-in-Some : goal.returns-in-Some
returns-in-Some c =
    sym (lost_mark c.args.e c.args.i c.args.p.now c.args.row (pair c.in-Some.node) c.requires.e_least c.in-Some.ensures)
