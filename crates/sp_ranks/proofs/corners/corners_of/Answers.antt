use Rattle.std.proofs.Common.{arith}
use Rattle.sp_ranks.proofs.CornerLists.{one_row, all_rows}
use Rattle.sp_ranks.proofs.corners.corners_of.Goals as goal

pub loop-row-preserved : goal.loop-row-preserved
loop-row-preserved c =
    one_row c.args.e c.args.p.now c.loop-row.row c.loop-row.corners.items c.push_removable.new.corners.items
    c.push_addable.new.corners.items (omega arith) c.loop-row.invariant c.in_ok-push_removable.ensures.marks
    c.in_ok-push_addable.ensures.marks
    (c.in_ok-push_addable.ensures.residues (c.in_ok-push_removable.ensures.residues c.loop-row.invariant.residues))

pub returns : goal.returns
returns c =
    all_rows c.args.e c.args.p.now c.loop-row.row c.loop-row.corners.items (omega arith) c.loop-row.invariant
