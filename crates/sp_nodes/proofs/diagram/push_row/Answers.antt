use Rattle.std.proofs.Common.{arith}
use Rattle.sp_nodes.specs.Nodes.{IsPlace}
use Rattle.sp_nodes.proofs.NodeLists.{pushed_none, pushed_more}
use Rattle.sp_nodes.proofs.diagram.push_row.Goals as goal

pub loop-column-init : goal.loop-column-init
loop-column-init c = pushed_none c.args.found.now.items c.args.row

pub loop-column-preserved : goal.loop-column-preserved
loop-column-preserved c =
    let place : IsPlace (record { row = c.args.row; column = c.loop-column.column }) =
    record {
      row_least = omega arith;
      row_most = omega arith;
      column_least = omega arith;
      column_most = omega arith;
    } in
    pushed_more c.args.found.now.items c.loop-column.found.items c.push.new.self.items
    c.args.row c.loop-column.column place
    c.push.ensures.items c.loop-column.invariant
