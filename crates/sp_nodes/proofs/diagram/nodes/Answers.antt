use Rattle.std.proofs.Common.{arith}
use Rattle.sp_nodes.proofs.NodeLists.{listed_room, listed_row, listed_all}
use Rattle.sp_nodes.proofs.diagram.nodes.Goals as goal

pub push_row-requires-clause-room : goal.push_row-requires-clause-room
push_row-requires-clause-room c =
    omega (
      arith,
      listed_room c.args.p.now c.loop-row.found.items c.loop-row.row c.row_count-row-end.ensures.held
          (omega arith) (omega arith) c.loop-row.invariant,
      c.part.ensures.value,
    )

pub loop-row-preserved : goal.loop-row-preserved
loop-row-preserved c =
    listed_row c.args.p.now c.loop-row.found.items c.push_row.new.found.items c.loop-row.row c.part.result
    (omega arith) (omega arith) c.part.ensures.value c.push_row.ensures.nodes c.push_row.ensures.len
    c.push_row.ensures.places c.loop-row.invariant

pub returns-clause-nodes : goal.returns-clause-nodes
returns-clause-nodes c =
    listed_all c.args.p.now c.loop-row.found.items c.loop-row.row (omega arith) c.loop-row.invariant
