use Rattle.std.proofs.Common.{arith}
use Rattle.sp_ranks.proofs.CornerLists.{room_for}
use Rattle.sp_ranks.proofs.corners.marks_among.Goals as goal

pub push-requires : goal.push-requires
push-requires c = (
  omega arith,
  room_for c.args.i c.args.corners.now c.loop-corner.found.items c.loop-corner.corner-index _ c.loop-corner.invariant
      c.loop-corner-test.true c.if-corner-i.true c.requires,
)
