use Rattle.sp_llt.proofs.Places.{AreFound}
use Rattle.sp_llt.proofs.ctx.regulars_among.Given as goal

abbrev pub invariant-loop-place : goal.invariant-loop-place
invariant-loop-place l = AreFound l.e l.all l.place l.regulars.items l.places.items
