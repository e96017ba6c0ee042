use Rattle.std.proofs.Common.{take}
use Rattle.sp_llt.specs.Adopting.{IsLeft, factors_at}
use Rattle.sp_llt.specs.Place.{label}
use Rattle.sp_llt.proofs.adopt.slots_left.Given as goal

abbrev pub invariant-loop-place : goal.invariant-loop-place
invariant-loop-place l = IsLeft l.ctx (label l.ctx l.k) (factors_at l.ctx (take l.place l.shares)) l.slots
