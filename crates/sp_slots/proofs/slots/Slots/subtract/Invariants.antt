use Rattle.sp_defs.specs.Laurent.{negate}
use Rattle.sp_slots.proofs.Growing.{IsReached}
use Rattle.sp_slots.proofs.slots.Slots.subtract.Given as goal

abbrev pub invariant-loop-k : goal.invariant-loop-k
invariant-loop-k l =
    IsReached l.degree l.limit (negate l.a) l.w.entries l.initial.slots.items l.slots.items l.k
