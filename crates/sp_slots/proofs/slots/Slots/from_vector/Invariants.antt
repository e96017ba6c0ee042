use Rattle.sp_slots.proofs.Opening.{IsOpened}
use Rattle.sp_slots.proofs.slots.Slots.from_vector.Given as goal

abbrev pub invariant-loop-p : goal.invariant-loop-p
invariant-loop-p l = IsOpened l.v l.all l.p-index l.place l.slots.items
