use Rattle.sp_slots.proofs.Opening.{IsOpened}
use Rattle.sp_slots.proofs.slots.Slots.from_ranks.Given as goal

abbrev pub invariant-loop-index : goal.invariant-loop-index
invariant-loop-index l = IsOpened l.v l.all l.index l.place l.slots.items
