use Rattle.sp_good.proofs.Passes.{Ascends}
use Rattle.sp_good.proofs.signature.highest_addable_left.Given as goal

abbrev pub invariant-loop-mark : goal.invariant-loop-mark
invariant-loop-mark l = Ascends l.marks l.mark-iterator.iter.rest.now l.highest l.unpaired
