use Rattle.std.proofs.Common.{drop}
use Rattle.sp_good.proofs.Passes.{Descends}
use Rattle.sp_good.proofs.signature.removable_left.Given as goal

abbrev pub invariant-loop-mark : goal.invariant-loop-mark
invariant-loop-mark l = Descends l.marks (drop l.mark-index l.marks) l.left.items l.unpaired l.mark-index
