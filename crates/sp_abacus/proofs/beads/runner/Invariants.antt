use Rattle.std.proofs.Common.{take}
use Rattle.sp_abacus.proofs.Walks.{Found}
use Rattle.sp_abacus.proofs.beads.runner.Given as goal

abbrev pub invariant-loop-number : goal.invariant-loop-number
invariant-loop-number l = Found l.e l.i l.places.items (take l.number-index l.numbers)
