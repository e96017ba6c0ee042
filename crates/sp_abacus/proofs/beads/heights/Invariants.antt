use Rattle.std.proofs.Common.{take}
use Rattle.sp_abacus.proofs.Walks.{Counted}
use Rattle.sp_abacus.proofs.beads.heights.Given as goal

abbrev pub invariant-loop-number : goal.invariant-loop-number
invariant-loop-number l = Counted l.e l.counts (take l.number-index l.numbers)
