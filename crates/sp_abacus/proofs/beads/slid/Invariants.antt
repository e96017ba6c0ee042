use Rattle.std.proofs.Common.{◌≡◌, ◌++◌}
use Rattle.sp_defs.specs.Abacus.{slid}
use Rattle.sp_abacus.proofs.Walks.{below_heights}
use Rattle.sp_abacus.proofs.beads.slid.Given as goal

abbrev pub invariant-loop-number : goal.invariant-loop-number
invariant-loop-number l = l.found.items ++ below_heights l.e l.heights l.number ≡ slid l.e l.p
