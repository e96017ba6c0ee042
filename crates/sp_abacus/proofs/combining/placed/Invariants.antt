use Rattle.std.proofs.Common.{◌≡◌, ◌++◌}
use Rattle.sp_abacus_law.specs.Combined.{combined_beads}
use Rattle.sp_abacus.proofs.Taking.{taken_below}
use Rattle.sp_abacus.proofs.combining.placed.Given as goal

abbrev pub invariant-loop-number : goal.invariant-loop-number
invariant-loop-number l =
    l.found.items ++ taken_below l.e l.heights l.quotient l.number ≡ combined_beads l.e l.kappa l.quotient
