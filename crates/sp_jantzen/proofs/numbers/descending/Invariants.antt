use Rattle.std.proofs.Common.{◌≡◌, ◌++◌}
use Rattle.sp_module_defs.specs.Jantzen.{descending}
use Rattle.sp_jantzen.proofs.Sorted.{found_below}
use Rattle.sp_jantzen.proofs.numbers.descending.Given as goal

abbrev pub invariant-loop-number : goal.invariant-loop-number
invariant-loop-number l = l.found.items ++ found_below l.numbers l.number ≡ descending l.numbers
