use Rattle.std.proofs.Common.{◌≡◌, take}
use Rattle.sp_jantzen.proofs.numbers.moved.Given as goal

abbrev pub invariant-loop-number : goal.invariant-loop-number
invariant-loop-number l = l.after.items ≡ take l.number-index l.numbers
