-- The sum of the parts passed so far.
use Rattle.std.proofs.Common.{◌≡◌, ◌≤◌, sum, take}
use Rattle.sp_partition.proofs.partition.small_sum.Given as goal

abbrev pub invariant-loop-part : goal.invariant-loop-part
invariant-loop-part l = (l.sum ≡ sum (take l.part-index l.parts)) × (l.sum ≤ 32)
