use Rattle.std.proofs.Common.{◌≡◌, replicate, None}
use Rattle.sp_llt.proofs.alone.empty_table.Given as goal

abbrev pub invariant-loop-filled : goal.invariant-loop-filled
invariant-loop-filled l = l.table.items ≡ replicate l.filled None
