use Rattle.sp_paint.proofs.PartsWritten.{IsWritten}
use Rattle.sp_paint.proofs.parts.put_partition.Given as goal

abbrev pub invariant-loop-place : goal.invariant-loop-place
invariant-loop-place l = IsWritten l.notation l.parts l.fn.out.items l.out.items l.place
