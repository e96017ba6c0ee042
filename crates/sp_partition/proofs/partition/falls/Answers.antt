use Rattle.std.proofs.Common.{refl}
use Rattle.sp_partition.proofs.Falling.{falls_whole}
use Rattle.sp_partition.proofs.partition.falls.Goals as goal

pub returns : goal.returns
returns c = (
  (λ _. falls_whole c.loop-part.most c.loop-part.part-index c.args.parts.now
      c.loop-part-test.false c.loop-part.invariant.so_far),
  λ _. refl,
)
