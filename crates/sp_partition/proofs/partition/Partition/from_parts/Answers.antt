use Rattle.std.proofs.Common.{arith, refl}
use Rattle.sp_shapes.proofs.Degrees.{length-degree}
use Rattle.sp_partition.proofs.partition.Partition.from_parts.Goals as goal

pub padded-requires : goal.padded-requires
padded-requires c = omega (arith, length-degree c.args.parts.now (c.if-not-falls.ensures.0 refl), c.in-Some.ensures)
