use Rattle.sp_laurent.proofs.Mirroring.{IsTurning}
use Rattle.sp_laurent.proofs.mirror.push_mirrored.Given as goal

abbrev pub invariant-loop-power : goal.invariant-loop-power
invariant-loop-power l = IsTurning l.terms l.initial.out.items l.out.items l.power-iterator.iter.rest.now
