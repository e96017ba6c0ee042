use Rattle.std.proofs.Common.{take}
use Rattle.sp_defs.specs.Within.{PowersWithin}
use Rattle.sp_inverse.proofs.powers.is_within.Given as goal

abbrev pub invariant-loop-term : goal.invariant-loop-term
invariant-loop-term l = PowersWithin l.most (take l.term-index l.p)
