use Rattle.std.proofs.Common.{◌≡◌, ◌+◌, ◌-◌, ◌^◌, take}
use Rattle.sp_defs.specs.Laurent.{size}
use Rattle.sp_laurent.proofs.parsing.is_small.Given as goal

abbrev pub invariant-loop-power : goal.invariant-loop-power
invariant-loop-power l = l.room + size (take l._power-index l.terms) ≡ 2 ^ 127 - 1
