use Rattle.std.proofs.Common.{◌≡◌, take}
use Rattle.sp_defs.specs.Laurent.{value_at_one}
use Rattle.sp_laurent.proofs.Laurent.at_one.Given as goal

abbrev pub invariant-loop-term : goal.invariant-loop-term
invariant-loop-term l = l.sum ≡ value_at_one (take l.term-index l.term-items)
