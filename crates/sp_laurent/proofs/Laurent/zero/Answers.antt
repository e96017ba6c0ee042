use Rattle.std.proofs.Common.{sym, subst}
use Rattle.sp_laurent.specs.Held.{IsHeld}
use Rattle.sp_laurent.proofs.Held.{held_nought}
use Rattle.sp_laurent.proofs.Laurent.zero.Goals as goal

pub invariant_of-result : goal.invariant_of-result
invariant_of-result c = subst IsHeld (sym c.new.ensures.items) held_nought
