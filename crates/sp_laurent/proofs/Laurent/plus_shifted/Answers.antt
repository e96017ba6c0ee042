use Rattle.std.proofs.Common.{sym, subst, to_z-of_z}
use Rattle.sp_defs.specs.Laurent.{power}
use Rattle.sp_defs.specs.Within.{ProductWithin}
use Rattle.sp_laurent.proofs.Laurent.plus_shifted.Goals as goal

pub returns-clause-powers : goal.returns-clause-powers
returns-clause-powers c d old product =
    c.in_ok-plus_shifted_within.ensures.powers d old
    (subst (λ k. ProductWithin d (power k) c.args.other.now) (sym (to_z-of_z c.ranges.power)) product)
