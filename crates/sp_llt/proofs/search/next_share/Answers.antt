use Rattle.std.proofs.Common.{◌≡◌, ◌-◌, ap, arith, Err}
use Rattle.sp_laurent.specs.declared.fault.LaurentFault.TheVariants.{TooLarge}
use Rattle.sp_llt.proofs.search.next_share.Goals as goal

pub returns-in-Err-clause-too_large : goal.returns-in-Err-clause-too_large
returns-in-Err-clause-too_large c large = (
  c.loop-rank.rank - 1,
  record {
    below = omega arith;
    large = let is : c.in-Err.fault ≡ TooLarge = cc in c.in-Err.ensures.too_large (ap Err is);
    others = λ i lo hi. c.loop-rank.invariant i (omega (arith, lo)) hi;
  },
)
