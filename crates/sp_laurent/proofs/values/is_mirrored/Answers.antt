use Rattle.std.proofs.Common.{refl, arith, length}
use Rattle.sp_laurent.proofs.Symmetry.{matched_all, half_up}
use Rattle.sp_laurent.proofs.values.is_mirrored.Goals as goal

pub returns : goal.returns
returns c = (
  (λ _. matched_all c.args.terms.now c.loop-place.place
      (omega (arith, half_up (length c.args.terms.now), c.div_ceil-place-end.ensures, c.loop-place-test.false))
      c.loop-place.invariant),
  (λ _. refl),
)
