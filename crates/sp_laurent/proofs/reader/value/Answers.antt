use Rattle.std.proofs.Common.{◌∙◌}
use Rattle.sp_laurent.proofs.Fronts.{value_next}
use Rattle.sp_laurent.proofs.reader.value.Goals as goal

pub loop-digit-preserved : goal.loop-digit-preserved
loop-digit-preserved c =
    value_next c.args.digits.now c.loop-digit.digit-index c.loop-digit.value c.saturating_mul.result c.from-unit.result
    c.saturating_add-value.result c.loop-digit-test.true c.loop-digit.invariant
    (c.from-unit.ensures ∙ c.saturating_sub.ensures) c.saturating_mul.ensures c.saturating_add-value.ensures
