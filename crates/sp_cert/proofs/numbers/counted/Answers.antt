use Rattle.std.proofs.lemmas.Str.Parse.{digit_at}
use Rattle.sp_partition.proofs.Numbers.{next_value}
use Rattle.sp_partition.proofs.Numbers.{number_digits}
use Rattle.sp_cert.proofs.numbers.counted.Goals as goal

pub overflow_sub-digit : goal.overflow_sub-digit
overflow_sub-digit c =
    (digit_at c.args.digits.now c.loop-digit.digit-index (number_digits c.args.digits.now c.requires)
    c.loop-digit-test.true).0

pub loop-digit-preserved : goal.loop-digit-preserved
loop-digit-preserved c =
    next_value c.args.digits.now c.loop-digit.digit-index c.loop-digit.value _ _
    (number_digits c.args.digits.now c.requires) c.loop-digit-test.true
    c.loop-digit.invariant c.saturating_mul.ensures c.saturating_add-value.ensures
