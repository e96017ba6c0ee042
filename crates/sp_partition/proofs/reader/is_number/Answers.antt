use Rattle.std.proofs.Common.{◌<◌, ◌≢◌, length, slice_index, refl, arith}
use Rattle.std.proofs.lemmas.Bool.Decides.{nat_tests}
use Rattle.std.proofs.lemmas.Grind.{common_steps}
use Rattle.std.proofs.lemmas.Str.Parse.{digit_at}
use Rattle.sp_partition.proofs.Numbers.{all_digits}
use Rattle.sp_partition.proofs.reader.is_number.Goals as goal

pub returns-then-text-ne48 : goal.returns-then-text-ne48
returns-then-text-ne48 c =
    let some : 0 < length c.args.text.now = grind (arith, common_steps) in
    let first : slice_index c.args.text.now 0 ≢ 48 = grind (arith, nat_tests) in (
      (λ t. record {
        digits =
            (some, all_digits c.args.text.now (c.are_digits.ensures.0 t));
        first = first;
        value = refl;
      }),
      λ h. c.are_digits.ensures.1 (λ k lt. digit_at c.args.text.now k h.digits.1 lt),
    )
