use Rattle.std.proofs.Common.{◌<◌, ◌^◌, sym, ◌∙◌, ap, subst}
use Rattle.std.specs.Str.Parse.{AllDigits, digits_value}
use Rattle.std.specs.Fmt.{decimal}
use Rattle.sp_laurent.proofs.Fronts.{splits_digits, numeral}
use Rattle.sp_laurent.proofs.reader.read_number.Goals as goal

pub returns : goal.returns
returns c n rest small plain is =
    let own = numeral n small in
    let split = splits_digits c.args.text.now (decimal n) rest c.digits_end.result own.0.1 plain is
    c.digits_end.ensures in
    let digits = c.split_at.ensures.front ∙ split.front in (
      c.value.ensures (subst (AllDigits 10) (sym digits) own.0.1)
          (subst (λ m. m < 2 ^ 128) (sym (ap (digits_value 10) digits ∙ own.1)) small)
          ∙ ap (digits_value 10) digits
          ∙ own.1,
      c.split_at.ensures.back ∙ split.back,
    )
