use Rattle.std.proofs.Common.{◌≡◌, ◌^◌, ◌<◌, take}
use Rattle.std.specs.Str.Parse.{AllDigits, digits_value}
use Rattle.sp_laurent.proofs.reader.value.Given as goal

abbrev pub invariant-loop-digit : goal.invariant-loop-digit
invariant-loop-digit l =
    AllDigits 10 l.digits → digits_value 10 (take l.digit-index l.digits) < 2 ^ 128 →
    l.value ≡ digits_value 10 (take l.digit-index l.digits)
