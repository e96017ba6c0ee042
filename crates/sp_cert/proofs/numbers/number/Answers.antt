use Rattle.std.proofs.Common.{ap, ◌∙◌, sym}
use Rattle.std.specs.Prelude.{Some}
use Rattle.sp_cert.proofs.Counting.{number-yes, number-none}
use Rattle.sp_cert.proofs.numbers.number.Goals as goal

pub returns-then-is_number : goal.returns-then-is_number
returns-then-is_number c =
    ap Some c.counted.ensures ∙ number-yes c.args.word.now (sym c.is_number.ensures ∙ c.if-is_number.true)

pub returns-else-is_number : goal.returns-else-is_number
returns-else-is_number c = number-none c.args.word.now (sym c.is_number.ensures ∙ c.if-is_number.false)
