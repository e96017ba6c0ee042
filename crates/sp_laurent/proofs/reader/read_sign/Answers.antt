use Rattle.std.proofs.Common.{sym}
use Rattle.sp_laurent.proofs.Reading.{sign_plus, sign_other}
use Rattle.sp_laurent.proofs.reader.read_sign.Goals as goal

pub returns-in-Some : goal.returns-in-Some
returns-in-Some c t rest h = sign_plus t rest c.args.text.now c.in-Some.rest.now h (sym c.in-Some.ensures)

pub returns-in-None : goal.returns-in-None
returns-in-None c t rest h =
    sign_other t rest c.args.text.now c.read_minus.result.1.now c.read_minus.result.0 h (sym c.in-None.ensures)
    (record { minus = c.read_minus.ensures.minus; none = c.read_minus.ensures.none })
