use Rattle.std.proofs.Common.{arith, ap, length}
use Rattle.sp_laurent.proofs.Reading.{rest_shorter}
use Rattle.sp_laurent.proofs.reader.read_term.Goals as goal

pub returns-else-rest-text-clause-reads : goal.returns-else-rest-text-clause-reads
returns-else-rest-text-clause-reads c t rest h =
    let sign = c.read_sign-negative.ensures t rest h in
    let found = c.in_ok-term.ensures.reads t rest h.small h.signed sign.0 sign.1 in
    absurd (omega (arith, c.if-rest-text.false, ap length found.1, rest_shorter t rest c.args.text.now h))
