use Rattle.std.proofs.Common.{arith}
use Rattle.sp_cert.proofs.Advancing.{not_whole, whole_certificate}
use Rattle.sp_cert.proofs.draft.Draft.whole.Goals as goal

pub returns-then-self-len : goal.returns-then-self-len
returns-then-self-len c = not_whole c.args.self (omega (arith, c.if-self-len.true, c.len.ensures))

pub of-requires : goal.of-requires
of-requires c =
    whole_certificate c.args.self c.in_ok-columns.columns.items c.requires
    (omega (arith, c.if-self-len.false, c.len.ensures)) c.in_ok-columns.ensures
