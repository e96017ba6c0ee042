use Rattle.std.proofs.Common.{◌∙◌, sym}
use Rattle.sp_cert.proofs.Growing.{entry_pushed}
use Rattle.sp_cert.proofs.draft.Begun.with_entry.Goals as goal

pub returns-clause-begun : goal.returns-clause-begun
returns-clause-begun c =
    entry_pushed c.args.header.now c.args.self c.push.new.self c.args.lambda c.args.p c.in_ok-push.ensures.items
    c.requires.header c.requires.begun (sym c.is_next_entry.ensures ∙ c.if-not-is_next_entry.false)
    c.requires.partition c.requires.nonzero c.requires.readable
