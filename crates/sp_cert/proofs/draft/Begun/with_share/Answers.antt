use Rattle.sp_cert.proofs.Growing.{share_pushed}
use Rattle.sp_cert.proofs.draft.Begun.with_share.Goals as goal

pub returns-clause-begun : goal.returns-clause-begun
returns-clause-begun c =
    share_pushed c.args.header.now c.args.self c.push.new.self c.args.nu.now c.args.alpha c.in-Some.rank
    c.in_ok-push.ensures.items c.in-Some.ensures.1 c.requires.header c.requires.begun c.in-Some.ensures.0
    c.requires.partition c.requires.nonzero c.requires.readable
