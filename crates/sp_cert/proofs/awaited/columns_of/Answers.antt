use Rattle.sp_cert.proofs.Heading.{columns_more}
use Rattle.sp_cert.proofs.awaited.columns_of.Goals as goal

pub loop-mu-preserved : goal.loop-mu-preserved
loop-mu-preserved c =
    columns_more c.args.regulars.now c.loop-mu.mu-index c.mu-item.result c.loop-mu.heads.items c.push.new.self.items
    c.loop-mu-test.true c.mu-item.is c.loop-mu.invariant c.in_ok-push.ensures.items
