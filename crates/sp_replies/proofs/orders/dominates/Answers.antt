use Rattle.sp_replies.proofs.DominanceTest.{same_answer}
use Rattle.sp_replies.proofs.orders.dominates.Goals as goal

pub returns-clause-answer : goal.returns-clause-answer
returns-clause-answer c =
    same_answer c.dominates.result c.args.upper.now c.args.lower.now c.requires c.dominates.ensures.sums
