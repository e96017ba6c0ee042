use Rattle.sp_replies.proofs.DominanceTest.{dominance_meant, dominance_tested}
use Rattle.sp_replies.proofs.orders.dominance_law.Goals as goal

pub returns : goal.returns
returns c = λ upper lower one_degree.
    (dominance_meant upper lower one_degree, dominance_tested upper lower)
