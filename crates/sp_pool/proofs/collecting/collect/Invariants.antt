use Rattle.sp_llt.specs.Filled.{HasFirst}
use Rattle.sp_pool.proofs.collecting.collect.Given as goal

abbrev pub invariant-loop-k : goal.invariant-loop-k
invariant-loop-k g l = HasFirst l.ctx l.k l.rows.items
