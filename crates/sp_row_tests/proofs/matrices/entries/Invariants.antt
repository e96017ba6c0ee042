use Rattle.sp_llt.specs.Filled.{HasFirst}
use Rattle.sp_row_tests.proofs.matrices.entries.Given as goal

abbrev pub invariant-loop-k : goal.invariant-loop-k
invariant-loop-k l = HasFirst l.ctx l.k l.rows.items
