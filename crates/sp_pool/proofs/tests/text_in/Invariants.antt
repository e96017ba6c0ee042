use Rattle.sp_cells.specs.Known.{IsOf}
use Rattle.sp_pool.proofs.tests.text_in.Given as goal

abbrev pub invariant-loop-k : goal.invariant-loop-k
invariant-loop-k l = IsOf l.cells l.pass
