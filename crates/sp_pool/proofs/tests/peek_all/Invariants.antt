use Rattle.sp_cells.specs.Known.{IsOf}
use Rattle.sp_pool.proofs.tests.peek_all.Given as goal

abbrev pub invariant-loop : goal.invariant-loop
invariant-loop l = IsOf l.cells l.pass

abbrev pub invariant-loop-k : goal.invariant-loop-k
invariant-loop-k l = IsOf l.cells l.pass
