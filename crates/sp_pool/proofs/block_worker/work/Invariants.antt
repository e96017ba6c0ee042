use Rattle.sp_cells.specs.Known.{IsOf}
use Rattle.sp_pool.proofs.block_worker.work.Given as goal

abbrev pub invariant-loop : goal.invariant-loop
invariant-loop g l = IsOf l.table.cells l.pass
