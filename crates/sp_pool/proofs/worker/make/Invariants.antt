use Rattle.std.proofs.Common.{◌≡◌, ◌≤◌}
use Rattle.sp_cells.specs.Known.{IsOf}
use Rattle.sp_pool.proofs.worker.make.Given as goal

abbrev pub invariant-loop-j : goal.invariant-loop-j
invariant-loop-j g l = record {
  key : l.builder.key ≡ l.ctx;
  rank : l.builder.rank ≡ l.k;
  last : l.builder.reached ≤ l.claim.last;
  row : l.claim.row ≡ l.k;
  of : IsOf l.cells l.pass;
}

abbrev pub decreases-loop-j : goal.decreases-loop-j
decreases-loop-j g l = l.builder.reached
