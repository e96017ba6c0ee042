use Rattle.std.proofs.Common.{◌≡◌}
use Rattle.sp_cells.specs.Known.{IsOf}
use Rattle.sp_pool.specs.Blocks.{IsAtLeastAt}
use Rattle.sp_pool.proofs.block_worker.make.Given as goal

abbrev pub invariant-loop-j : goal.invariant-loop-j
invariant-loop-j g l = record {
  key : l.builder.key ≡ l.ctx;
  rank : l.builder.rank ≡ l.rank;
  last : IsAtLeastAt l.table.ranks.items l.claim.last l.builder.reached;
  of : IsOf l.table.cells l.pass;
}

abbrev pub decreases-loop-j : goal.decreases-loop-j
decreases-loop-j g l = l.builder.reached
