use Rattle.std.proofs.Common.{◌≡◌, length}
use Rattle.sp_llt.specs.Table.{IsTable}
use Rattle.sp_llt.proofs.alone.+fill.Given as goal

abbrev pub decreases-fill : goal.decreases-fill
decreases-fill l = l.k

abbrev pub invariant-loop-j : goal.invariant-loop-j
invariant-loop-j l = record {
  key : l.builder.key ≡ l.ctx;
  rank : l.builder.rank ≡ l.k;
  room : length l.table.items ≡ length l.initial.table.items;
  table : IsTable l.ctx l.table.items;
}

abbrev pub decreases-loop-j : goal.decreases-loop-j
decreases-loop-j l = l.builder.reached
