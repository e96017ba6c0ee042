use Rattle.std.proofs.Common.{◌≡◌, length}
use Rattle.sp_pool.proofs.alone.entry_from.Given as goal

abbrev pub invariant-loop-j : goal.invariant-loop-j
invariant-loop-j l = record {
  key : l.builder.key ≡ l.ctx;
  rank : l.builder.rank ≡ l.k;
  count : length l.rows ≡ l.k;
}

abbrev pub decreases-loop-j : goal.decreases-loop-j
decreases-loop-j l = l.builder.reached
