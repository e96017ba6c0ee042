-- The blocks of the places so far, and where they stand.
use Rattle.std.proofs.Common.{◌≡◌}
use Rattle.sp_blocks.specs.Blocks.{core_at, blocks_below}
use Rattle.sp_blocks.specs.Indexed.{Indexed}
use Rattle.sp_blocks.proofs.grouping.blocks.Given as goal

abbrev pub invariant-loop-rank : goal.invariant-loop-rank
invariant-loop-rank l = record {
  is : l.found.items ≡ blocks_below (core_at l.e l.list) l.rank;
  indexed : Indexed l.places l.found.items;
}
