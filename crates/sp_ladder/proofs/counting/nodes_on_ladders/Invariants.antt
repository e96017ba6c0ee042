use Rattle.std.proofs.Common.{◌≡◌, ℕ, ◌<◌, get_or, length, take}
use Rattle.sp_defs.specs.Node.{nodes}
use Rattle.sp_partition.specs.Held.{IsHeld}
use Rattle.sp_ladder.specs.declared.counting.TheConstants.{LADDERS}
use Rattle.sp_ladder.proofs.Counts.{count_on}
use Rattle.sp_ladder.proofs.counting.nodes_on_ladders.Given as goal

abbrev pub invariant-loop-part : goal.invariant-loop-part
invariant-loop-part l = record {
  held : IsHeld l.part-items;
  at : l.row ≡ l.part-index;
  size : length l.counts ≡ LADDERS;
  counted : (n : ℕ) → n < LADDERS → get_or l.counts n 0 ≡ count_on l.e n (nodes (take l.part-index l.part-items));
}
