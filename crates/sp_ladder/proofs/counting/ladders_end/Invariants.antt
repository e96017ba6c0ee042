use Rattle.std.proofs.Common.{◌≡◌, ◌<◌, take}
use Rattle.sp_defs.specs.Node.{nodes}
use Rattle.sp_partition.specs.Held.{IsHeld}
use Rattle.sp_ladder.specs.declared.counting.TheConstants.{LADDERS}
use Rattle.sp_ladder.proofs.Counts.{greatest_ladder}
use Rattle.sp_ladder.proofs.counting.ladders_end.Given as goal

abbrev pub invariant-loop-part : goal.invariant-loop-part
invariant-loop-part l = record {
  held : IsHeld l.part-items;
  at : l.row ≡ l.part-index;
  greatest : l.end ≡ greatest_ladder l.e 0 (nodes (take l.part-index l.part-items));
  small : l.end < LADDERS;
}
