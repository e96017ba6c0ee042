use Rattle.std.proofs.Common.{◌≡◌, ◌++◌, length, take}
use Rattle.sp_defs.specs.Text.{partition_text}
use Rattle.sp_partition.specs.Held.{IsHeld}
use Rattle.sp_partition.proofs.Runs.{later_text}
use Rattle.sp_partition.proofs.text.put_parts.Given as goal

abbrev pub invariant-loop-rest : goal.invariant-loop-rest
invariant-loop-rest l = record {
  held : IsHeld l.rest;
  text : l.out.items ++ later_text l.rest ≡ l.fn.out.items ++ partition_text l.parts;
  kept : take (length l.fn.out.items) l.out.items ≡ l.fn.out.items;
}

abbrev pub decreases-loop-rest : goal.decreases-loop-rest
decreases-loop-rest l = length l.rest
