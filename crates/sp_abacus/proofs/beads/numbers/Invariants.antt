use Rattle.std.proofs.Common.{◌≡◌, ◌+◌, ◌-◌, map, length}
use Rattle.std.specs.List.{range_with_len}
use Rattle.sp_defs.specs.Partition.{part}
use Rattle.sp_abacus.proofs.beads.numbers.Given as goal

abbrev pub invariant-loop-row : goal.invariant-loop-row
invariant-loop-row l = record {
  is : l.numbers.items ≡ map (λ a. part l.p a + l.count - a) (range_with_len 1 (l.row - 1));
  len : length l.numbers.items + 1 ≡ l.row;
}
