use Rattle.std.proofs.Common.{◌≡◌, ◌*◌, ◌≤◌, take, sum_by}
use Rattle.std.specs.List.{AllByRecursion}
use Rattle.sp_defs.specs.Partition.{degree}
use Rattle.sp_partition.specs.Held.{IsHeld}
use Rattle.sp_abacus.proofs.combining.total_degree.Given as goal

abbrev pub invariant-loop-partition : goal.invariant-loop-partition
invariant-loop-partition l = record {
  is : l.total ≡ sum_by degree (take l.partition-index l.partitions);
  small : l.total ≤ 32 * l.partition-index;
  held : AllByRecursion IsHeld (take l.partition-index l.partitions);
}
