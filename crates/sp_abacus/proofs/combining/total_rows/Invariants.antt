use Rattle.std.proofs.Common.{◌≡◌, ◌*◌, ◌≤◌, take, sum_by, length}
use Rattle.sp_abacus.proofs.combining.total_rows.Given as goal

abbrev pub invariant-loop-partition : goal.invariant-loop-partition
invariant-loop-partition l = record {
  is : l.total ≡ sum_by length (take l.partition-index l.partitions);
  small : l.total ≤ 32 * l.partition-index;
}
