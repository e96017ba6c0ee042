use Rattle.std.proofs.Common.{◌≡◌, map, take}
use Rattle.std.specs.List.{AllByRecursion}
use Rattle.sp_defs.specs.Partition.{conjugate}
use Rattle.sp_module_defs.specs.Cells.{place}
use Rattle.sp_matrix.proofs.conjugates.placed_conjugates.Given as goal

abbrev pub invariant-loop-place : goal.invariant-loop-place
invariant-loop-place l = record {
  partitions : map (λ t. t.0) l.turned.items ≡ map conjugate (take l.place l.heading);
  places : AllByRecursion (λ t. t.1 ≡ place l.heading (conjugate t.0)) l.turned.items;
}
