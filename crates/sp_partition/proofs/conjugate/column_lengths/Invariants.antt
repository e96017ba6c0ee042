-- The lengths of the columns passed so far.
use Rattle.std.proofs.Common.{◌≡◌, take, map, length}
use Rattle.sp_defs.specs.Partition.{from_one_to}
use Rattle.sp_shapes.proofs.Columns.{column}
use Rattle.sp_partition.proofs.conjugate.column_lengths.Given as goal

abbrev pub invariant-loop-column : goal.invariant-loop-column
invariant-loop-column l =
    (length l.columns ≡ 32) × (take l.column l.columns ≡ map (column l.parts) (from_one_to l.column))
