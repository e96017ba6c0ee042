use Rattle.sp_defs.specs.Partition.{partitions}
use Rattle.sp_defs.specs.Power.{vector_of}
use Rattle.sp_llt.specs.Places.{partitions_at}
use Rattle.sp_llt.specs.Search.{NoLift}
use Rattle.sp_llt.proofs.search.next_share.Given as goal

abbrev pub invariant-loop-rank : goal.invariant-loop-rank
invariant-loop-rank l =
    NoLift (vector_of l.slots.vector.entries) (partitions_at (partitions l.slots.vector.degree) l.places) l.rank l.end
