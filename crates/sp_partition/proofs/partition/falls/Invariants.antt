-- The parts passed so far fall, and `most` is the last of them.
use Rattle.std.proofs.Common.{◌≡◌}
use Rattle.sp_partition.proofs.Falling.{FallsTo}
use Rattle.std.proofs.Common.{◌≡◌}
use Rattle.sp_partition.proofs.partition.falls.Given as goal

abbrev pub invariant-loop-part : goal.invariant-loop-part
invariant-loop-part l = record { so_far : FallsTo l.most l.part-index l.parts; first : l.part-index ≡ 0 → l.most ≡ 255 }
