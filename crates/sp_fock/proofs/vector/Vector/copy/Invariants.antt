use Rattle.std.proofs.Common.{◌≡◌, take}
use Rattle.sp_fock.proofs.vector.Vector.copy.Given as goal

abbrev pub invariant-loop-pair : goal.invariant-loop-pair
invariant-loop-pair l = l.pairs.items ≡ take l.pair-index l.self-inside.pairs.items
