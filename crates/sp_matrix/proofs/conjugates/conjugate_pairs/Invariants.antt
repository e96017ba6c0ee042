use Rattle.std.proofs.Common.{◌≡◌, map, take}
use Rattle.sp_matrix.specs.Conjugates.{conjugate_entry}
use Rattle.sp_matrix.proofs.conjugates.conjugate_pairs.Given as goal

abbrev pub invariant-loop-pair : goal.invariant-loop-pair
invariant-loop-pair l = l.turned.items ≡ map conjugate_entry (take l.pair-index l.pairs)
