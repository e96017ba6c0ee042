use Rattle.std.proofs.Common.{◌≡◌, take}
use Rattle.sp_fock_law.specs.Tally.{constants}
use Rattle.sp_replies.proofs.products.vector_of.Given as goal

abbrev pub invariant-loop-count : goal.invariant-loop-count
invariant-loop-count l = l.pairs.items ≡ constants (take l.count-index l.count-items)
