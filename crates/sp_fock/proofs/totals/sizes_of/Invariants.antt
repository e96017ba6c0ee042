use Rattle.std.proofs.Common.{◌≡◌, map, take}
use Rattle.sp_defs.specs.Laurent.{size}
use Rattle.sp_fock.proofs.totals.sizes_of.Given as goal

abbrev pub invariant-loop-term : goal.invariant-loop-term
invariant-loop-term l = l.sizes.items ≡ map (λ t. (t.0, size t.1)) (take l.term-index l.terms)
