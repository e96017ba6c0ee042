use Rattle.std.proofs.Common.{◌≡◌, map, take, neg_ℤ}
use Rattle.sp_laurent.proofs.mirror.negated.Given as goal

abbrev pub invariant-loop-power : goal.invariant-loop-power
invariant-loop-power l = l.negated.items ≡ map (λ t. (t.0, neg_ℤ t.1)) (take l.power-index l.terms)
