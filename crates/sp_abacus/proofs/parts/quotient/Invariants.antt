use Rattle.std.proofs.Common.{◌≡◌, map, length}
use Rattle.std.specs.List.{range_with_len}
use Rattle.sp_defs.specs.Abacus.{beta, runner, shown}
use Rattle.sp_abacus.proofs.parts.quotient.Given as goal

abbrev pub invariant-loop-i : goal.invariant-loop-i
invariant-loop-i l = record {
  is : l.found.items ≡ map (λ i. shown (runner l.e (beta l.e l.p) i)) (range_with_len 0 l.i);
  len : length l.found.items ≡ l.i;
}
