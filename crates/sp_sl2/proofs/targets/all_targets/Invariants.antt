-- What is found so far, and what the pairs to come bring.
use Rattle.std.proofs.Common.{◌≡◌, ◌++◌, flat_map, drop}
use Rattle.sp_sl2_law.specs.Marks.{shrunken}
use Rattle.sp_sl2.proofs.targets.all_targets.Given as goal

abbrev pub invariant-loop-pair : goal.invariant-loop-pair
invariant-loop-pair l =
    l.found.items ++ flat_map (λ t. shrunken l.e l.i t.0) (drop l.pair-index l.pairs) ≡
    flat_map (λ t. shrunken l.e l.i t.0) l.pairs
