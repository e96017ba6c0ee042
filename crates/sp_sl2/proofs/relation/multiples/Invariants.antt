-- The products so far and those to come are all, and those so far are within the limit.
use Rattle.std.proofs.Common.{◌≡◌, ◌++◌, drop}
use Rattle.std.specs.List.{AllByRecursion}
use Rattle.sp_fock.specs.Held.{ArePairs}
use Rattle.sp_sl2.specs.Multiples.{multiple_entries, MultipleFits}
use Rattle.sp_sl2.proofs.relation.multiples.Given as goal

abbrev pub invariant-loop-pair : goal.invariant-loop-pair
invariant-loop-pair l = record {
  told : l.multiples.items ++ multiple_entries l.e l.i (drop l.pair-index l.pairs) ≡ multiple_entries l.e l.i l.pairs;
  pairs : ArePairs l.multiples.items;
  fits : AllByRecursion (MultipleFits l.e l.i l.limit) (drop l.pair-index l.pairs) →
      AllByRecursion (MultipleFits l.e l.i l.limit) l.pairs;
}
