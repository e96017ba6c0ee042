use Rattle.std.proofs.Common.{◌≡◌, ◌++◌, length}
use Rattle.sp_fock.specs.Held.{ArePairs}
use Rattle.sp_cartan.specs.Characters.{values_below}
use Rattle.sp_cartan.proofs.characters.values_in.Given as goal

-- The values so far and those to come are all.
abbrev pub invariant-loop-column : goal.invariant-loop-column
invariant-loop-column l = record {
  values : l.values.items ++ values_below l.g l.line l.column ≡ values_below l.g l.line (length l.g.columns);
  held : ArePairs l.values.items;
}
