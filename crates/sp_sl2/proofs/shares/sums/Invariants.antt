-- The entries so far and those to come are all, and the sizes so far are within the limit.
use Rattle.std.proofs.Common.{◌≡◌, ◌≤◌, ◌++◌, drop}
use Rattle.std.specs.List.{AllByRecursion}
use Rattle.sp_defs.specs.Power.{vector_of}
use Rattle.sp_fock.specs.Held.{ArePairs}
use Rattle.sp_sl2_law.specs.Restriction.{restricted_size}
use Rattle.sp_sl2.specs.Targets.{restricted_entries}
use Rattle.sp_sl2.proofs.shares.sums.Given as goal

abbrev pub invariant-loop-target : goal.invariant-loop-target
invariant-loop-target l = record {
  told : l.sums.items ++ restricted_entries l.e l.i (vector_of l.v.entries) (drop l.target-index l.targets) ≡
      restricted_entries l.e l.i (vector_of l.v.entries) l.targets;
  pairs : ArePairs l.sums.items;
  fits : AllByRecursion (λ mu. restricted_size l.e l.i (vector_of l.v.entries) mu ≤ l.limit)
      (drop l.target-index l.targets) →
      AllByRecursion (λ mu. restricted_size l.e l.i (vector_of l.v.entries) mu ≤ l.limit) l.targets;
}
