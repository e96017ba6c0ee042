use Rattle.std.proofs.Common.{◌≡◌, ◌++◌}
use Rattle.sp_fock.specs.Sum.{AllFit}
use Rattle.sp_fock.specs.Growth.{grown_along, growths_of}
use Rattle.sp_fock_law.specs.Joined.{joined}
use Rattle.sp_fock_law.specs.Tally.{constants}
use Rattle.sp_fock.proofs.totals.grown_totals.Given as goal

abbrev pub invariant-loop-growth : goal.invariant-loop-growth
invariant-loop-growth l =
    (goal.iterator-loop-growth).can_next l.growth-iterator
    × (goal.iterator-loop-growth).is_finite l.growth-iterator
    × AllFit l.factor l.limit (growths_of l.growth-iterator)
    × (l.sums.items ++ grown_along l.factor (growths_of l.growth-iterator) ≡ grown_along l.factor
    (joined (constants l.totals) l.terms))
