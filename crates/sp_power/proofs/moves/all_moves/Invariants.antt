-- What was found, and what the pairs that are left will bring.
use Rattle.std.proofs.Common.{◌≡◌, ◌++◌, drop}
use Rattle.sp_power_law.specs.Runs.{arrivals}
use Rattle.sp_power.proofs.moves.all_moves.Given as goal

abbrev pub invariant-loop-source : goal.invariant-loop-source
invariant-loop-source l =
    l.found.items ++ arrivals l.e l.i l.m l.source (drop l.source l.pairs) ≡ arrivals l.e l.i l.m 0 l.pairs
