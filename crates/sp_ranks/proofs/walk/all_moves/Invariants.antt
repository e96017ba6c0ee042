-- What was found leads to partitions; and with what the places that are left will bring it is all moves.
use Rattle.std.proofs.Common.{◌≡◌, ◌+◌, ◌++◌, drop}
use Rattle.sp_power_law.specs.Runs.{arrivals}
use Rattle.sp_ranks.specs.Arrivals.{arrivals_at, AreThere}
use Rattle.sp_ranks.proofs.walk.all_moves.Given as goal

abbrev pub invariant-loop-source : goal.invariant-loop-source
invariant-loop-source l = record {
  found : arrivals_at (l.n + l.m) l.found.items ++ arrivals l.e l.i l.m l.source (drop l.source l.v.entries)
      ≡ arrivals l.e l.i l.m 0 l.v.entries;
  there : AreThere (l.n + l.m) l.found.items;
}
