use Rattle.sp_defs.specs.Partition.{degree}
use Rattle.sp_good.proofs.Descending.{Descended}
use Rattle.sp_good.proofs.paths.path.Given as goal

abbrev pub invariant-loop-step : goal.invariant-loop-step
invariant-loop-step l = Descended l.e l.mu l.at l.residues.items

abbrev pub decreases-loop-step : goal.decreases-loop-step
decreases-loop-step l = degree l.at
