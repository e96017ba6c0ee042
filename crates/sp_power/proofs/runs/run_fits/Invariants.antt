-- What is left of the limit, and what the run has brought so far.
use Rattle.std.proofs.Common.{◌≡◌, ◌+◌, sum_by, take}
use Rattle.sp_power_law.specs.Runs.{size_of}
use Rattle.sp_power.proofs.runs.run_fits.Given as goal

abbrev pub invariant-loop-arrival : goal.invariant-loop-arrival
invariant-loop-arrival l = l.left + sum_by (size_of l.pairs) (take l.arrival-index l.run) ≡ l.limit
