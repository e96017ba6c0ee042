-- What is left of the limit, and what the run has brought so far.
use Rattle.std.proofs.Common.{◌≡◌, ◌+◌, sum_by, take}
use Rattle.sp_ranks.specs.Arrivals.{size_at}
use Rattle.sp_ranks.proofs.sums.run_fits.Given as goal

abbrev pub invariant-loop-arrival : goal.invariant-loop-arrival
invariant-loop-arrival l = l.left + sum_by (size_at l.v.entries) (take l.arrival-index l.run) ≡ l.limit
