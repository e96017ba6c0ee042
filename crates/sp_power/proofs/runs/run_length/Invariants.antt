-- All that were seen lead to the partition.
use Rattle.std.proofs.Common.{◌≡◌, ℕ, ◌<◌, true, get_or}
use Rattle.sp_power_law.specs.Runs.{Arrival, is_at}
use Rattle.sp_power.proofs.runs.run_length.Given as goal

abbrev pub invariant-loop-count : goal.invariant-loop-count
invariant-loop-count l = (k : ℕ) (d : Arrival) → k < l.count → is_at l.partition (get_or l.arrivals k d) ≡ true
