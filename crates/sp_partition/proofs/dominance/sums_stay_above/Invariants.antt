-- The sums of the parts passed so far, of which no initial one crosses.
use Rattle.std.proofs.Common.{◌≡◌, ◌≤◌, ℕ, sum, take, length}
use Rattle.sp_partition.proofs.dominance.sums_stay_above.Given as goal

abbrev pub invariant-loop-part : goal.invariant-loop-part
invariant-loop-part l =
    (l.upper_sum ≡ sum (take (length l.yielded) l.upper)) × (l.lower_sum ≡ sum (take (length l.yielded) l.lower))
    × ((k : ℕ) → k ≤ length l.yielded → sum (take k l.lower) ≤ sum (take k l.upper))
