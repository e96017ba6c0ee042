use Rattle.std.proofs.Common.{◌≡◌, ℕ, ◌<◌, List, length, get_or, []}
use Rattle.sp_ranks.specs.Moves.{AreGains}
use Rattle.sp_ranks.proofs.moves.gains_of.Given as goal

abbrev pub invariant-loop-p : goal.invariant-loop-p
invariant-loop-p l = record {
  count : length l.gains.items ≡ l.p-index;
  each : (k : ℕ) (d : List ℕ) → k < l.p-index → AreGains l.next (get_or l.all k []) (get_or l.gains.items k d);
}
