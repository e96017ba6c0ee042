use Rattle.std.proofs.Common.{◌≡◌, ℕ, ◌+◌, ◌<◌, length, get_or}
use Rattle.sp_ranks.specs.Moves.{IsGain}
use Rattle.sp_ranks.proofs.moves.gains_in_rows.Given as goal

abbrev pub invariant-loop-place : goal.invariant-loop-place
invariant-loop-place l = record {
  room : length l.gains ≡ 32;
  each : (k d : ℕ) → k < l.place → IsGain l.next l.p (k + 1) (get_or l.gains k d);
}
