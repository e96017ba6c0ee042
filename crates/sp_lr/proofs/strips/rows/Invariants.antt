-- The rows passed so far.
use Rattle.std.proofs.Common.{◌≡◌, ◌+◌, ◌-◌, map, length}
use Rattle.std.specs.List.{range_with_len}
use Rattle.sp_lr.proofs.Rounds.{row_made}
use Rattle.sp_lr.proofs.strips.rows.Given as goal

abbrev pub invariant-loop-row : goal.invariant-loop-row
invariant-loop-row l = record {
  is : l.rows.items ≡ map (row_made l.before l.last) (range_with_len 1 (l.row - 1));
  len : length l.rows.items + 1 ≡ l.row;
}
