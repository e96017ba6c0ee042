use Rattle.std.proofs.Common.{◌≡◌, ℕ, ◌+◌, ◌-◌, ◌*◌, ◌<◌, get_or, length}
use Rattle.sp_ladder.specs.declared.counting.TheConstants.{LADDERS}
use Rattle.sp_ladder.proofs.Counts.{count_on, row_nodes}
use Rattle.sp_ladder.proofs.counting.count_row.Given as goal

abbrev pub invariant-loop-column : goal.invariant-loop-column
invariant-loop-column l = record {
  at : l.ladder ≡ l.row + (l.e - 1) * l.column;
  size : length l.counts ≡ LADDERS;
  counted : (n : ℕ) → n < LADDERS →
      get_or l.counts n 0 ≡ get_or l.fn.counts n 0 + count_on l.e n (row_nodes l.row l.column);
}
