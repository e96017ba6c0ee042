-- The count of those passed so far.
use Rattle.std.proofs.Common.{◌≡◌, ◌≤◌, [], count_by, take, get_or}
use Rattle.sp_defs.specs.Partition.{is_regular}
use Rattle.sp_replies.proofs.blocks.regular_count.Given as goal

abbrev pub invariant-loop-rank : goal.invariant-loop-rank
invariant-loop-rank l = record {
  counted : l.count ≡ count_by (λ k. is_regular l.e (get_or l.list k [])) (take l.rank-index l.ranks);
  few : l.count ≤ l.rank-index;
}
