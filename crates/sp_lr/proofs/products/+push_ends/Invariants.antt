-- Each call goes on with fewer sizes. The ends found so far are those of the partitions passed so far.
use Rattle.std.proofs.Common.{length, ◌≡◌, ◌≤◌, ◌++◌, take, map, flat_map}
use Rattle.sp_lr_defs.specs.Strip.{end_from}
use Rattle.sp_lr.proofs.ChainLists.{chain_block}
use Rattle.sp_lr.proofs.products.+push_ends.Given as goal

abbrev pub decreases-push_ends : goal.decreases-push_ends
decreases-push_ends l = length l.sizes.now

abbrev pub invariant-loop-shape : goal.invariant-loop-shape
invariant-loop-shape l = record {
  ends : l.ends.items
      ≡ l.fn.ends.items ++ map (end_from l.last) (flat_map (chain_block l.last l.later)
      (take l.shape-index l.shape-items));
  few : length l.ends.items ≤ l.most;
}
