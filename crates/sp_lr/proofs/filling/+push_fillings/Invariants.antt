-- Each call goes on with fewer sizes. The fillings found so far go on by the partitions passed so far.
use Rattle.std.proofs.Common.{length, ◌≡◌, ◌≤◌, ◌++◌, take, flat_map}
use Rattle.sp_lr.specs.Strips.{behind}
use Rattle.sp_lr.specs.Results.{chains_in}
use Rattle.sp_lr.proofs.ChainLists.{chain_block}
use Rattle.sp_lr.proofs.filling.+push_fillings.Given as goal

abbrev pub decreases-push_fillings : goal.decreases-push_fillings
decreases-push_fillings l = length l.sizes.now

abbrev pub invariant-loop-shape : goal.invariant-loop-shape
invariant-loop-shape l = record {
  chain : l.chain.items ≡ l.fn.chain.items;
  found : chains_in l.found.items
      ≡ chains_in l.fn.found.items
      ++ behind l.fn.chain.items (flat_map (chain_block l.last l.later) (take l.shape-index l.shape-items));
  few : length l.found.items ≤ l.most;
}
