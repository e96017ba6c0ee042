-- Each call goes on with fewer rows. The rounds still to come fill up what there is to append.
use Rattle.std.proofs.Common.{◌≡◌, ◌++◌, ◌∷◌, length}
use Rattle.sp_lr.specs.Strips.{strips, behind}
use Rattle.sp_lr.proofs.Rounds.{blocks}
use Rattle.sp_lr.proofs.strips.+push_strips.Given as goal

abbrev pub decreases-push_strips : goal.decreases-push_strips
decreases-push_strips l = length l.rows.now

abbrev pub invariant-loop-more : goal.invariant-loop-more
invariant-loop-more l = record {
  front : l.front.items ≡ l.fn.front.items;
  list : l.list.items ++ behind l.fn.front.items (blocks l.row l.below l.spare l.left l.more)
      ≡ l.fn.list.items ++ behind l.fn.front.items (strips (l.row ∷ l.below) l.above l.spare l.left);
}
