use Rattle.std.proofs.Common.{◌≡◌, ℕ, ◌<◌, length, get_or, []}
use Rattle.std.specs.Global.{Vec}
use Rattle.sp_ranks.specs.Corners.{AreCorners}
use Rattle.sp_ranks.specs.declared.corners.CornerNode.{CornerNode}
use Rattle.sp_ranks.proofs.moves.corners_of_all.Given as goal

abbrev pub invariant-loop-p : goal.invariant-loop-p
invariant-loop-p l = record {
  count : length l.corners.items ≡ l.p-index;
  each : (k : ℕ) (d : Vec CornerNode) → k < l.p-index →
      AreCorners l.e (get_or l.all k []) (get_or l.corners.items k d).items;
}
