-- Each call goes on below the first mark that is left, and so does each turn of the loop.
use Rattle.std.proofs.Common.{length}
use Rattle.sp_ranks.proofs.Walks.{WalkProgress}
use Rattle.sp_ranks.proofs.walk.+push_moves.Given as goal

abbrev pub decreases-push_moves : goal.decreases-push_moves
decreases-push_moves l = length l.marks.now

abbrev pub invariant-loop-rest : goal.invariant-loop-rest
invariant-loop-rest l =
    WalkProgress l.n l.source l.left l.marks l.fn.way l.initial.found.items l.found.items l.rest l.at

abbrev pub decreases-loop-rest : goal.decreases-loop-rest
decreases-loop-rest l = length l.rest
