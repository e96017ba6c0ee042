use Rattle.std.proofs.Common.{◌↔◌}
use Rattle.sp_fock.specs.Sum.{AllFit}
use Rattle.sp_fock.specs.Walk.{walk_of}
use Rattle.sp_fock_law.specs.Joined.{joined}
use Rattle.sp_fock.proofs.joined.all_fit.Given as goal

-- What is still to come decides.
abbrev pub invariant-loop-joint : goal.invariant-loop-joint
invariant-loop-joint l =
    (goal.iterator-loop-joint).can_next l.joint-iterator
    × (goal.iterator-loop-joint).is_finite l.joint-iterator
    × (AllFit l.factor l.limit (walk_of l.joint-iterator) ↔ AllFit l.factor l.limit (joined l.first l.second))
