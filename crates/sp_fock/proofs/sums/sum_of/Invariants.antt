use Rattle.std.proofs.Common.{◌≡◌, ◌++◌}
use Rattle.std.specs.List.{AllByRecursion}
use Rattle.sp_fock_law.specs.Joined.{combined, joined}
use Rattle.sp_fock.specs.Held.{ArePairs}
use Rattle.sp_fock.specs.Sum.{added, CanAdd}
use Rattle.sp_fock.specs.Merged.{merged_of}
use Rattle.sp_fock.proofs.sums.sum_of.Given as goal

abbrev pub invariant-loop-meeting : goal.invariant-loop-meeting
invariant-loop-meeting l =
    (goal.iterator-loop-meeting).can_next l.meeting-iterator
    × (goal.iterator-loop-meeting).is_finite l.meeting-iterator
    × AllByRecursion (CanAdd l.factor l.limit) (merged_of l.meeting-iterator)
    × (l.sums.items ++ combined (added l.factor) (merged_of l.meeting-iterator) ≡ combined (added l.factor)
    (joined l.fn.first.items l.second))
    × ArePairs l.sums.items
