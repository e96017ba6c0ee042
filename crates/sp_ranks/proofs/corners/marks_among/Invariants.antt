use Rattle.std.proofs.Common.{◌≡◌, map, filter, nat_eq, take}
use Rattle.sp_ranks.proofs.corners.marks_among.Given as goal

abbrev pub invariant-loop-corner : goal.invariant-loop-corner
invariant-loop-corner l =
    l.found.items ≡ map (λ s. s.mark) (filter (λ s. nat_eq s.residue l.i) (take l.corner-index l.corners))
