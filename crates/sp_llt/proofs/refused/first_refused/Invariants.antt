use Rattle.std.proofs.Common.{◌≡◌, map, reverse, take}
use Rattle.std.specs.Arc.{arc_value}
use Rattle.sp_llt.specs.Refusals.{first_refusal}
use Rattle.sp_llt.proofs.refused.first_refused.Given as goal

-- none of those from the k-th on is refused
abbrev pub invariant-loop-k : goal.invariant-loop-k
invariant-loop-k l =
    first_refusal (reverse (map arc_value l.rows)) ≡ first_refusal (reverse (map arc_value (take l.k l.rows)))
