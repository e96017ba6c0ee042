use Rattle.std.proofs.Common.{◌≡◌, ◌-◌, map, filter, nat_lt}
use Rattle.std.specs.List.{range_with_len}
use Rattle.sp_defs.specs.Ladder.{on_ladder}
use Rattle.sp_ladder.specs.Steps.{step_on}
use Rattle.sp_ladder.proofs.counting.ladders.Given as goal

abbrev pub invariant-loop-ladder : goal.invariant-loop-ladder
invariant-loop-ladder l =
    l.found.items
    ≡ map (step_on l.e l.mu) (filter (λ n. nat_lt 0 (on_ladder l.e l.mu n)) (range_with_len 1 (l.ladder - 1)))
