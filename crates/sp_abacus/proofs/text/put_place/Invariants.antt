use Rattle.std.proofs.Common.{◌≡◌, ◌+◌, ◌*◌, ◌++◌, map}
use Rattle.std.specs.List.{range_with_len}
use Rattle.sp_abacus.specs.Text.{character}
use Rattle.sp_abacus.proofs.text.put_place.Given as goal

abbrev pub invariant-loop-runner : goal.invariant-loop-runner
invariant-loop-runner l =
    l.out.items ≡ l.fn.out.items ++ map (λ n. character l.numbers (l.e * l.place + n)) (range_with_len 0 l.runner)
