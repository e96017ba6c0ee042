use Rattle.std.proofs.Common.{◌≡◌, ◌++◌, ◌-◌, flat_map}
use Rattle.std.specs.List.{range_with_len}
use Rattle.sp_module_defs.specs.Jantzen.{term}
use Rattle.sp_jantzen.proofs.term.push_pair.Given as goal

abbrev pub invariant-loop-steps : goal.invariant-loop-steps
invariant-loop-steps l =
    l.terms.items ≡ l.fn.terms.items ++ flat_map (term l.e l.numbers l.to l.from) (range_with_len 1 (l.steps - 1))
