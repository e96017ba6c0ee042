use Rattle.std.proofs.Common.{◌≡◌, ◌++◌, flat_map}
use Rattle.std.specs.List.{range_with_len}
use Rattle.sp_module_defs.specs.Jantzen.{terms_of_pair}
use Rattle.sp_jantzen.proofs.term.push_bead.Given as goal

abbrev pub invariant-loop-to : goal.invariant-loop-to
invariant-loop-to l =
    l.terms.items ≡ l.fn.terms.items ++ flat_map (terms_of_pair l.e l.numbers l.from) (range_with_len 0 l.to)
