use Rattle.std.proofs.Common.{◌≡◌, flat_map}
use Rattle.std.specs.List.{range_with_len}
use Rattle.sp_module_defs.specs.Jantzen.{terms_of_bead}
use Rattle.sp_jantzen.proofs.term.terms.Given as goal

abbrev pub invariant-loop-from : goal.invariant-loop-from
invariant-loop-from l =
    l.terms.items ≡ flat_map (terms_of_bead l.e l.numbers.items) (range_with_len 0 l.from)
