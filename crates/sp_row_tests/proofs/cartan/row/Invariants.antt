use Rattle.std.proofs.Common.{◌≡◌, map, take}
use Rattle.sp_defs.specs.Laurent.{monomial}
use Rattle.sp_row_tests.proofs.cartan.row.Given as goal

abbrev pub invariant-loop-term : goal.invariant-loop-term
invariant-loop-term l = l.cells.items ≡ map (λ t. monomial t.1 t.0) (take l.term-index l.terms)
