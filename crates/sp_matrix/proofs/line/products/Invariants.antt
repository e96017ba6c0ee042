use Rattle.std.proofs.Common.{◌≡◌, take}
use Rattle.sp_matrix.specs.Agreements.{products_at}
use Rattle.sp_matrix.proofs.line.products.Given as goal

abbrev pub invariant-loop-term : goal.invariant-loop-term
invariant-loop-term l = l.products.items ≡ products_at l.grid l.column (take l.term-index l.terms)
