use Rattle.sp_laurent.proofs.Multiple.{IsAdding}
use Rattle.sp_laurent.proofs.products.add_multiple.Given as goal

abbrev pub invariant-loop-power : goal.invariant-loop-power
invariant-loop-power l = IsAdding l.initial.terms.items l.term l.others l.terms.items l.place l.power-index
