use Rattle.sp_laurent.proofs.Product.{IsPartSum}
use Rattle.sp_laurent.proofs.products.add_each_multiple.Given as goal

abbrev pub invariant-loop-term : goal.invariant-loop-term
invariant-loop-term l = IsPartSum l.initial.terms.items l.few l.many l.terms.items l.term-index
