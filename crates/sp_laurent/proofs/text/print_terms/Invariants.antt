use Rattle.std.proofs.Common.{get_or, pos}
use Rattle.sp_laurent.proofs.Texts.{IsWritten}
use Rattle.sp_laurent.proofs.text.print_terms.Given as goal

abbrev pub invariant-loop-term : goal.invariant-loop-term
invariant-loop-term l = IsWritten l.fn.out.items l.out.items (get_or l.terms 0 (pos 0, pos 0)) l.later l.term-index
