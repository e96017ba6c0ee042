use Rattle.std.proofs.Common.{◌≡◌, ◌++◌, take, drop, length, flat_map}
use Rattle.sp_paint.specs.Notation.{later_term_text}
use Rattle.sp_paint.proofs.notation.put_later_terms.Given as goal

abbrev pub invariant-loop-term : goal.invariant-loop-term
invariant-loop-term l = record {
  text :
      l.out.items ++ flat_map (later_term_text l.notation) (drop l.term-index l.terms)
      ≡ l.fn.out.items ++ flat_map (later_term_text l.notation) l.terms;
  kept : take (length l.fn.out.items) l.out.items ≡ l.fn.out.items;
}
