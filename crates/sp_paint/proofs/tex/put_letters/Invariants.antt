use Rattle.std.proofs.Common.{◌≡◌, ◌++◌, take, drop, length, flat_map, codes}
use Rattle.sp_paint.proofs.tex.put_letters.Given as goal

abbrev pub invariant-loop-column : goal.invariant-loop-column
invariant-loop-column l = record {
  text :
      l.out.items ++ flat_map (λ mu. codes "c") (drop l._column-index l.columns)
      ≡ l.fn.out.items ++ flat_map (λ mu. codes "c") l.columns;
  kept : take (length l.fn.out.items) l.out.items ≡ l.fn.out.items;
}
