-- The first terms are summed, and each is at most as great as the polynomial.
use Rattle.std.proofs.Common.{◌≡◌, ◌*◌, ◌≤◌}
use Rattle.sp_defs.specs.Laurent.{size}
use Rattle.sp_sl2.proofs.Products.{first_terms}
use Rattle.sp_sl2.proofs.multiples.natural_multiple.Given as goal

abbrev pub invariant-loop-j : goal.invariant-loop-j
invariant-loop-j l = record {
  sum : l.multiple ≡ first_terms l.k l.p l.j;
  small : size l.multiple ≤ l.j * size l.p;
}
