-- What the marks so far have brought and those to come bring is all; what they have of the limit too.
use Rattle.std.proofs.Common.{◌≡◌, ◌+◌, ◌≤◌, map, drop}
use Rattle.std.specs.Int.RustNames.{unsigned_abs}
use Rattle.sp_defs.specs.Laurent.{plus, size, IsLaurent}
use Rattle.sp_defs.specs.Power.{vector_of}
use Rattle.sp_nodes.specs.Marks.{mark_of}
use Rattle.sp_sl2_law.specs.Marks.{taken_through, size_through}
use Rattle.sp_sl2.proofs.shares.sum_through.Given as goal

abbrev pub invariant-loop-mark : goal.invariant-loop-mark
invariant-loop-mark l = record {
  laurent : IsLaurent l.sum;
  sums : plus l.sum (taken_through (vector_of l.v.entries) l.at (map mark_of
      (drop l.mark-index l.marks)) l.difference) ≡
      taken_through (vector_of l.v.entries) l.at (map mark_of l.marks) l.start;
  sizes : l.left + size_through (vector_of l.v.entries) l.at (map mark_of l.marks) ≡
      l.limit + size_through (vector_of l.v.entries) l.at (map mark_of (drop l.mark-index l.marks));
  fits : size l.sum + l.left ≤ l.limit;
  near : unsigned_abs l.difference ≤ unsigned_abs l.start + l.mark-index;
}
