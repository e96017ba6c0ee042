-- What the parts of the vector are, and what a sort leaves.
use Rattle.std.proofs.Common.{arith}
use Rattle.sp_ranks.proofs.Induced.{are_sorted}
use Rattle.sp_ranks.proofs.induction.sorted_moves.Goals as goal

pub returns : goal.returns
returns c =
    are_sorted c.args.e c.args.i c.args.m c.args.v.now c.in_ok-found.found.items c.sort_by_rank.new.arrivals.items
    c.requires.e_least (omega (arith, c.degree-most.ensures.value, c.degree-most.ensures.most, c.requires.room))
    c.degree-held.ensures.held c.in_ok-found.ensures.found c.in_ok-found.ensures.there
    c.sort_by_rank.ensures.permutation c.sort_by_rank.ensures.sorted
