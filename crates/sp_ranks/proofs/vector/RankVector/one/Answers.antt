use Rattle.std.proofs.Common.{pos, ap, arith}
use Rattle.sp_laurent.proofs.Held.{held_monomial}
use Rattle.sp_ranks.proofs.Overs.{over_empty, empty_entries}
use Rattle.sp_ranks.proofs.vector.RankVector.one.Goals as goal

pub push-requires-2 : goal.push-requires-2
push-requires-2 c = held_monomial (pos 0) (pos 1) (omega arith) (omega arith)

pub invariant_of-result : goal.invariant_of-result
invariant_of-result c =
    rw (c.in_ok-push.ensures.items, c.new-ranks.ensures.items, c.in_ok-push-2.ensures, c.new-polynomials.ensures)
    over_empty

pub returns : goal.returns
returns c =
    rw (c.in_ok-push.ensures.items, c.new-ranks.ensures.items, c.in_ok-push-2.ensures, c.new-polynomials.ensures)
    (ap (λ es. record { degree = 0; entries = es }) empty_entries)
