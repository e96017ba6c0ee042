use Rattle.std.proofs.Common.{refl, ap₂}
use Rattle.sp_ranks.specs.Polynomials.{pieces}
use Rattle.sp_ranks.proofs.polynomials.Polynomials.with_capacity.Goals as goal

pub invariant_of-result : goal.invariant_of-result
unfolding pieces
invariant_of-result c =
    rw (c.in_ok-with_capacity-2.ensures.items, c.in_ok-with_capacity.ensures.items)
    (record { ascending = refl; held = tt })

pub returns : goal.returns
unfolding pieces
returns c = ap₂ (pieces 0) c.in_ok-with_capacity-2.ensures.items c.in_ok-with_capacity.ensures.items
