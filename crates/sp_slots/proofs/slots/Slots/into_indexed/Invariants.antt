use Rattle.std.proofs.Common.{◌≡◌, map}
use Rattle.sp_slots.specs.Slots.{coefficient_in}
use Rattle.sp_slots.proofs.Collecting.{IsCollected}
use Rattle.sp_slots.proofs.slots.Slots.into_indexed.Given as goal

abbrev pub invariant-loop-index : goal.invariant-loop-index
invariant-loop-index l =
    IsCollected l.degree (coefficient_in l.degree l.slots.items) l.index l.pairs.items l.indices.items
    × (l.polynomials ≡ map (λ t. t.1) l.pairs.items)
