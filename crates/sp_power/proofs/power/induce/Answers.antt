-- The runs of the sorted moves are the divided power, by the theorem on them.
use Rattle.std.proofs.Common.{rules, ◌≤◌, ◌<◌, ◌+◌, ◌∙◌, sym, subst}
use Rattle.sp_fock.specs.Held.{IsHeld, held_as}
use Rattle.sp_power.proofs.Induced.{brought_by, sums_by, sizes_by, all_brought, held_after, vector_after, within_after}
use Rattle.sp_power.proofs.power.induce.Goals as goal

pub sums-requires-clause-brought : goal.sums-requires-clause-brought
sums-requires-clause-brought c =
    brought_by c.pairs.result.now c.args.v.now.entries c.in_ok-moves.moves.items c.deref.result.now
    c.pairs.ensures.value c.deref.ensures.value
    (all_brought c.args.e c.args.i c.args.m c.args.v.now.degree c.args.v.now.entries c.in_ok-moves.moves.items
    c.in_ok-moves.ensures c.requires.powers)

pub returns-in_err-sums-clause-too_large : goal.returns-in_err-sums-clause-too_large
returns-in_err-sums-clause-too_large c =
    λ h. subst (λ k. c.args.limit < k)
    (sizes_by c.args.e c.args.i c.args.m c.args.v.now.degree c.pairs.result.now c.args.v.now.entries
    c.in_ok-moves.moves.items c.deref.result.now
    c.pairs.ensures.value c.deref.ensures.value c.in_ok-moves.ensures)
    (c.in_err-sums.ensures.too_large (search rules))

pub from_pairs-requires : goal.from_pairs-requires
from_pairs-requires c =
    subst (λ k. IsHeld (held_as (k + c.args.m) c.in_ok-sums.sums.items)) (sym c.degree.ensures.value)
    (held_after c.args.e c.args.i c.args.m c.args.v.now.degree c.args.v.now.entries c.in_ok-moves.moves.items
    c.in_ok-moves.ensures
    c.in_ok-sums.sums.items
    (c.in_ok-sums.ensures.sums
    ∙ sums_by c.pairs.result.now c.args.v.now.entries c.in_ok-moves.moves.items c.deref.result.now
    c.pairs.ensures.value c.deref.ensures.value)
    c.in_ok-sums.ensures.held)

pub returns-clause-ok : goal.returns-clause-ok
returns-clause-ok c =
    c.from_pairs.ensures
    ∙ vector_after c.args.e c.args.i c.args.m c.args.v.now.degree c.args.v.now.entries c.in_ok-moves.moves.items
    c.in_ok-moves.ensures
    c.degree.result c.in_ok-sums.sums.items c.degree.ensures.value
    (c.in_ok-sums.ensures.sums
    ∙ sums_by c.pairs.result.now c.args.v.now.entries c.in_ok-moves.moves.items c.deref.result.now
    c.pairs.ensures.value c.deref.ensures.value)

pub returns-clause-fits : goal.returns-clause-fits
returns-clause-fits c =
    subst (λ k. k ≤ c.args.limit)
    (sizes_by c.args.e c.args.i c.args.m c.args.v.now.degree c.pairs.result.now c.args.v.now.entries
    c.in_ok-moves.moves.items c.deref.result.now
    c.pairs.ensures.value c.deref.ensures.value c.in_ok-moves.ensures)
    c.in_ok-sums.ensures.fits

pub returns-clause-powers : goal.returns-clause-powers
returns-clause-powers c =
    λ d within. within_after c.args.e c.args.i c.args.m c.args.v.now.degree c.args.v.now.entries
    c.in_ok-moves.moves.items c.in_ok-moves.ensures
    c.degree.result c.in_ok-sums.sums.items c.from_pairs.result d c.from_pairs.ensures
    (c.in_ok-sums.ensures.sums
    ∙ sums_by c.pairs.result.now c.args.v.now.entries c.in_ok-moves.moves.items c.deref.result.now
    c.pairs.ensures.value c.deref.ensures.value)
    within
