-- The sums at the targets are the restriction.
use Rattle.std.proofs.Common.{rules, ◌+◌, ◌-◌, ◌≤◌, sym, ◌∙◌, subst, arith}
use Rattle.std.specs.List.{AllByRecursion}
use Rattle.sp_defs.specs.Power.{vector_of, FockVector, IsVector}
use Rattle.sp_power.specs.Arrivals.{AllWithin}
use Rattle.sp_sl2_law.specs.Restriction.{restricted_size}
use Rattle.sp_sl2.specs.Targets.{HasRoom}
use Rattle.sp_sl2.proofs.Powers.{restricted_entries_vector, restricted_entries_within}
use Rattle.sp_sl2.proofs.Weights.{restricted_held, restricted_whole, weight_within, weight_past}
use Rattle.sp_sl2.proofs.restriction.restrict.Goals as goal

pub sums-requires-clause-room : goal.sums-requires-clause-room
sums-requires-clause-room c =
    subst (AllByRecursion HasRoom) (sym c.deref.ensures.value) c.in_ok-targets.ensures.room

pub returns-in_err-sums-clause-too_large : goal.returns-in_err-sums-clause-too_large
returns-in_err-sums-clause-too_large c =
    λ h. weight_past c.args.e c.args.i c.args.v.now.degree c.requires.e_least c.args.v.now.entries
    c.in_ok-targets.targets.items c.in_ok-targets.ensures c.args.limit
    (subst (λ l. ¬ AllByRecursion
    (λ mu. restricted_size c.args.e c.args.i (vector_of c.args.v.now.entries) mu ≤ c.args.limit) l)
    c.deref.ensures.value (c.in_err-sums.ensures.too_large (search rules)))

pub from_pairs-requires : goal.from_pairs-requires
from_pairs-requires c =
    restricted_held c.args.e c.args.i c.args.v.now.degree c.requires.e_least c.args.v.now.entries
    c.in_ok-targets.targets.items c.in_ok-targets.ensures c.saturating_sub.result c.deref.result.now
    c.in_ok-sums.sums.items (omega (arith, c.saturating_sub.ensures, c.degree.ensures.value)) c.deref.ensures.value
    c.in_ok-sums.ensures.sums c.in_ok-sums.ensures.held

pub returns-clause-ok : goal.returns-clause-ok
returns-clause-ok c =
    c.from_pairs.ensures
    ∙ restricted_whole c.args.e c.args.i c.args.v.now.degree c.requires.e_least c.args.v.now.entries
    c.in_ok-targets.targets.items c.in_ok-targets.ensures c.saturating_sub.result c.deref.result.now
    c.in_ok-sums.sums.items (omega (arith, c.saturating_sub.ensures, c.degree.ensures.value)) c.deref.ensures.value
    c.in_ok-sums.ensures.sums

pub returns-clause-fits : goal.returns-clause-fits
returns-clause-fits c =
    weight_within c.args.e c.args.i c.args.v.now.degree c.requires.e_least c.args.v.now.entries
    c.in_ok-targets.targets.items c.in_ok-targets.ensures c.args.limit
    (subst (AllByRecursion
    (λ mu. restricted_size c.args.e c.args.i (vector_of c.args.v.now.entries) mu ≤ c.args.limit)) c.deref.ensures.value
    c.in_ok-sums.ensures.fits)

pub returns-clause-vector : goal.returns-clause-vector
returns-clause-vector c =
    subst (λ (w : FockVector). IsVector (c.args.v.now.degree - 1) w.entries) (sym (returns-clause-ok c))
    (restricted_entries_vector c.args.e c.args.i c.args.v.now.degree (vector_of c.args.v.now.entries))

pub returns-clause-powers : goal.returns-clause-powers
returns-clause-powers c =
    λ d within. subst (λ (w : FockVector). AllWithin (c.args.v.now.degree + 1 + d) w.entries)
    (sym (returns-clause-ok c))
    (restricted_entries_within c.args.e c.args.i c.args.v.now.degree d c.args.v.now.entries within)
