use Rattle.std.proofs.Common.{ℕ, ◌<◌, ◌≤◌, List, [], ◌∷◌, ◌++◌, sym, ◌∙◌, ap, ap₂, subst, Err}
use Rattle.std.specs.List.{AllByRecursion}
use Rattle.sp_defs.specs.Partition.{IsPartitionOf}
use Rattle.sp_defs.specs.Laurent.{Laurent}
use Rattle.sp_defs.specs.Power.{FockVector}
use Rattle.sp_defs.specs.Within.{ProductWithin}
use Rattle.sp_laurent.specs.Held.{power_limit}
use Rattle.sp_core.specs.declared.piece.Key.{Key}
use Rattle.sp_fock_law.specs.Tally.{TallyValue, subtracted, subtraction_weight, total_of}
use Rattle.sp_llt.specs.Place.{label}
use Rattle.sp_llt.proofs.Giving.{next_share, product_fits}
use Rattle.sp_llt.proofs.Tallies.{tally_step, past_totals, within_step, shares_step, totals_within}
use Rattle.sp_llt.proofs.builder.Builder.take_off.Goals as goal

abbrev AreWithin : ℕ → TallyValue → Type 0
AreWithin limit t = (lambda : List ℕ) → IsPartitionOf t.vector.degree lambda → total_of t.totals lambda ≤ limit

abbrev products_fit : Laurent → FockVector → Type 0
products_fit alpha v = AllByRecursion (λ t. ProductWithin power_limit alpha t.1) v.entries

pub subtract-requires-clause-totals : goal.subtract-requires-clause-totals
subtract-requires-clause-totals c =
    subst (λ (k : Key). AreWithin k.limit c.args.unfinished.slots) (sym c.key.ensures.value)
    (subst (AreWithin c.args.ctx.now.limit) (sym c.requires.asks.left)
    (totals_within c.args.ctx.now c.args.rank c.requires.place.place c.args.reached c.requires.asks.undecided))

pub subtract-requires-clause-within : goal.subtract-requires-clause-within
subtract-requires-clause-within c =
    let next = c.args.unfinished.next in
    let n = next_share c.args.ctx.now c.args.rank c.args.reached c.args.unfinished c.requires.place.place
    c.requires.asks in
    subst (products_fit next.alpha) (sym c.requires.row)
    (product_fits c.args.ctx.now c.args.rank next.rank (label c.args.ctx.now next.rank) next.alpha
    c.requires.place.place n.lower n.value)

-- ---- nothing has become too large

pub reach-requires-clause-place : goal.reach-requires-clause-place
reach-requires-clause-place c =
    (next_share c.args.ctx.now c.args.rank c.args.reached c.args.unfinished c.requires.place.place
    c.requires.asks).progress

pub reach-requires-clause-within : goal.reach-requires-clause-within
reach-requires-clause-within c =
    let next = c.args.unfinished.next in
    let n = next_share c.args.ctx.now c.args.rank c.args.reached c.args.unfinished c.requires.place.place
    c.requires.asks in
    let same = ap₂ (λ x y. subtraction_weight x next.alpha y) c.requires.asks.left c.requires.row in
    within_step c.args.ctx.now c.args.rank c.requires.place.place c.args.reached next.rank next.alpha
    (label c.args.ctx.now next.rank) c.requires.asks.rank n.value c.requires.asks.undecided c.requires.fits
    (subst (λ m. m ≤ c.args.ctx.now.limit) same
    (subst (λ (k : Key). subtraction_weight c.args.unfinished.slots next.alpha c.args.row.now ≤ k.limit)
    c.key.ensures.value c.in-Ok.ensures.fits))

pub reach-requires-clause-left : goal.reach-requires-clause-left
reach-requires-clause-left c =
    let next = c.args.unfinished.next in
    let n = next_share c.args.ctx.now c.args.rank c.args.reached c.args.unfinished c.requires.place.place
    c.requires.asks in
    c.in-Ok.ensures.ok
    ∙ ap₂ (λ x y. subtracted x next.alpha y) c.requires.asks.left c.requires.row
    ∙ tally_step c.args.ctx.now c.args.rank c.requires.place.place c.args.reached next.rank next.alpha
    (label c.args.ctx.now next.rank) c.requires.asks.rank n.value

pub reach-requires-clause-given : goal.reach-requires-clause-given
reach-requires-clause-given c =
    let next = c.args.unfinished.next in
    let n = next_share c.args.ctx.now c.args.rank c.args.reached c.args.unfinished c.requires.place.place
    c.requires.asks in
    c.in_ok-push-in-Ok.ensures.items
    ∙ ap (λ xs. xs ++ (next ∷ [])) c.requires.asks.shares
    ∙ shares_step c.args.ctx.now c.args.rank c.requires.place.place c.args.reached next.rank next.alpha
    (label c.args.ctx.now next.rank) c.requires.asks.rank n.value n.count

-- ---- a total has become too large

pub too_large-requires-clause-place : goal.too_large-requires-clause-place
too_large-requires-clause-place c =
    (next_share c.args.ctx.now c.args.rank c.args.reached c.args.unfinished c.requires.place.place
    c.requires.asks).progress

pub too_large-requires-clause-past : goal.too_large-requires-clause-past
too_large-requires-clause-past c =
    let next = c.args.unfinished.next in
    let n = next_share c.args.ctx.now c.args.rank c.args.reached c.args.unfinished c.requires.place.place
    c.requires.asks in
    let same = ap₂ (λ x y. subtraction_weight x next.alpha y) c.requires.asks.left c.requires.row in
    past_totals c.args.ctx.now c.args.rank c.requires.place.place c.args.reached next.rank next.alpha
    (label c.args.ctx.now next.rank) c.requires.asks.rank n.value c.requires.asks.undecided
    (subst (λ m. c.args.ctx.now.limit < m) same
    (subst (λ (k : Key). k.limit < subtraction_weight c.args.unfinished.slots next.alpha c.args.row.now)
    c.key.ensures.value (c.in-Err-TooLarge.ensures.too_large (ap Err c.in-Err-TooLarge.field-0-is))))
