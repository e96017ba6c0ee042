use Rattle.std.proofs.Common.{◌∙◌, ap, Err}
use Rattle.sp_llt.specs.Place.{IsPlace, place}
use Rattle.sp_llt.proofs.Labels.{place_of}
use Rattle.sp_llt.proofs.Tallies.{tally_start, shares_start, within_start, past_at_start}
use Rattle.sp_llt.proofs.builder.Builder.begin.Goals as goal

pub reach-requires-clause-within : goal.reach-requires-clause-within
reach-requires-clause-within c =
    let p : IsPlace (place c.args.ctx.now c.args.k) = place_of c.args.ctx.now c.args.k c.ladder_slots.ensures.key
    c.requires in
    within_start c.args.ctx.now c.args.k p c.in-Ok.ensures.fits

pub reach-requires-clause-left : goal.reach-requires-clause-left
reach-requires-clause-left c =
    let p : IsPlace (place c.args.ctx.now c.args.k) = place_of c.args.ctx.now c.args.k c.ladder_slots.ensures.key
    c.requires in
    c.in-Ok.ensures.tally ∙ tally_start c.args.ctx.now c.args.k p

pub reach-requires-clause-given : goal.reach-requires-clause-given
reach-requires-clause-given c =
    let p : IsPlace (place c.args.ctx.now c.args.k) = place_of c.args.ctx.now c.args.k c.ladder_slots.ensures.key
    c.requires in
    c.new.ensures.items ∙ shares_start c.args.ctx.now c.args.k p

pub too_large-requires-clause-past : goal.too_large-requires-clause-past
too_large-requires-clause-past c =
    let p : IsPlace (place c.args.ctx.now c.args.k) = place_of c.args.ctx.now c.args.k c.ladder_slots.ensures.key
    c.requires in
    past_at_start c.args.ctx.now c.args.k p
    (c.in-Err-TooLarge.ensures.too_large (ap Err c.in-Err-TooLarge.field-0-is))
