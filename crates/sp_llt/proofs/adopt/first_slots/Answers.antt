use Rattle.std.proofs.Common.{[], sym, subst, ap, Err}
use Rattle.sp_llt.specs.Place.{IsPlace, label, place}
use Rattle.sp_llt.specs.Adopting.{IsLeft}
use Rattle.sp_llt.proofs.Labels.{place_of}
use Rattle.sp_llt.proofs.Adopting.{left_at_start, ladder_past}
use Rattle.sp_llt.proofs.adopt.first_slots.Goals as goal

pub returns-in-Ok-clause-left : goal.returns-in-Ok-clause-left
returns-in-Ok-clause-left c =
    let key = c.args.ctx.now in
    let p : IsPlace (place key c.args.k) = place_of key c.args.k c.ladder_slots.ensures.key c.requires in
    subst (IsLeft key (label key c.args.k) []) (sym c.in-Ok.ensures.tally)
    (left_at_start key c.args.k p c.in-Ok.ensures.fits)

pub returns-in-Err-TooLarge-clause-too_large : goal.returns-in-Err-TooLarge-clause-too_large
returns-in-Err-TooLarge-clause-too_large c _ =
    let key = c.args.ctx.now in
    let p : IsPlace (place key c.args.k) = place_of key c.args.k c.ladder_slots.ensures.key c.requires in
    ladder_past key c.args.k p key.limit [] (c.in-Err-TooLarge.ensures.too_large (ap Err c.in-Err-TooLarge.field-0-is))
