use Rattle.std.proofs.Common.{◌≡◌, ◌+◌, [], ap, Err}
use Rattle.sp_llt.specs.declared.fault.AdoptFault.TheVariants.{TooLarge}
use Rattle.sp_llt.specs.Place.{IsPlace, place}
use Rattle.sp_llt.specs.Adopting.{factors_at}
use Rattle.sp_llt.proofs.Adopting.{weight_stays, taken_past}
use Rattle.sp_llt.proofs.adopt.slots_left.Goals as goal

pub returns-in-Err-clause-too_large : goal.returns-in-Err-clause-too_large
returns-in-Err-clause-too_large c large =
    let key = c.args.ctx.now in
    let is : c.in-Err.fault ≡ TooLarge = cc in
    let p : IsPlace (place key c.args.k) = record { key = c.first_slots.ensures.key; rank = c.requires.rank } in
    weight_stays key c.args.k p key.limit [] (factors_at key c.args.shares.now) (c.in-Err.ensures.too_large (ap Err is))

pub returns-in-Err-without_share-clause-too_large : goal.returns-in-Err-without_share-clause-too_large
returns-in-Err-without_share-clause-too_large c large =
    let key = c.args.ctx.now in
    let is : c.in-Err-without_share.fault ≡ TooLarge = cc in
    let p : IsPlace (place key c.args.k) = record { key = c.first_slots.ensures.key; rank = c.requires.rank } in
    taken_past key c.args.k p key.limit (c.loop-place.place + 1) c.args.shares.now
    (c.in-Err-without_share.ensures.too_large (ap Err is))
