use Rattle.std.proofs.Common.{◌≡◌, length, ap, arith}
use Rattle.sp_cert.proofs.Stepping.{checked_none, checked_all}
use Rattle.sp_cert.proofs.checking.check_in.Goals as goal

pub loop-place-init : goal.loop-place-init
loop-place-init c = checked_none c.args.ctx.now c.args.certificate.now c.in_ok-entries.entries.items c.requires
    c.in_ok-entries.ensures.items

pub returns : goal.returns
returns c =
    let same = ap length c.columns-count.ensures.value in
    let end : c.loop-place.place ≡ length c.args.certificate.now.columns = omega (arith, same) in
    let whole = checked_all c.args.ctx.now c.args.certificate.now c.loop-place.place c.loop-place.entries.items
    c.loop-place.start end c.loop-place.invariant in
    record { entries = whole.made; rows = whole.rows; accepted = whole.accepted; refused = tt }
