use Rattle.std.proofs.Common.{sym, ◌∙◌, ap, subst, None}
use Rattle.sp_fock_law.specs.Tally.{TallyValue}
use Rattle.sp_llt.specs.Place.{IsPlace, place, label}
use Rattle.sp_llt.specs.Found.{IsWhole}
use Rattle.sp_llt.proofs.Adopted.{adopted_row, adopted_shares, adopted_outcome, adopted_whole, right_left}
use Rattle.sp_llt.proofs.Ranked.{listed_rows}
use Rattle.sp_llt.proofs.entry.Entry.adopt.Goals as goal

pub whole-requires-clause-whole : goal.whole-requires-clause-whole
whole-requires-clause-whole c =
    let key = c.args.ctx.now in
    let shares = c.args.shares.now in
    let p : IsPlace (place key c.args.k) = record { key = c.regulars-key.ensures.held; rank = c.requires.rank } in
    let vector = c.pairs-held.ensures.held.vector in
    let right = c.is_rightly_listed.ensures.0 c.if-not-is_rightly_listed.false in
    let left = c.in_ok-left.ensures ∙ ap (λ (t : TallyValue). t.vector) c.in-Ok.ensures.left.tally in
    let row = left ∙ sym (right_left key c.args.k p shares c.args.row.now vector c.requires.degree right) in
    subst (λ ss. IsWhole key (label key c.args.k) c.in_ok-left.left ss None) (sym c.in_ok-shares.ensures)
    (adopted_whole key c.args.k p shares c.args.row.now vector c.requires.degree c.requires.shares right
    c.in-Ok.ensures.left.fits (listed_rows key c.args.k c.args.earlier.now shares c.requires.earlier c.requires.listed)
    c.in_ok-left.left row)

pub returns-clause-outcome : goal.returns-clause-outcome
returns-clause-outcome c =
    let key = c.args.ctx.now in
    let shares = c.args.shares.now in
    let p : IsPlace (place key c.args.k) = record { key = c.regulars-key.ensures.held; rank = c.requires.rank } in
    adopted_outcome key c.args.k p shares c.args.row.now c.pairs-held.ensures.held.vector c.requires.degree
    c.requires.shares (c.is_rightly_listed.ensures.0 c.if-not-is_rightly_listed.false) c.in-Ok.ensures.left.fits
    (listed_rows key c.args.k c.args.earlier.now shares c.requires.earlier c.requires.listed)

pub returns-clause-row : goal.returns-clause-row
returns-clause-row c =
    let key = c.args.ctx.now in
    let p : IsPlace (place key c.args.k) = record { key = c.regulars-key.ensures.held; rank = c.requires.rank } in
    adopted_row key c.args.k p c.args.shares.now c.args.row.now c.pairs-held.ensures.held.vector c.requires.degree
    c.requires.shares (c.is_rightly_listed.ensures.0 c.if-not-is_rightly_listed.false)

pub returns-clause-shares : goal.returns-clause-shares
returns-clause-shares c =
    let key = c.args.ctx.now in
    let p : IsPlace (place key c.args.k) = record { key = c.regulars-key.ensures.held; rank = c.requires.rank } in
    adopted_shares key c.args.k p c.args.shares.now c.args.row.now c.pairs-held.ensures.held.vector c.requires.degree
    c.requires.shares (c.is_rightly_listed.ensures.0 c.if-not-is_rightly_listed.false)
