use Rattle.std.proofs.Common.{◌<◌, sym, ◌∙◌, ap, subst, drop, Err, ◌≤◌}
use Rattle.std.specs.List.{AllByRecursion}
use Rattle.sp_llt.specs.declared.share.Share.{Share}
use Rattle.sp_llt.specs.Adopting.{AreListedShares, AreEarlierRows, HasRank, IsRightlyListed, listed_weight}
use Rattle.sp_cert.proofs.Stepping.{own_regular, listed_shares, earlier_rows, have_ranks, fails_large, fails_wrong}
use Rattle.sp_cert.proofs.Stepping.{checked_more, column_at, rest_is}
use Rattle.sp_cert.proofs.checking.entry_at.Goals as goal

pub rank_in-k-requires : goal.rank_in-k-requires
rank_in-k-requires c =
    let d = c.index-columns-place.result in
    let is = column_at c.args.certificate.now c.columns.result.now c.args.place d c.columns.ensures.value
    c.index-columns-place.is in
    own_regular c.args.certificate.now c.columns.ensures.held c.args.ctx.now c.args.place c.args.entries.now
    c.args.start c.requires.checked d c.requires.place is

pub adopt-requires-clause-shares : goal.adopt-requires-clause-shares
adopt-requires-clause-shares c =
    let d = c.index-columns-place.result in
    let is = column_at c.args.certificate.now c.columns.result.now c.args.place d c.columns.ensures.value
    c.index-columns-place.is in
    subst (AreListedShares c.rank_in-k.result) (sym c.as_slice-shares.ensures)
    (listed_shares c.args.certificate.now c.columns.ensures.held c.args.ctx.now c.args.place c.args.entries.now
    c.args.start c.requires.checked d c.requires.place is c.rank_in-k.result c.start_below-next.result
    c.rank_in-k.ensures.rank c.start_below-next.ensures)

pub adopt-requires-clause-earlier : goal.adopt-requires-clause-earlier
adopt-requires-clause-earlier c =
    let d = c.index-columns-place.result in
    let is = column_at c.args.certificate.now c.columns.result.now c.args.place d c.columns.ensures.value
    c.index-columns-place.is in
    subst (AreEarlierRows c.args.ctx.now c.rank_in-k.result)
    (sym (rest_is c.start_below-next.result c.args.entries.now))
    (earlier_rows c.args.certificate.now c.columns.ensures.held c.args.ctx.now c.args.place c.args.entries.now
    c.args.start c.requires.checked d c.requires.place is c.rank_in-k.result c.start_below-next.result
    c.rank_in-k.ensures.rank c.start_below-next.ensures)

pub adopt-requires-clause-listed : goal.adopt-requires-clause-listed
adopt-requires-clause-listed c =
    let d = c.index-columns-place.result in
    let is = column_at c.args.certificate.now c.columns.result.now c.args.place d c.columns.ensures.value
    c.index-columns-place.is in
    subst (λ ps. AllByRecursion (λ (s : Share). HasRank ps s.rank) c.as_slice-shares.result.now)
    (sym (rest_is c.start_below-next.result c.args.entries.now))
    (subst (λ ss. AllByRecursion (λ (s : Share). HasRank (drop c.start_below-next.result c.args.entries.now) s.rank) ss)
    (sym c.as_slice-shares.ensures)
    (have_ranks c.args.certificate.now c.columns.ensures.held c.args.ctx.now c.args.place c.args.entries.now
    c.args.start c.requires.checked d c.requires.place is c.rank_in-k.result c.start_below-next.result
    c.rank_in-k.ensures.rank c.start_below-next.ensures))

pub returns-in-Err-TooLarge-clause-refused : goal.returns-in-Err-TooLarge-clause-refused
returns-in-Err-TooLarge-clause-refused c =
    let d = c.index-columns-place.result in
    let key = c.args.ctx.now in
    let is = column_at c.args.certificate.now c.columns.result.now c.args.place d c.columns.ensures.value
    c.index-columns-place.is in
    fails_large c.args.certificate.now c.columns.ensures.held key c.args.place c.args.entries.now
    c.args.start c.requires.checked d c.requires.place is c.rank_in-k.result c.start_below-next.result
    c.rank_in-k.ensures.rank c.start_below-next.ensures
    (subst (λ ss. key.limit < listed_weight key c.rank_in-k.result ss) c.as_slice-shares.ensures
    (c.in-Err-TooLarge.ensures.too_large (ap Err c.in-Err-TooLarge.field-0-is)))

pub returns-in-Err-Wrong-clause-refused : goal.returns-in-Err-Wrong-clause-refused
returns-in-Err-Wrong-clause-refused c =
    let d = c.index-columns-place.result in
    let key = c.args.ctx.now in
    let is = column_at c.args.certificate.now c.columns.result.now c.args.place d c.columns.ensures.value
    c.index-columns-place.is in
    let why = c.in-Err-Wrong.ensures.wrong (ap Err c.in-Err-Wrong.field-0-is) in
    fails_wrong c.args.certificate.now c.columns.ensures.held key c.args.place c.args.entries.now
    c.args.start c.requires.checked d c.requires.place is c.rank_in-k.result c.start_below-next.result
    c.rank_in-k.ensures.rank c.start_below-next.ensures
    (subst (λ ss. listed_weight key c.rank_in-k.result ss ≤ key.limit) c.as_slice-shares.ensures why.0)
    (λ right. why.1 (subst (λ ss. IsRightlyListed key c.rank_in-k.result ss d.entries) (sym c.as_slice-shares.ensures)
    right))

pub returns-in-Ok-clause-checked : goal.returns-in-Ok-clause-checked
returns-in-Ok-clause-checked c =
    let d = c.index-columns-place.result in
    let key = c.args.ctx.now in
    let is = column_at c.args.certificate.now c.columns.result.now c.args.place d c.columns.ensures.value
    c.index-columns-place.is in
    checked_more c.args.certificate.now c.columns.ensures.held key c.args.place c.args.entries.now
    c.args.start c.requires.checked d c.requires.place is c.rank_in-k.result c.start_below-next.result
    c.rank_in-k.ensures.rank c.start_below-next.ensures c.in-Ok.entry c.in-Ok.ensures.entry c.in-Ok.ensures.outcome
    c.in-Ok.ensures.row (sym c.as_slice-shares.ensures ∙ c.in-Ok.ensures.shares)
    (subst (λ ss. listed_weight key c.rank_in-k.result ss ≤ key.limit) c.as_slice-shares.ensures c.in-Ok.ensures.fits)
    (subst (λ ss. IsRightlyListed key c.rank_in-k.result ss d.entries) c.as_slice-shares.ensures c.in-Ok.ensures.right)
