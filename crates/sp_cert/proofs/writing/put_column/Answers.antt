use Rattle.std.proofs.Common.{◌≡◌, ◌++◌, flat_map, drop, reverse, length, ◌∙◌, ap, ap₂, arith}
use Rattle.sp_llt.specs.Place.{label}
use Rattle.sp_cert.specs.Texts.{column_line, share_line, entry_line}
use Rattle.sp_cert.proofs.Pieces.{all_pieces}
use Rattle.sp_cert.proofs.Written.{told, row_entries, four}
use Rattle.sp_cert.proofs.writing.put_column.Goals as goal

pub returns : goal.returns
returns c =
    let key = c.args.ctx.now in
    let p = c.args.entry.now in
    let front = c.args.out.now.items in
    let mu = label key p.rank in
    let shares_end : c.loop-place.place ≡ length c.shares-shares.result.now = omega arith in
    let at_start : c.loop-place-2.place ≡ 0 = omega arith in
    let shares = all_pieces (share_line key.e key.degree) (front ++ column_line mu) c.loop-place.out.items
    c.shares-shares.result.now c.loop-place.place shares_end c.loop-place.invariant
    ∙ ap (λ ss. (front ++ column_line mu) ++ flat_map (share_line key.e key.degree) ss)
    (c.shares-shares.ensures.shares ∙ told p key c.requires.key c.requires.fits) in
    let pairs = c.pairs-pairs.ensures.value
    ∙ row_entries p key c.in-Some.row.now c.requires.key c.in-Some.ensures.some in
    c.loop-place-2.invariant
    ∙ ap (λ k. c.loop-place.out.items ++ flat_map entry_line (reverse (drop k c.pairs-pairs.result.now))) at_start
    ∙ ap₂ (λ t es. t ++ flat_map entry_line (reverse es)) shares pairs
    ∙ four front (column_line mu) _ _
