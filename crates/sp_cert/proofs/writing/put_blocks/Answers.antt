use Rattle.std.proofs.Common.{◌<◌, not, cond, [], ◌++◌, length, sym, ◌∙◌, ap, arith}
use Rattle.std.specs.List.{list_any}
use Rattle.std.proofs.lemmas.List.{get_or_default}
use Rattle.sp_defs.specs.Row.{before}
use Rattle.sp_shapes.proofs.Listing.{regulars_ascend}
use Rattle.sp_llt.specs.Place.{label, labels}
use Rattle.sp_cert.specs.Order.{same_content}
use Rattle.sp_cert.specs.Texts.{block_text}
use Rattle.sp_cert.proofs.Pieces.{passed_more}
use Rattle.sp_cert.proofs.Written.{before_place}
use Rattle.sp_cert.proofs.writing.put_blocks.Goals as goal

pub loop-rank-preserved : goal.loop-rank-preserved
loop-rank-preserved c =
    let key = c.args.ctx.now in
    let rank = c.loop-rank.rank in
    let mu = label key rank in
    let same = ap length c.regulars-rank-end.ensures.value in
    let lt : rank < length (labels key) = omega (arith, c.loop-rank-test.true, same) in
    passed_more (block_text key.e key.degree)
    (λ nu. not (list_any (same_content key.e nu) (before nu (labels key)))) c.args.out.now.items
    c.loop-rank.out.items c.put_block_if.new.out.items (labels key) rank mu lt
    (sym (get_or_default (labels key) rank mu [] lt)) c.loop-rank.invariant
    (c.in_ok-put_block_if.ensures
    ∙ ap
    (λ zs.
    c.loop-rank.out.items ++ cond (not (list_any (same_content key.e mu) zs)) (block_text key.e key.degree mu) [])
    (sym (before_place (labels key) rank (regulars_ascend key.e key.degree) lt)))
