use Rattle.std.proofs.Common.{◌<◌, [], ◌++◌, length, sym, ap, arith}
use Rattle.std.proofs.lemmas.List.{get_or_default}
use Rattle.sp_llt.specs.Place.{label, labels}
use Rattle.sp_llt.proofs.Firsts.{first_count}
use Rattle.sp_cert.specs.Order.{same_content}
use Rattle.sp_cert.specs.Texts.{block_line, column_text}
use Rattle.sp_cert.proofs.Pieces.{passed_more}
use Rattle.sp_cert.proofs.writing.put_block.Goals as goal

pub put_column_if-requires-clause-row : goal.put_column_if-requires-clause-row
put_column_if-requires-clause-row c =
    let same = ap length c.regulars-rank-end.ensures.value in
    omega (
      arith,
      c.loop-rank-test.true,
      same,
      first_count c.args.ctx.now (length (labels c.args.ctx.now)) c.args.rows.now c.requires.filled,
    )

pub loop-rank-preserved : goal.loop-rank-preserved
loop-rank-preserved c =
    let key = c.args.ctx.now in
    let rank = c.loop-rank.rank in
    let mu = label key c.args.leader in
    let same = ap length c.regulars-rank-end.ensures.value in
    let lt : rank < length (labels key) = omega (arith, c.loop-rank-test.true, same) in
    passed_more (column_text key.e key.degree) (same_content key.e mu) (c.args.out.now.items ++ block_line key.e mu)
    c.loop-rank.out.items c.put_column_if.new.out.items (labels key) rank (label key rank) lt
    (sym (get_or_default (labels key) rank (label key rank) [] lt)) c.loop-rank.invariant c.in_ok-put_column_if.ensures
