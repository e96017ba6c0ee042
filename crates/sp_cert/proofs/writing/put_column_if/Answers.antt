use Rattle.std.proofs.Common.{cond, [], ◌++◌, sym, ◌∙◌, ap}
use Rattle.sp_llt.specs.Place.{Place, label, labels}
use Rattle.sp_llt.specs.Refusals.{outcome_at}
use Rattle.sp_cert.specs.Texts.{column_text}
use Rattle.sp_cert.proofs.Written.{row_in}
use Rattle.sp_cert.proofs.writing.put_column_if.Goals as goal

pub put_column-requires-clause-key : goal.put_column-requires-clause-key
put_column-requires-clause-key c =
    let row = row_in c.args.ctx.now c.args.rows.now c.args.rank c.index-rows-rank.result c.requires.filled
    c.requires.whole c.requires.rank c.index-rows-rank.is in
    ap (λ (p : Place). p.key) (c.deref.ensures ∙ row.is)

pub put_column-requires-clause-fits : goal.put_column-requires-clause-fits
put_column-requires-clause-fits c =
    let row = row_in c.args.ctx.now c.args.rows.now c.args.rank c.index-rows-rank.result c.requires.filled
    c.requires.whole c.requires.rank c.index-rows-rank.is in
    ap outcome_at c.deref.ensures ∙ row.row

pub returns-in_ok-put_column : goal.returns-in_ok-put_column
returns-in_ok-put_column c =
    let key = c.args.ctx.now in
    let row = row_in key c.args.rows.now c.args.rank c.index-rows-rank.result c.requires.filled
    c.requires.whole c.requires.rank c.index-rows-rank.is in
    let passes = sym c.if-is_same.true ∙ c.is_same.ensures key.e (labels key) c.requires.contents in
    c.in_ok-put_column.ensures
    ∙ ap (λ r. c.args.out.now.items ++ column_text key.e key.degree (label key r))
    (ap (λ (p : Place). p.rank) (c.deref.ensures ∙ row.is))
    ∙ ap (λ b. c.args.out.now.items ++ cond b (column_text key.e key.degree (label key c.args.rank)) []) passes
