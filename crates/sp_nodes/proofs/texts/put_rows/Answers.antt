use Rattle.std.proofs.Common.{◌≡◌, ◌++◌, ◌<◌, take, length, refl, sym, ◌∙◌, ap, arith, rules}
use Rattle.sp_nodes.specs.Filling.{number_at}
use Rattle.sp_nodes.specs.Texts.{row_line}
use Rattle.sp_nodes.proofs.Lines.{written_more, written_kept, written_all, grid-lines}
use Rattle.sp_nodes.proofs.texts.put_rows.Goals as goal

pub returns-in_err-put_line-clause-kept : goal.returns-in_err-put_line-clause-kept
returns-in_err-put_line-clause-kept c =
    let old = c.args.out.now.items in
    let kept : take (length old) c.put_line.new.out.items ≡ old =
    written_kept old (row_line (number_at c.args.filling c.args.p.now) c.args.p.now) c.loop-row.out.items
    c.put_line.new.out.items c.loop-row.row c.loop-row.invariant c.in_err-put_line.ensures.kept in
    search rules

pub loop-row-preserved : goal.loop-row-preserved
loop-row-preserved c =
    let lines = row_line (number_at c.args.filling c.args.p.now) c.args.p.now in
    written_more c.args.out.now.items lines c.loop-row.out.items c.put_line.new.out.items c.loop-row.row
    (lines c.loop-row.row) (omega arith) c.in_ok-put_line.ensures.text refl c.loop-row.invariant

pub returns-clause-text : goal.returns-clause-text
returns-clause-text c =
    let p = c.args.p.now in
    let number = number_at c.args.filling p in
    let some : 0 < length p = omega arith in
    written_all c.args.out.now.items (row_line number p) c.loop-row.out.items c.loop-row.row _ (omega arith)
    c.loop-row.invariant
    ∙ ap (λ xs. c.args.out.now.items ++ xs) (sym (grid-lines number p some))
