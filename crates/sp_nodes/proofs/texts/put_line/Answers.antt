use Rattle.std.proofs.Common.{◌≡◌, ◌++◌, [], cond, nat_lt, codes, take, length, ◌∙◌, ap, arith, rules}
use Rattle.std.specs.Fmt.{decimal}
use Rattle.sp_nodes.specs.Filling.{number_at}
use Rattle.sp_nodes.proofs.Lines.{cell_text, written_more, written_kept, written_line}
use Rattle.sp_nodes.proofs.texts.put_line.Goals as goal

pub returns-in_err-put_after-clause-kept : goal.returns-in_err-put_after-clause-kept
returns-in_err-put_after-clause-kept c =
    let old = c.args.out.now.items in
    let kept : take (length old) c.put_after.new.out.items ≡ old =
    written_kept old (cell_text (number_at c.args.filling c.args.p.now) c.args.row) c.loop-column.out.items
    c.put_after.new.out.items c.loop-column.column c.loop-column.invariant c.in_err-put_after.ensures.kept in
    search rules

pub loop-column-preserved : goal.loop-column-preserved
loop-column-preserved c =
    let column = c.loop-column.column in
    let space = cond (nat_lt 1 column) (codes " ") [] in
    written_more c.args.out.now.items (cell_text (number_at c.args.filling c.args.p.now) c.args.row)
    c.loop-column.out.items c.put_after.new.out.items column (space ++ decimal c.number_at-number.result) (omega arith)
    c.in_ok-put_after.ensures.text (ap (λ n. space ++ decimal n) c.number_at-number.ensures) c.loop-column.invariant

pub returns-clause-text : goal.returns-clause-text
returns-clause-text c =
    c.in_ok-push.ensures.items
    ∙ written_line c.args.out.now.items (number_at c.args.filling c.args.p.now) c.loop-column.out.items c.args.row
    c.loop-column.column _ (omega arith) c.loop-column.invariant
