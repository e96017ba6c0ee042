use Rattle.std.proofs.Common.{◌∙◌, ◌++◌, ap, pos, sym}
use Rattle.sp_laurent.proofs.Texts.{no_text, written_all}
use Rattle.sp_laurent.proofs.text.print_terms.Goals as goal

pub returns-in_default-clause-ok : goal.returns-in_default-clause-ok
returns-in_default-clause-ok c =
    c.in_ok-push.ensures.items ∙ ap (λ t. c.args.out.now.items ++ t)
    (sym (no_text c.args.terms.now c.in_default.len_below))

pub returns-clause-ok : goal.returns-clause-ok
returns-clause-ok c =
    written_all c.args.out.now.items c.loop-term.out.items c.args.terms.now (pos 0, pos 0) c.loop-term.term-index
    c.in-len1-up.len_at_least c.loop-term-test.false c.loop-term.invariant
