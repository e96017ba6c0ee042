use Rattle.std.proofs.Common.{true, ◌++◌, ap, ◌∙◌, subst}
use Rattle.sp_stream.specs.Summary.{IsWith}
use Rattle.sp_stream.proofs.Summing.{sum_with_reply}
use Rattle.sp_stream.proofs.summary.with_reply.Goals as goal

pub returns-clause-sums : goal.returns-clause-sums
returns-clause-sums g c =
    let reply = (g.A.Answers.rules c.args.answers.now).reply (g.A.Answers.state c.args.answers.now) c.args.line.now in
    let text_is = c.deref.ensures.value ∙ c.in_ok-answer.ensures.reply ∙ ap (λ t. t ++ reply) c.clear.ensures.items in
    λ texts h.
    sum_with_reply texts reply c.args.summary c.with_text.result
    (subst (λ t. IsWith true t c.args.summary c.with_text.result) text_is c.with_text.ensures.is) h
