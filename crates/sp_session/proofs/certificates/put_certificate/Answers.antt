use Rattle.std.proofs.Common.{◌++◌, Err, sym, ◌∙◌, ap, subst}
use Rattle.std.proofs.lemmas.Result.{on_ok_weaker}
use Rattle.sp_llt.specs.Filled.{IsFilled}
use Rattle.sp_replies.specs.Refusals.{refusal_line}
use Rattle.sp_session.proofs.Refused.{whole_reply, refused_reply}
use Rattle.sp_session.proofs.certificates.put_certificate.Goals as goal

pub returns-in-Ok : goal.returns-in-Ok
returns-in-Ok g c =
    let filled = subst (IsFilled c.in_ok-ctx.ctx) (sym c.deref.ensures.value) c.in_ok-rows.ensures in
    c.in-Ok.ensures.text
    ∙ ap (λ text. c.args.out.now.items ++ text)
    (whole_reply c.args.limit c.args.e c.args.n c.in_ok-ctx.ctx c.in_ok-ctx.ensures c.deref.result.now filled
    c.in-Ok.ensures.whole)

pub returns-in-Err-Refused : goal.returns-in-Err-Refused
returns-in-Err-Refused g c =
    let filled = subst (IsFilled c.in_ok-ctx.ctx) (sym c.deref.ensures.value) c.in_ok-rows.ensures in
    let refused = c.in-Err-Refused.refused in
    on_ok_weaker c.put_refusal.result
    (λ is. is
    ∙ ap (λ before. before ++ refusal_line c.from.result) c.in-Err-Refused.ensures.kept
    ∙ ap (λ why. c.args.out.now.items ++ refusal_line why) c.from.ensures
    ∙ ap (λ text. c.args.out.now.items ++ text)
    (refused_reply c.args.limit c.args.e c.args.n c.in_ok-ctx.ctx c.in_ok-ctx.ensures c.deref.result.now filled refused
    (c.in-Err-Refused.ensures.refused refused (ap Err c.in-Err-Refused.field-0-is))))
    c.put_refusal.ensures
