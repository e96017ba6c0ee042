use Rattle.std.proofs.Common.{◌++◌, ◌∙◌, sym, ap, arith}
use Rattle.std.proofs.lemmas.Result.{on_ok_weaker}
use Rattle.sp_replies.specs.Refusals.{refusal_line}
use Rattle.sp_replies.proofs.Finding.{found, made_text, refused_text}
use Rattle.sp_replies.proofs.abacuses.put_combined.Goals as goal

pub returns-in-Ok : goal.returns-in-Ok
returns-in-Ok c =
    let e = c.args.e in
    let kappa = c.args.kappa.now in
    let quotients = c.args.quotient.now in
    on_ok_weaker c.put_line.result
    (λ is. is ∙ ap (λ text. c.args.out.now.items ++ text)
    (sym (made_text e kappa quotients c.combine.result c.in-Ok.p c.in-Ok.is c.combine.ensures.not_core
    c.combine.ensures.wrong_count c.combine.ensures.past_degree
    (λ small. found e kappa quotients c.in-Ok.p c.requires.e_least c.degree.ensures.held.partition
    c.in-Ok.ensures.has.0 c.in-Ok.ensures.has.1
    (λ q is_q core_is quotient_is.
    let given = c.combine.ensures.given_back q is_q.partition (omega (arith, is_q.total)) core_is quotient_is in
    let same = c.in-Ok.is in cc))))) c.put_line.ensures

pub returns-in-Err : goal.returns-in-Err
returns-in-Err c =
    on_ok_weaker c.put_refusal.result
    (λ is. is ∙ ap (λ text. c.args.out.now.items ++ text)
    (ap refusal_line c.from.ensures
    ∙ sym (refused_text c.args.e c.args.kappa.now c.args.quotient.now c.combine.result c.in-Err.fault c.in-Err.is
    c.combine.ensures.not_core c.combine.ensures.wrong_count c.combine.ensures.past_degree)))
    c.put_refusal.ensures
