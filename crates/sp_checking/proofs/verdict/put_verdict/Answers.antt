use Rattle.std.proofs.Common.{◌++◌, ◌∙◌, ap}
use Rattle.std.proofs.lemmas.Result.{on_ok_weaker}
use Rattle.sp_checking.proofs.Verdicts.{accepted, failing, of_columns}
use Rattle.sp_checking.proofs.verdict.put_verdict.Goals as goal

pub returns-in-Ok : goal.returns-in-Ok
returns-in-Ok c =
    on_ok_weaker c.put_accepted.result
    (λ is. is ∙ ap (λ text. c.args.out.now.items ++ text)
    (accepted c.args.limit c.args.certificate.now c.columns.result.now c.columns.ensures.value
    c.in-Ok.ensures.accepted))
    c.put_accepted.ensures

pub put_failing-requires : goal.put_failing-requires
put_failing-requires c = of_columns c.args.limit c.args.certificate.now c.in-Err.fault c.in-Err.ensures.refused

pub returns-in-Err : goal.returns-in-Err
returns-in-Err c =
    on_ok_weaker c.put_failing.result
    (λ is. is.1 ∙ ap (λ text. c.args.out.now.items ++ text)
    (failing c.args.limit c.args.certificate.now c.in-Err.fault c.in-Err.ensures.refused is.0))
    c.put_failing.ensures
