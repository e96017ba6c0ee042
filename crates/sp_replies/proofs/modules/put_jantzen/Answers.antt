use Rattle.std.proofs.Common.{◌∙◌, ap}
use Rattle.std.proofs.lemmas.Result.{on_ok_weaker}
use Rattle.sp_defs.specs.Partition.{degree}
use Rattle.sp_defs.specs.Power.{fock_vector}
use Rattle.sp_lang.specs.Convention.{label_in}
use Rattle.sp_module_defs.specs.Jantzen.{jantzen_sum}
use Rattle.sp_replies.proofs.Conventions.{told_line}
use Rattle.sp_replies.proofs.modules.put_jantzen.Goals as goal

pub returns : goal.returns
returns c =
    let e = c.args.e in
    let mu = label_in c.args.convention c.args.label.now in
    on_ok_weaker c.put_vector_in.result
    (λ is. is
    ∙ told_line c.args.convention (degree mu) (jantzen_sum e mu) c.in_ok-sum.sum
    (c.in_ok-sum.ensures ∙ ap (λ x. fock_vector (degree x) (jantzen_sum e x)) c.label.ensures) c.args.out.now.items)
    c.put_vector_in.ensures
