use Rattle.std.proofs.Common.{◌≤◌, ◌++◌, cond, sym, ◌∙◌, ap, subst}
use Rattle.std.proofs.lemmas.Result.{on_ok_weaker}
use Rattle.sp_defs.specs.Ladder.{ladder_vector, ladder_weight}
use Rattle.sp_defs.specs.Partition.{degree}
use Rattle.sp_defs.specs.Power.{fock_vector}
use Rattle.sp_lang.specs.Convention.{label_in}
use Rattle.sp_replies.specs.Labels.{vector_line}
use Rattle.sp_replies.specs.Refusals.{refusal_line}
use Rattle.sp_replies.specs.declared.refusals.Refusal.TheVariants.{TooLarge}
use Rattle.sp_replies.proofs.Conventions.{not_past, told_line}
use Rattle.sp_replies.proofs.vectors.put_ladder_vector.Goals as goal

pub returns-in-Ok : goal.returns-in-Ok
returns-in-Ok c =
    let e = c.args.e in
    let limit = c.args.limit in
    let out = c.args.out.now.items in
    let mu = label_in c.args.convention c.args.label.now in
    let fits : ladder_weight e mu ≤ limit =
    subst (λ x. ladder_weight e x ≤ limit) c.label.ensures c.in-Ok.ensures.fits in
    let line = vector_line c.args.convention (degree mu) (ladder_vector e mu) in
    on_ok_weaker c.put_vector_in.result
    (λ is. is
    ∙ told_line c.args.convention (degree mu) (ladder_vector e mu) c.in-Ok.vector
    (c.in-Ok.ensures.vector ∙ ap (λ x. fock_vector (degree x) (ladder_vector e x)) c.label.ensures) out
    ∙ ap (λ b. out ++ cond b (refusal_line TooLarge) line) (sym (not_past limit (ladder_weight e mu) fits)))
    c.put_vector_in.ensures
