use Rattle.std.proofs.Common.{◌++◌, ◌∙◌, sym, ap}
use Rattle.sp_replies.specs.Signatures.{image_or_refusal}
use Rattle.sp_replies.proofs.Images.{refused}
use Rattle.std.proofs.lemmas.Result.{on_ok_weaker}
use Rattle.sp_replies.proofs.signatures.put_image.Goals as goal

pub returns-in-Ok : goal.returns-in-Ok
returns-in-Ok c =
    let image_is = (c.mullineux.ensures.image c.in-Ok.image).0 c.in-Ok.is in
    on_ok_weaker c.put_line.result
    (λ is. is ∙ ap (λ image. c.args.out.now.items ++ image_or_refusal image) (sym image_is)) c.put_line.ensures

pub returns-in-Err : goal.returns-in-Err
returns-in-Err c =
    let none = refused c.mullineux.result c.in-Err.field-0 _ c.in-Err.is c.mullineux.ensures.image in
    on_ok_weaker c.put_refusal.result
    (λ is. is ∙ ap (λ image. c.args.out.now.items ++ image_or_refusal image) (sym none)) c.put_refusal.ensures
