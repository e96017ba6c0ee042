use Rattle.std.proofs.Common.{◌++◌, ◌∙◌, ap}
use Rattle.sp_defs.specs.Text.{vector_text}
use Rattle.sp_replies.specs.Words.{line_of}
use Rattle.std.proofs.lemmas.Result.{on_ok_weaker}
use Rattle.sp_replies.proofs.Induced.{induced, never_too_large, powers_small}
use Rattle.sp_replies.proofs.vectors.put_induced.Goals as goal

pub induce-requires-clause-powers : goal.induce-requires-clause-powers
induce-requires-clause-powers c =
    powers_small c.args.p.now c.in_ok-one.one c.in_ok-one.ensures.partition c.in_ok-one.ensures.vector

pub returns-in-Ok : goal.returns-in-Ok
returns-in-Ok c =
    on_ok_weaker c.put_vector.result
    (λ is. is ∙ ap (λ es. c.args.out.now.items ++ line_of (vector_text es))
    (induced c.args.p.now c.in_ok-one.one c.in_ok-one.ensures.partition c.in_ok-one.ensures.vector c.args.e c.args.i
    c.args.m
    c.in-Ok.vector c.in-Ok.ensures.ok)) c.put_vector.ensures

pub unreachable-requires : goal.unreachable-requires
unreachable-requires c =
    never_too_large c.args.p.now c.in_ok-one.one c.in_ok-one.ensures.partition c.in_ok-one.ensures.vector c.args.e
    c.args.i c.args.m
    c.args.limit c.requires.least (c.in-Err-TooLarge.ensures.too_large (let fault = c.in-Err-TooLarge.field-0-is in cc))
