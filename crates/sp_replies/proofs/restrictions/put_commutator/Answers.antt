use Rattle.std.proofs.Common.{◌++◌, ◌∙◌, ap}
use Rattle.std.proofs.lemmas.Result.{on_ok_weaker}
use Rattle.sp_replies.proofs.Induced.{powers_small}
use Rattle.sp_replies.proofs.Restricted.{commuted}
use Rattle.sp_replies.proofs.restrictions.put_commutator.Goals as goal

pub put_commuted-requires-clause-powers : goal.put_commuted-requires-clause-powers
put_commuted-requires-clause-powers c =
    powers_small c.args.p.now c.in_ok-one.one c.in_ok-one.ensures.partition c.in_ok-one.ensures.vector

pub returns : goal.returns
returns c =
    on_ok_weaker c.put_commuted.result
    (λ is. is ∙ ap (λ text. c.args.out.now.items ++ text)
    (commuted c.args.p.now c.in_ok-one.one c.in_ok-one.ensures.partition c.in_ok-one.ensures.vector c.args.limit
    c.args.e c.args.i c.args.j)) c.put_commuted.ensures
