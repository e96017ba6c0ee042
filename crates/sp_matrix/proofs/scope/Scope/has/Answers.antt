use Rattle.std.proofs.Common.{sym, ◌∙◌, ap}
use Rattle.std.specs.Ordering.{is_eq}
use Rattle.sp_defs.specs.Partition.{compare}
use Rattle.sp_matrix.specs.Scope.{is_in}
use Rattle.sp_lists.proofs.Comparing.{same_equality}
use Rattle.sp_matrix.proofs.scope.Scope.has.Goals as goal

pub returns-in-Block : goal.returns-in-Block
returns-in-Block c =
    c.eq.ensures
    ∙ same_equality c.core.result c.in-Block.kappa
    ∙ ap (λ x. is_eq (compare x c.in-Block.kappa)) c.core.ensures
    ∙ ap (λ s. is_in c.args.e s c.args.p.now) (sym c.in-Block.is)
