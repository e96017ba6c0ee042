use Rattle.std.proofs.Common.{◌∙◌, arith}
use Rattle.sp_ranks.proofs.Overs.{rank_there, polynomial_read}
use Rattle.sp_ranks.proofs.vector.RankVector.terms.Goals as goal

pub terms-requires : goal.terms-requires
terms-requires c =
    omega (
      arith,
      c.self.invariant.count,
      rank_there _ _ _ _ c.args.place c.self.invariant c.self.view_is c.requires,
    )

pub returns-clause-value : goal.returns-clause-value
returns-clause-value c =
    c.terms.ensures.value
    ∙ polynomial_read _ _ _ _ c.args.place c.self.invariant c.self.view_is c.requires
