use Rattle.std.proofs.Common.{subst}
use Rattle.sp_defs.specs.Power.{IsVector}
use Rattle.sp_ranks.proofs.Overs.{is_vector}
use Rattle.sp_ranks.proofs.vector.RankVector.degree.Goals as goal

pub returns-clause-held : goal.returns-clause-held
returns-clause-held c =
    subst (λ v. IsVector v.degree v.entries) c.self.view_is
    (is_vector c.self.inside.degree c.self.inside.ranks.items c.self.inside.polynomials c.self.invariant)
