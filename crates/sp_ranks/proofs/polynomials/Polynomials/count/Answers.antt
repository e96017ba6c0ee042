use Rattle.std.proofs.Common.{length, ap, arith}
use Rattle.sp_ranks.proofs.Pieces.{length-pieces}
use Rattle.sp_ranks.proofs.polynomials.Polynomials.count.Goals as goal

pub returns : goal.returns
returns c =
    omega (arith, ap length c.self.view_is, length-pieces 0 c.self.inside.ends.items c.self.inside.terms.items)
