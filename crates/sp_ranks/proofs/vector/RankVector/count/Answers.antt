use Rattle.std.proofs.Common.{length, ap, arith}
use Rattle.sp_ranks.proofs.Overs.{length-entries_over, few_ranks}
use Rattle.sp_row_bounds.proofs.Counts.{up_to_30}
use Rattle.sp_ranks.proofs.vector.RankVector.count.Goals as goal

pub returns-clause-value : goal.returns-clause-value
returns-clause-value c =
    let v = c.self.inside in
    omega (
      arith,
      ap (λ w. length w.entries) c.self.view_is,
      length-entries_over v.degree v.ranks.items v.polynomials c.self.invariant.count,
    )

pub returns-clause-few : goal.returns-clause-few
returns-clause-few c =
    let v = c.self.inside in
    omega (
      arith,
      few_ranks v.degree v.ranks.items v.polynomials c.self.invariant,
      up_to_30 v.degree c.self.invariant.small,
    )
