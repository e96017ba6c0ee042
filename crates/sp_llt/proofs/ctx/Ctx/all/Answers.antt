use Rattle.std.proofs.Common.{length, ◌∙◌, ap, arith}
use Rattle.sp_row_bounds.proofs.Ranks.{count_law}
use Rattle.sp_llt.proofs.ctx.Ctx.all.Goals as goal

pub returns-clause-few : goal.returns-clause-few
returns-clause-few c = omega (
  arith,
  ap length (c.deref.ensures.value ∙ c.self.invariant.listed),
  count_law.up_to_30 c.self.inside.key.degree (omega (arith, c.self.invariant.held.degree)),
)
