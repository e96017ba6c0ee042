use Rattle.std.proofs.Common.{sym, subst}
use Rattle.sp_core.specs.declared.piece.Key.{Key}
use Rattle.sp_llt.specs.Places.{ArePlaces}
use Rattle.sp_llt.proofs.ctx.Ctx.places.Goals as goal

pub returns : goal.returns
returns c =
    subst (λ (k : Key). ArePlaces k c.deref.result.now) c.self.view_is
    (subst (ArePlaces c.self.inside.key) (sym c.deref.ensures.value) c.self.invariant.stand)
