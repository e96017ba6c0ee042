use Rattle.std.proofs.Common.{◌≡◌, sym, ◌∙◌, ap, ap₂, subst}
use Rattle.sp_fock_law.specs.Joined.{joined}
use Rattle.sp_fock.specs.Held.{IsHeld}
use Rattle.sp_fock.proofs.Adding.{weight_tested, fit_moved}
use Rattle.sp_fock.proofs.vector.Vector.sum_fits.Goals as goal

pub returns : goal.returns
returns c =
    let v = c.args.self.now in
    let w = c.args.w.now in
    let limit = c.args.limit in
    let tested = weight_tested v w (subst IsHeld c.self.view_is c.self.invariant)
    (subst IsHeld c.w.view_is c.w.invariant) c.requires c.args.a.now limit in
    let walk : joined c.deref.result.now c.deref-2.result.now ≡ joined v.entries w.entries =
    ap₂ joined (c.deref.ensures.value ∙ ap (λ x. x.entries) c.self.view_is)
    (c.deref-2.ensures.value ∙ ap (λ x. x.entries) c.w.view_is) in (
      (λ t. tested.1 (fit_moved limit _ _ _ _ c.size.ensures.value walk (c.all_fit.ensures.0 t))),
      (λ h. c.all_fit.ensures.1 (fit_moved limit _ _ _ _ (sym c.size.ensures.value) (sym walk) (tested.0 h))),
    )
