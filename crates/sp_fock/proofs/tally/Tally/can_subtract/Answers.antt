use Rattle.std.proofs.Common.{◌≡◌, sym, ◌∙◌, ap, ap₂, subst}
use Rattle.sp_fock_law.specs.Joined.{joined}
use Rattle.sp_fock_law.specs.Tally.{IsTally, constants}
use Rattle.sp_fock.proofs.Adding.{fit_moved}
use Rattle.sp_fock.proofs.Tallies.{fits_exactly}
use Rattle.sp_fock.proofs.tally.Tally.can_subtract.Goals as goal

pub returns : goal.returns
returns c =
    let t = c.args.self.now in
    let w = c.args.w.now in
    let limit = c.args.limit in
    let tested = fits_exactly t (subst IsTally c.self.view_is c.self.invariant) c.args.a.now w c.pairs.ensures.held
    c.requires limit in
    let walk : joined (constants c.deref.result.now) c.pairs.result.now ≡ joined (constants t.totals) w.entries =
    ap₂ (λ ts es. joined (constants ts) es) (c.deref.ensures.value ∙ ap (λ x. x.totals) c.self.view_is)
    c.pairs.ensures.value in (
      (λ b. tested.1 (fit_moved limit _ _ _ _ c.size.ensures.value walk (c.totals_fit.ensures.0 b))),
      (λ h. c.totals_fit.ensures.1 (fit_moved limit _ _ _ _ (sym c.size.ensures.value) (sym walk) (tested.0 h))),
    )
