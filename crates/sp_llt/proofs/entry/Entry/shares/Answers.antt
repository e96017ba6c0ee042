use Rattle.std.proofs.Common.{sym, ◌∙◌, subst}
use Rattle.std.specs.List.{AllByRecursion}
use Rattle.sp_llt.specs.Place.{Place, place}
use Rattle.sp_llt.specs.Laws.{ObeysShareLaw}
use Rattle.sp_llt.proofs.Laws.{obey_shares}
use Rattle.sp_llt.proofs.States.{told_whole}
use Rattle.sp_llt.proofs.entry.Entry.shares.Goals as goal

pub returns-in-Whole-clause-law : goal.returns-in-Whole-clause-law
returns-in-Whole-clause-law c =
    let key = c.self.inside.key in
    let rank = c.self.inside.rank in
    let whole = told_whole key rank c.self.inside.mu c.self.inside.found c.in-Whole.row c.in-Whole.shares
    c.in-Whole.stray
    c.self.invariant c.in-Whole.is in
    subst (λ (p : Place). AllByRecursion (ObeysShareLaw p) c.deref.result.now) c.self.view_is
    (subst (AllByRecursion (ObeysShareLaw (place key rank))) (sym (c.deref.ensures.value ∙ whole.shares))
    (obey_shares key rank c.self.invariant.place))
