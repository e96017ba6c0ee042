use Rattle.std.proofs.Common.{sym, ◌∙◌, subst}
use Rattle.sp_defs.specs.Power.{FockVector}
use Rattle.sp_llt.specs.Place.{Place, place}
use Rattle.sp_llt.specs.Laws.{ObeysRowLaw}
use Rattle.sp_llt.proofs.Laws.{obeys_row}
use Rattle.sp_llt.proofs.States.{told_whole}
use Rattle.sp_llt.proofs.entry.Entry.regular_row.Goals as goal

pub returns-in-Whole-clause-law : goal.returns-in-Whole-clause-law
returns-in-Whole-clause-law c =
    let key = c.self.inside.key in
    let rank = c.self.inside.rank in
    let whole = told_whole key rank c.self.inside.mu c.self.inside.found c.in-Whole.row c.in-Whole.shares
    c.in-Whole.stray
    c.self.invariant c.in-Whole.is in
    subst (λ (p : Place). ObeysRowLaw p c.vector.result.now.entries) c.self.view_is
    (subst (λ (v : FockVector). ObeysRowLaw (place key rank) v.entries) (sym (c.vector.ensures ∙ whole.row))
    (obeys_row key rank c.self.invariant.place))
