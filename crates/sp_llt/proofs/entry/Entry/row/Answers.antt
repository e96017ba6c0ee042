use Rattle.std.proofs.Common.{sym, ◌∙◌, ap, subst}
use Rattle.sp_defs.specs.Row.{IsRow, regular_row}
use Rattle.sp_outcome_law.proofs.Decided.{row_of, stray_of}
use Rattle.sp_llt.specs.Place.{Place, label}
use Rattle.sp_llt.specs.Refusals.{outcome_at}
use Rattle.sp_llt.proofs.Labels.{label_facts}
use Rattle.sp_llt.proofs.NoStray.{row_without_stray}
use Rattle.sp_llt.proofs.States.{told_whole}
use Rattle.sp_llt.proofs.entry.Entry.row.Goals as goal

pub returns-in-Some-clause-outcome : goal.returns-in-Some-clause-outcome
returns-in-Some-clause-outcome c =
    let key = c.self.inside.key in
    let rank = c.self.inside.rank in
    let whole = told_whole key rank c.self.inside.mu c.self.inside.found c.in-Whole.row c.in-Whole.shares
    c.in-Whole.stray
    c.self.invariant c.in-Whole.is in
    sym (stray_of key.e key.limit (label key rank) c.in-Some.at whole.fits (sym whole.stray ∙ c.in-Some.is))
    ∙ ap outcome_at c.self.view_is

pub returns-in-None-clause-outcome : goal.returns-in-None-clause-outcome
returns-in-None-clause-outcome c =
    let key = c.self.inside.key in
    let rank = c.self.inside.rank in
    let whole = told_whole key rank c.self.inside.mu c.self.inside.found c.in-Whole.row c.in-Whole.shares
    c.in-Whole.stray
    c.self.invariant c.in-Whole.is in
    sym (row_of key.e key.limit (label key rank) whole.fits (sym whole.stray ∙ c.in-None.is)) ∙ ap outcome_at
    c.self.view_is

pub returns-in-None-clause-is_row : goal.returns-in-None-clause-is_row
returns-in-None-clause-is_row c =
    let key = c.self.inside.key in
    let rank = c.self.inside.rank in
    let whole = told_whole key rank c.self.inside.mu c.self.inside.found c.in-Whole.row c.in-Whole.shares
    c.in-Whole.stray
    c.self.invariant c.in-Whole.is in
    subst (λ (p : Place). IsRow p.key.e (label p.key p.rank) (regular_row p.key.e (label p.key p.rank))) c.self.view_is
    (row_without_stray key.e (label key rank) (label_facts key rank c.self.invariant.place).is_label
    (sym whole.stray ∙ c.in-None.is))
