use Rattle.std.proofs.Common.{◌≡◌, sym, ◌∙◌, subst, None, Some}
use Rattle.sp_outcome_law.specs.Asking.{asked}
use Rattle.sp_outcome_law.proofs.Asked.{asked_open}
use Rattle.sp_core.specs.declared.piece.Key.{Key}
use Rattle.sp_llt.specs.Found.{IsKept, IsFound}
use Rattle.sp_llt.specs.Place.{Progress, label}
use Rattle.sp_llt.proofs.Labels.{read_label}
use Rattle.sp_llt.proofs.States.{told_open, told_decided}
use Rattle.sp_llt.proofs.builder.Builder.finish.Goals as goal

pub unreachable-requires : goal.unreachable-requires
unreachable-requires c =
    let key = c.self.inside.ctx.now in
    let rank = c.self.inside.rank in
    let t = c.self.inside.reached in
    let opened = told_open key rank t c.self.inside.state c.in-Open.field-0 c.self.invariant c.in-Open.is in
    let none = subst (λ (b : Progress). asked b.key.e b.key.limit (label b.key b.rank) b.reached ≡ None)
    (sym c.self.view_is) c.requires in
    let some : None ≡ Some c.in-Open.field-0.next.rank =
    sym none ∙ asked_open key.e key.limit (label key rank) t opened.undecided ∙ opened.rank in
    cc

pub new-requires : goal.new-requires
new-requires c =
    let key = c.self.inside.ctx.now in
    let rank = c.self.inside.rank in
    let place = c.self.invariant.place.place in
    let is = read_label key rank c.regulars.result.now c.index-regulars-rank.result c.regulars.ensures.value place.rank
    c.index-regulars-rank.is in
    let decided = told_decided key rank c.self.inside.reached c.self.inside.state c.in-Decided.found c.self.invariant
    c.in-Decided.is in
    subst (λ (k : Key). IsKept k rank c.index-regulars-rank.result c.in-Decided.found) (sym c.key.ensures.value)
    (record {
      place = place;
      mu = is;
      found = subst (λ m. IsFound key m c.in-Decided.found) (sym is) decided.found;
    })
