use Rattle.std.proofs.Common.{◌≡◌, ◌≢◌, ◌<◌, sym, ◌∙◌, subst, None, Some}
use Rattle.sp_defs.specs.Row.{outcome, TooLarge}
use Rattle.sp_defs.specs.Statements.{SameContent}
use Rattle.sp_outcome_law.specs.Asking.{asked, next_rank}
use Rattle.sp_outcome_law.proofs.Asked.{asked_open}
use Rattle.sp_llt.specs.Place.{Progress, IsProgress, label}
use Rattle.sp_llt.proofs.Asks.{next_facts, none_to_come}
use Rattle.sp_llt.proofs.States.{told_open, told_decided}
use Rattle.sp_llt.proofs.builder.Builder.ask.Goals as goal

pub returns-in-Open : goal.returns-in-Open
returns-in-Open c =
    let key = c.self.inside.ctx.now in
    let rank = c.self.inside.rank in
    let t = c.self.inside.reached in
    let j = c.in-Open.unfinished.next.rank in
    let view = c.self.view_is in
    let is = told_open key rank t c.self.inside.state c.in-Open.unfinished c.self.invariant c.in-Open.is in
    let facts = next_facts key rank c.self.invariant.place.place t j is.rank in
    record {
      asks = subst (λ (b : Progress). Some j ≡ asked b.key.e b.key.limit (label b.key b.rank) b.reached) view
          (sym (asked_open key.e key.limit (label key rank) t is.undecided ∙ is.rank));
      shares = λ fits. subst (λ (b : Progress). Some j ≡ next_rank b.key.e (label b.key b.rank) b.reached) view
          (sym is.rank);
      falls = subst (λ (b : Progress). j < b.reached) view facts.lower;
      earlier = subst (λ (b : Progress). j < b.rank) view facts.earlier;
      content = subst (λ (b : Progress). SameContent b.key.e (label b.key b.rank) (label b.key j)) view facts.content;
      held = subst IsProgress view c.self.invariant.place;
    }

pub returns-in-Decided : goal.returns-in-Decided
returns-in-Decided c =
    let key = c.self.inside.ctx.now in
    let rank = c.self.inside.rank in
    let t = c.self.inside.reached in
    let view = c.self.view_is in
    let is = told_decided key rank t c.self.inside.state c.in-Decided.field-0 c.self.invariant c.in-Decided.is in
    record {
      asks = subst (λ (b : Progress). None ≡ asked b.key.e b.key.limit (label b.key b.rank) b.reached) view
          (sym is.none);
      shares = subst
          (λ (b : Progress). outcome b.key.e b.key.limit (label b.key b.rank) ≢ TooLarge →
          None ≡ next_rank b.key.e (label b.key b.rank) b.reached) view
          (λ fits. sym (none_to_come key rank c.self.invariant.place.place t is.none fits));
      falls = tt;
      earlier = tt;
      content = tt;
      held = subst IsProgress view c.self.invariant.place;
    }
