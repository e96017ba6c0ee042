use Rattle.std.proofs.Common.{◌≡◌, refl, sym, ◌∙◌, ap, subst, IfOk}
use Rattle.sp_outcome_law.specs.Asking.{is_too_large}
use Rattle.sp_llt.specs.Place.{Progress, place, label}
use Rattle.sp_llt.specs.Reached.{row_at}
use Rattle.sp_llt.specs.Refusals.{outcome_at}
use Rattle.sp_llt.proofs.Giving.{not_decided, opened, is_entry, is_answer, next_share, other_outcome}
use Rattle.sp_llt.proofs.Tallies.{past_row}
use Rattle.sp_llt.proofs.builder.Builder.give.Goals as goal

pub unreachable-requires : goal.unreachable-requires
unreachable-requires c =
    not_decided c.args.self c.self.inside.ctx.now c.self.inside.rank c.self.inside.reached c.self.inside.state
    c.args.entry.now c.self.view_is c.self.invariant c.requires.asked c.requires.entry c.in_default.field-0
    c.in_default.is

-- ---- the entry has a row

pub take_off-requires : goal.take_off-requires
take_off-requires c =
    let key = c.self.inside.ctx.now in
    let kept = c.in-Open.unfinished in
    let entry = is_entry c.args.self key c.self.inside.rank c.self.inside.reached c.self.inside.state c.args.entry.now
    c.self.view_is c.self.invariant c.requires.asked c.requires.entry kept c.in-Open.is in
    record {
      place = c.self.invariant.place;
      asks = opened c.args.self key c.self.inside.rank c.self.inside.reached c.self.inside.state c.args.entry.now
          c.self.view_is c.self.invariant c.requires.asked c.requires.entry kept c.in-Open.is;
      row = c.in-Some.ensures.some ∙ ap row_at entry;
      fits = other_outcome (outcome_at (place key kept.next.rank))
          (λ large. let w = c.in-Some.ensures.none.1 (ap outcome_at entry ∙ large) in cc);
    }

pub returns-in-Some : goal.returns-in-Some
returns-in-Some c =
    subst (λ (p : Progress). IfOk c.take_off.result (λ b. b ≡ p))
    (is_answer c.args.self c.self.inside.ctx.now c.self.inside.rank c.self.inside.reached c.self.inside.state
    c.args.entry.now c.self.view_is c.self.invariant c.requires.asked c.requires.entry c.in-Open.unfinished
    c.in-Open.is) c.take_off.ensures

-- ---- it has none

pub too_large-requires : goal.too_large-requires
too_large-requires c =
    let key = c.self.inside.ctx.now in
    let rank = c.self.inside.rank in
    let t = c.self.inside.reached in
    let kept = c.in-Open.unfinished in
    let p = c.self.invariant.place.place in
    let entry = is_entry c.args.self key rank t c.self.inside.state c.args.entry.now c.self.view_is c.self.invariant
    c.requires.asked c.requires.entry kept c.in-Open.is in
    let asks = opened c.args.self key rank t c.self.inside.state c.args.entry.now c.self.view_is c.self.invariant
    c.requires.asked c.requires.entry kept c.in-Open.is in
    let n = next_share key rank t kept p asks in
    record {
      place = n.progress;
      past =
          past_row key rank p t kept.next.rank kept.next.alpha (label key kept.next.rank) asks.rank n.value
          asks.undecided
          (ap is_too_large (sym (ap outcome_at entry) ∙ c.in-None.ensures.none.0 refl));
    }

pub returns-in-None : goal.returns-in-None
returns-in-None c =
    c.too_large.ensures
    ∙ is_answer c.args.self c.self.inside.ctx.now c.self.inside.rank c.self.inside.reached c.self.inside.state
    c.args.entry.now c.self.view_is c.self.invariant c.requires.asked c.requires.entry c.in-Open.unfinished
    c.in-Open.is
