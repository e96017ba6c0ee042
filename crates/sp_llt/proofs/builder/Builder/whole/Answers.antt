use Rattle.std.proofs.Common.{ℕ, List, reverse, ◌∙◌, ap, Option}
use Rattle.std.specs.List.{find}
use Rattle.std.specs.Option.{option_map}
use Rattle.sp_defs.specs.Power.{FockVector}
use Rattle.sp_outcome_law.proofs.Asked.{asked_open}
use Rattle.sp_llt.specs.Place.{label}
use Rattle.sp_llt.specs.Search.{is_stray_entry}
use Rattle.sp_llt.proofs.Asks.{none_undecided}
use Rattle.sp_llt.proofs.Found.{whole}
use Rattle.sp_llt.proofs.Labels.{read_label}
use Rattle.sp_llt.proofs.builder.Builder.whole.Goals as goal

abbrev stray_of : List ℕ → FockVector → Option (List ℕ)
stray_of mu v = option_map (λ t. t.0) (find (is_stray_entry mu) (reverse v.entries))

pub invariant_of-result : goal.invariant_of-result
invariant_of-result c =
    let key = c.args.ctx.now in
    let mu = label key c.args.rank in
    let undecided = none_undecided key mu c.args.reached c.requires.within c.requires.last in
    let is = read_label key c.args.rank c.regulars.result.now c.index-regulars-rank.result c.regulars.ensures.value
    c.requires.place.place.rank c.index-regulars-rank.is in
    record {
      place = c.requires.place;
      row = record {
        none = asked_open key.e key.limit mu c.args.reached undecided ∙ c.requires.last;
        found = whole key c.args.rank c.requires.place.place c.args.reached c.args.row c.args.shares.items
            c.stray_in-stray.result undecided c.requires.last c.requires.left c.requires.given
            (c.stray_in-stray.ensures ∙ ap (λ m. stray_of m c.vector.result.now) is
            ∙ ap (stray_of mu) c.vector.ensures);
      };
    }
