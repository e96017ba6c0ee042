use Rattle.sp_outcome_law.proofs.Asked.{asked_past}
use Rattle.sp_llt.specs.Place.{label}
use Rattle.sp_llt.proofs.Asks.{past_outcome}
use Rattle.sp_llt.proofs.builder.Builder.too_large.Goals as goal

pub invariant_of-result : goal.invariant_of-result
invariant_of-result c =
    let key = c.args.ctx.now in
    record {
      place = c.requires.place;
      row = record {
        none = asked_past key.e key.limit (label key c.args.rank) c.args.reached c.requires.past;
        found = past_outcome key c.args.rank c.requires.place.place c.args.reached c.requires.past;
      };
    }
