-- An exponent and a power of a pair are far from the limit together.
use Rattle.std.proofs.Common.{ap, sym, refl}
use Rattle.sp_power.proofs.Summing.{share_near}
use Rattle.sp_power.proofs.runs.plus_share.Goals as goal

pub plus_shifted_within-requires-clause-within : goal.plus_shifted_within-requires-clause-within
plus_shifted_within-requires-clause-within c =
    share_near c.args.pairs.now c.args.arrival.now c.arrival.inside.source c.arrival.inside.exponent _
    c.index-pairs-arrival.result c.requires.brought (sym (ap (λ t. t.1) c.arrival.view_is))
    (sym (ap (λ t. t.2) c.arrival.view_is)) refl
