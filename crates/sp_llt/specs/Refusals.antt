-- Refused entries of a list.
use Rattle.std.specs.Prelude.{ℕ, List, Option, None, Some, [], ◌∷◌}
use Rattle.sp_defs.specs.Row.{Outcome, outcome, TooLarge, Stray, Row}
use Rattle.sp_llt.specs.declared.refused.Refused.TheVariants as refused
use Rattle.sp_llt.specs.declared.refused.FirstRefused.{FirstRefused}
use Rattle.sp_llt.specs.Place.{Place, label}

-- The outcome of an entry.
abbrev pub outcome_at : Place → Outcome
outcome_at p = outcome p.key.e p.key.limit (label p.key p.rank)

-- Why an outcome of mu is no row, with mu.
abbrev pub refused_as : List ℕ → Outcome → Option FirstRefused
refused_as mu TooLarge = Some (record { mu = mu; why = refused.TooLarge })
refused_as mu (Stray at) = Some (record { mu = mu; why = refused.Stray at })
refused_as mu Row = None

-- An entry's partition and why it has no row, if it has none.
abbrev pub refusal : Place → Option FirstRefused
refusal p = refused_as (label p.key p.rank) (outcome_at p)

-- The first, if there is one, or else the second.
abbrev pub or_else : Option FirstRefused → Option FirstRefused → Option FirstRefused
or_else None second = second
or_else (Some found) second = Some found

-- The first refused entry of a list.
unfoldable pub first_refusal : List Place → Option FirstRefused
first_refusal [] = None
first_refusal (p ∷ ps) = or_else (refusal p) (first_refusal ps)
