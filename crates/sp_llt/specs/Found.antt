-- What an entry keeps of its row.
use Rattle.std.specs.Prelude.{◌≡◌, ℕ, false, List, Option, Result, Ok, Err}
use Rattle.std.specs.Borrow.{Bor}
use Rattle.sp_defs.specs.Power.{FockVector, fock_vector}
use Rattle.sp_defs.specs.Row.{regular_row, stray, outcome, Outcome, TooLarge, Stray, Row}
use Rattle.sp_core.specs.declared.piece.Key.{Key}
use Rattle.sp_outcome_law.specs.Asking.{is_too_large}
use Rattle.sp_llt.specs.declared.share.Share.{Share}
use Rattle.sp_llt.specs.declared.entry.Found.{Found}
use Rattle.sp_llt.specs.declared.entry.Found.TheVariants as found
use Rattle.sp_llt.specs.declared.refused.Refused.{Refused}
use Rattle.sp_llt.specs.declared.refused.Refused.TheVariants as refused
use Rattle.sp_llt.specs.Place.{label, place, IsPlace}
use Rattle.sp_llt.specs.Shares.{given_shares}

-- The regular row, its shares and its stray partition, where the row isn't too large.
pub record IsWhole (key : Key) (mu : List ℕ) (vector : FockVector) (given : List Share) (at : Option (List ℕ)) :
    Type 0 where
  pub fits : is_too_large (outcome key.e key.limit mu) ≡ false
  pub row : vector ≡ fock_vector key.degree (regular_row key.e mu)
  pub shares : given ≡ given_shares key.e mu 0
  pub stray : at ≡ stray key.e mu

abbrev pub IsFound : Key → List ℕ → Found → Type 0
IsFound key mu found.TooLarge = outcome key.e key.limit mu ≡ TooLarge
IsFound key mu (found.Whole row shares at) = IsWhole key mu row shares.items at

-- What is true of the parts of an entry.
pub record IsKept (key : Key) (rank : ℕ) (own : List ℕ) (kept : Found) : Type 0 where
  pub place : IsPlace (place key rank)
  pub mu : own ≡ label key rank
  pub found : IsFound key own kept

-- The outcome that an answer tells.
abbrev pub outcome_told : Result (Bor FockVector) Refused → Outcome
outcome_told (Ok row) = Row
outcome_told (Err refused.TooLarge) = TooLarge
outcome_told (Err (refused.Stray at)) = Stray at
