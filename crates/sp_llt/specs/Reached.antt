-- What a builder keeps of its row.
use Rattle.std.specs.Prelude.{◌≡◌, ℕ, false, List, None, Some}
use Rattle.sp_defs.specs.Power.{FockVector, fock_vector}
use Rattle.sp_defs.specs.Ladder.{ladder_vector}
use Rattle.sp_defs.specs.Partition.{degree}
use Rattle.sp_defs.specs.Row.{regular_row}
use Rattle.sp_core.specs.declared.piece.Key.{Key}
use Rattle.sp_fock_law.specs.Tally.{TallyValue, tally_of, totals}
use Rattle.sp_outcome_law.specs.Asking.{share_at, next_rank, left, total, share_past, is_past, asked}
use Rattle.sp_llt.specs.declared.entry.Found.{Found}
use Rattle.sp_llt.specs.declared.builder.Unfinished.{Unfinished}
use Rattle.sp_llt.specs.declared.builder.State.{State}
use Rattle.sp_llt.specs.declared.builder.State.TheVariants.{Open, Decided}
use Rattle.sp_llt.specs.Found.{IsFound}
use Rattle.sp_llt.specs.Place.{Place, label, progress, IsProgress}
use Rattle.sp_llt.specs.Shares.{given_shares}

-- The ladder vector, with the sizes of its coefficients.
abbrev pub ladder_tally : ℕ → List ℕ → TallyValue
ladder_tally e mu = tally_of (fock_vector (degree mu) (ladder_vector e mu))

-- What is left of the ladder vector, with the sizes of all that was added up.
abbrev pub tally_at : Key → List ℕ → ℕ → TallyValue
tally_at key mu t = record {
  vector = fock_vector key.degree (left key.e mu t);
  totals = totals key.degree (total key.e mu t);
}

-- The regular row of an entry.
abbrev pub row_at : Place → FockVector
row_at p = fock_vector p.key.degree (regular_row p.key.e (label p.key p.rank))

-- Nothing that has been given is past the limit: only the next share may be.
abbrev pub IsWithin : Key → List ℕ → ℕ → Type 0
IsWithin key mu t = is_past key.e key.limit mu t ≡ share_past key.e key.limit mu (next_rank key.e mu t)

-- The parts of a builder that asks for another row.
pub record IsOpen (key : Key) (mu : List ℕ) (t : ℕ) (kept : Unfinished) : Type 0 where
  pub undecided : is_past key.e key.limit mu t ≡ false
  pub left : kept.slots ≡ tally_at key mu t
  pub shares : kept.shares.items ≡ given_shares key.e mu t
  pub rank : next_rank key.e mu t ≡ Some kept.next.rank
  pub alpha : kept.next.alpha ≡ (share_at key.e mu kept.next.rank).1

-- The parts of a builder that asks for none.
pub record IsDecided (key : Key) (mu : List ℕ) (t : ℕ) (kept : Found) : Type 0 where
  pub none : asked key.e key.limit mu t ≡ None
  pub found : IsFound key mu kept

abbrev pub IsReached : Key → List ℕ → ℕ → State → Type 0
IsReached key mu t (Open kept) = IsOpen key mu t kept
IsReached key mu t (Decided kept) = IsDecided key mu t kept

-- What is true of the parts of a builder.
pub record IsBuilder (key : Key) (rank reached : ℕ) (state : State) : Type 0 where
  pub place : IsProgress (progress key rank reached)
  pub row : IsReached key (label key rank) reached state
