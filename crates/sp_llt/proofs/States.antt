-- What the state of a builder tells, and what an entry keeps.
use Rattle.std.proofs.Common.{◌≡◌, ℕ, List, Option, subst, Vec}
use Rattle.std.specs.declared.alloc.Global.{Global}
use Rattle.sp_defs.specs.Power.{FockVector}
use Rattle.sp_core.specs.declared.piece.Key.{Key}
use Rattle.sp_llt.specs.declared.share.Share.{Share}
use Rattle.sp_llt.specs.declared.builder.Unfinished.{Unfinished}
use Rattle.sp_llt.specs.declared.builder.State.{State}
use Rattle.sp_llt.specs.declared.builder.State.TheVariants.{Open, Decided}
use Rattle.sp_llt.specs.declared.entry.Found.{Found}
use Rattle.sp_llt.specs.declared.entry.Found.TheVariants.{Whole}
use Rattle.sp_llt.specs.Found.{IsKept, IsFound, IsWhole}
use Rattle.sp_llt.specs.Place.{label}
use Rattle.sp_llt.specs.Reached.{IsBuilder, IsReached, IsOpen, IsDecided}

-- a builder that asks for a row
pub told_open : (key : Key) (rank t : ℕ) (state : State) (kept : Unfinished) → IsBuilder key rank t state →
    state ≡ Open kept → IsOpen key (label key rank) t kept
told_open key rank t state kept b is = subst (IsReached key (label key rank) t) is b.row

-- a builder that asks for none
pub told_decided : (key : Key) (rank t : ℕ) (state : State) (kept : Found) → IsBuilder key rank t state →
    state ≡ Decided kept → IsDecided key (label key rank) t kept
told_decided key rank t state kept b is = subst (IsReached key (label key rank) t) is b.row

-- an entry with a row
pub told_whole : (key : Key) (rank : ℕ) (mu : List ℕ) (kept : Found) (row : FockVector) (shares : Vec Share Global)
    (at : Option (List ℕ)) → IsKept key rank mu kept → kept ≡ Whole row shares at →
    IsWhole key (label key rank) row shares.items at
told_whole key rank mu kept row shares at h is =
    subst (λ m. IsWhole key m row shares.items at) h.mu (subst (IsFound key mu) is h.found)
