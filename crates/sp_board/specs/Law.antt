-- What holds of every history that can be replayed: each row that was claimed was claimed once, and ended at most once.
use Rattle.std.specs.Prelude.{◌≡◌, ℕ, ◌<◌, ◌⊎◌, Bool, true, false, List, slice_get, take}
use Rattle.std.specs.List.{count_by}
use Rattle.std.specs.declared.option.Option.TheVariants.{Some}
use Rattle.sp_board.specs.declared.stored.Stored.{Stored}
use Rattle.sp_board.specs.declared.stored.Stored.TheVariants.{Claim, Publish, Lose}
use Rattle.sp_board.specs.History.{Marks, blank, replay}

abbrev pub is_claim : Stored → Bool
is_claim (Claim w) = true
is_claim (Publish w k) = false
is_claim (Lose w k) = false

-- Entry i claims row k: the rows are claimed in order, so k claims came before.
pub record ClaimsRow (history : List Stored) (i k : ℕ) : Type 0 where
  pub worker : ℕ
  pub here : slice_get history i ≡ Some (Claim worker)
  pub before : count_by is_claim (take i history) ≡ k

-- The entry publishes or loses row k.
abbrev pub IsEndOf : Stored → ℕ → Type 0
IsEndOf (Claim w) k = ⊥
IsEndOf (Publish w j) k = j ≡ k
IsEndOf (Lose w j) k = j ≡ k

-- Entry i publishes or loses row k.
abbrev pub EndsRow : List Stored → ℕ → ℕ → Type 0
EndsRow history i k = (e : Stored) × (slice_get history i ≡ Some e) × IsEndOf e k

-- Exactly one claim of row k is in the history, and at most one publish or loss of it, after the claim.
pub record IsClaimedOnce (history : List Stored) (k : ℕ) : Type 0 where
  pub place : ℕ
  pub claim : ClaimsRow history place k
  pub only : (i : ℕ) → ClaimsRow history i k → i ≡ place
  pub after : (i : ℕ) → EndsRow history i k → place < i
  pub ends : (i j : ℕ) → EndsRow history i k → EndsRow history j k → i ≡ j

abbrev pub EachIsClaimedOnce : Type 0
EachIsClaimedOnce =
    (rows : ℕ) (history : List Stored) (m : Marks) → replay history (blank rows) ≡ Some m
    → (k : ℕ) → k < m.next → IsClaimedOnce history k

-- No other row is in the history at all.
abbrev pub OthersAreAbsent : Type 0
OthersAreAbsent =
    (rows : ℕ) (history : List Stored) (m : Marks) → replay history (blank rows) ≡ Some m
    → (k i : ℕ) → (ClaimsRow history i k ⊎ EndsRow history i k) → k < m.next
