-- What a listed row is taken with, and how much of its ladder vector is left on the way.
use Rattle.std.specs.Prelude.{◌≡◌, ◌≢◌, ℕ, ◌<◌, ◌≤◌, List, [], ◌∷◌, map, Contains}
use Rattle.std.specs.List.{AllByRecursion}
use Rattle.sp_defs.specs.Laurent.{plus, negate}
use Rattle.sp_defs.specs.Power.{Vector, FockVector, fock_vector, vector_of}
use Rattle.sp_defs.specs.Ladder.{ladder_vector}
use Rattle.sp_defs.specs.Row.{Factors, combination, regular_row, Row}
use Rattle.sp_defs.specs.Within.{PowersWithin}
use Rattle.sp_fock_law.specs.Tally.{TallyValue, totals}
use Rattle.sp_column_law.specs.Column.{column_size, column_weight, IsRight}
use Rattle.sp_core.specs.declared.piece.Key.{Key}
use Rattle.sp_llt.specs.declared.share.Share.{Share}
use Rattle.sp_llt.specs.Place.{Place, label}
use Rattle.sp_llt.specs.Refusals.{outcome_at}

-- Each number of the list is greater than all that follow it.
abbrev pub Falling : List ℕ → Type 0
Falling [] = Unit {0}
Falling (first ∷ rest) = AllByRecursion (λ k. k < first) rest × Falling rest

-- Each number of the list is less than all that follow it.
abbrev pub Rising : List ℕ → Type 0
Rising [] = Unit {0}
Rising (first ∷ rest) = AllByRecursion (λ k. first < k) rest × Rising rest

-- How far the powers of a listed polynomial may lie from 0.
abbrev pub listed_powers : ℕ
listed_powers = 10000000

-- The shares of a listed row of rank k: at ranks below k, strictly descending, and not 0.
pub record AreListedShares (k : ℕ) (shares : List Share) : Type 0 where
  pub lower : AllByRecursion (λ s. s.rank < k) shares
  pub falling : Falling (map (λ s. s.rank) shares)
  pub nonzero : AllByRecursion (λ s. s.alpha ≢ []) shares
  pub powers : AllByRecursion (λ s. PowersWithin listed_powers s.alpha) shares

-- Entries of one context, each with a row, at ranks below k, strictly ascending.
pub record AreEarlierRows (key : Key) (k : ℕ) (earlier : List Place) : Type 0 where
  pub of : AllByRecursion (λ p. p.key ≡ key) earlier
  pub rows : AllByRecursion (λ p. outcome_at p ≡ Row) earlier
  pub lower : AllByRecursion (λ p. p.rank < k) earlier
  pub rising : Rising (map (λ p. p.rank) earlier)

-- One of the entries has this rank.
abbrev pub HasRank : List Place → ℕ → Type 0
HasRank earlier rank = Contains (map (λ p. p.rank) earlier) rank

-- The shares, each with the partition of its rank.
abbrev pub factors_at : Key → List Share → Factors
factors_at key shares = map (λ s. (label key s.rank, s.alpha)) shares

-- The weight of the listed column of rank k: past the limit it is too large.
abbrev pub listed_weight : Key → ℕ → List Share → ℕ
listed_weight key k shares = column_weight key.e (regular_row key.e) (label key k) (factors_at key shares)

-- The listed column of rank k is right.
abbrev pub IsRightlyListed : Key → ℕ → List Share → FockVector → Type 0
IsRightlyListed key k shares row =
    IsRight key.e (regular_row key.e) (label key k) (factors_at key shares) (vector_of row.entries)

-- The ladder vector without some shares times their rows.
unfoldable pub left_without : ℕ → List ℕ → Factors → Vector
left_without e mu shares lambda =
    plus (ladder_vector e mu lambda) (negate (combination (regular_row e) shares lambda))

-- The same, with the sizes of all that was added up.
abbrev pub tally_without : Key → List ℕ → Factors → TallyValue
tally_without key mu shares = record {
  vector = fock_vector key.degree (left_without key.e mu shares);
  totals = totals key.degree (column_size key.e (regular_row key.e) mu shares);
}

-- A tally from which the first i shares are taken off, and nothing is too large so far.
pub record IsLeft (key : Key) (mu : List ℕ) (shares : Factors) (slots : TallyValue) : Type 0 where
  pub tally : slots ≡ tally_without key mu shares
  pub fits : column_weight key.e (regular_row key.e) mu shares ≤ key.limit
