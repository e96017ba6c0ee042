-- How far the test of a certificate has come.
use Rattle.std.specs.Prelude.{◌≡◌, ℕ, ◌+◌, ◌-◌, ◌<◌, ◌≤◌, List, [], map, take, drop, get_or, length, ◌⊎◌}
use Rattle.std.specs.List.{AllByRecursion}
use Rattle.sp_core.specs.declared.piece.Key.{Key}
use Rattle.sp_llt.specs.Place.{Place, place, key_of}
use Rattle.sp_llt.specs.Shares.{rank_of}
use Rattle.sp_llt.specs.Adopting.{Rising}
use Rattle.sp_cert.specs.declared.certificate.Column.{Column}
use Rattle.sp_cert.specs.Rules.{Listing}
use Rattle.sp_cert.specs.Verdict.{IsAccepted, IsRowColumn}

-- The entry of a column.
abbrev pub entry_for : Key → Column → Place
entry_for key c = place key (rank_of key.e c.mu)

abbrev pub ranks_in : List Place → List ℕ
ranks_in ps = map (λ p. p.rank) ps

-- The rank of the column at a place.
abbrev pub rank_at : ℕ → List Column → ℕ → ℕ
rank_at e cs q = rank_of e (get_or (map (λ c. c.mu) cs) q [])

-- The entries from `next` on have ranks that rise and are below k; `next` is as before, or all entries are left out,
-- since the last has no rank below k.
pub record IsStart (entries : List Place) (k start next : ℕ) : Type 0 where
  pub within : next ≤ length entries
  pub rising : Rising (ranks_in (drop next entries))
  pub lower : AllByRecursion (λ p. p.rank < k) (drop next entries)
  pub moved : (next ≡ start) ⊎ ((next ≡ length entries)
      × ((d : Place) → 0 < length entries → k ≤ (get_or entries (length entries - 1) d).rank))

-- The first i columns are accepted, and are rows; these are their entries, whose ranks rise from `start` on, which is
-- where they last fell.
pub record IsChecked (key : Key) (c : Listing) (i : ℕ) (entries : List Place) (start : ℕ) : Type 0 where
  pub key_is : key ≡ key_of c.e c.degree key.limit
  pub made : entries ≡ map (entry_for key) (take i c.columns)
  pub accepted : AllByRecursion (IsAccepted key c.columns) (take i c.columns)
  pub rows : AllByRecursion (IsRowColumn key) (take i c.columns)
  pub within : start ≤ i
  pub rising : Rising (ranks_in (drop start entries))
  pub starts : (q : ℕ) → q + 1 ≡ start → rank_at c.e c.columns start ≤ rank_at c.e c.columns q
