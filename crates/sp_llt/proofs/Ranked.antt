-- A search by halves for the entry of a rank.
use Rattle.std.proofs.Common.{◌≡◌, ◌≢◌, ℕ, zero, suc, ◌<◌, ◌≤◌, List, [], ◌∷◌, map, length, get_or, sym, ◌∙◌, ap, ap₂}
use Rattle.std.proofs.Common.{subst}
use Rattle.std.proofs.Common.{arith, Less, Equal, Greater, Ok, Err, nat_cmp, inl, inr}
use Rattle.std.specs.List.{AllByRecursion}
use Rattle.std.specs.List.Sorted.{IsBinarySearchResult, IsNonDecreasingBy}
use Rattle.std.specs.Ordering.{ordering_index}
use Rattle.std.proofs.lemmas.Bool.{cases_lt}
use Rattle.sp_lists.proofs.Comparing.{ranked, comparison_rises}
use Rattle.sp_lists.proofs.Elements.{map_all}
use Rattle.sp_lists.proofs.Places.{all_at, all_weaken}
use Rattle.sp_lists.proofs.Occurrence.{Occurs, occurs}
use Rattle.sp_defs.specs.Row.{Row}
use Rattle.sp_core.specs.declared.piece.Key.{Key}
use Rattle.sp_llt.specs.declared.share.Share.{Share}
use Rattle.sp_llt.specs.Place.{Place, place}
use Rattle.sp_llt.specs.Refusals.{outcome_at}
use Rattle.sp_llt.specs.Adopting.{Rising, AreEarlierRows, HasRank}

-- the ranks of entries
abbrev pub ranks_of : List Place → List ℕ
ranks_of ps = map (λ p. p.rank) ps

-- ranks that rise do so place by place
rising_at : (ps : List Place) → Rising (ranks_of ps) → (i j : ℕ) (d : Place) → i < j → j < length ps →
    (get_or ps i d).rank < (get_or ps j d).rank
rising_at [] h i j d lt within = absurd (omega arith)
rising_at (p ∷ ps) h zero zero d lt within = absurd (omega arith)
rising_at (p ∷ ps) h (suc i) zero d lt within = absurd (omega arith)
rising_at (p ∷ ps) (h, hs) zero (suc j) d lt within =
    all_at (λ q. p.rank < q.rank) ps j d (map_all (λ k. p.rank < k) (λ q. q.rank) ps h) (omega arith)
rising_at (p ∷ ps) (h, hs) (suc i) (suc j) d lt within = rising_at ps hs i j d (omega arith) (omega arith)

comparisons_rise : (ps : List Place) → Rising (ranks_of ps) → (rank : ℕ) →
    IsNonDecreasingBy (λ p. ordering_index (nat_cmp p.rank rank)) ps
comparisons_rise ps h rank i k d le in_range = elim (cases_lt i k) [
  | inl lt ↦ comparison_rises (get_or ps i d).rank (get_or ps k d).rank rank
      (omega (arith, rising_at ps h i k d lt in_range))
  | inr ge ↦ subst (λ n. ordering_index (nat_cmp (get_or ps i d).rank rank) ≤ ordering_index
      (nat_cmp (get_or ps n d).rank rank)) {x = i} (omega arith) (omega arith)
]

-- a rank that is found is the rank
pub found_rank : (ps : List Place) (rank i : ℕ) (d : Place) →
    IsBinarySearchResult (λ p. nat_cmp p.rank rank) ps (Ok i) → (get_or ps i d).rank ≡ rank
found_rank ps rank i d equal = ranked (get_or ps i d).rank rank Equal (equal d)

absent : (ps : List Place) (rank : ℕ) (d : Place) → ((i : ℕ) → i < length ps → (get_or ps i d).rank ≢ rank) →
    Occurs rank (ranks_of ps) → ⊥
absent [] rank d none o = o
absent (p ∷ ps) rank d none (inl e) = none zero (omega arith) (sym e)
absent (p ∷ ps) rank d none (inr o) = absent ps rank d (λ i lt. none (suc i) (omega arith)) o

-- a rank that isn't found is that of no entry
pub missing_rank : (ps : List Place) → Rising (ranks_of ps) → (rank i : ℕ) (d : Place) →
    IsBinarySearchResult (λ p. nat_cmp p.rank rank) ps (Err i) → Occurs rank (ranks_of ps) → ⊥
missing_rank ps h rank i d parted = absent ps rank d (λ k lt e.
    elim (cases_lt k i) [
      | inl before ↦ omega (
        arith,
        e,
        ranked (get_or ps k d).rank rank Less
            ((parted (comparisons_rise ps h rank)).0 k d (omega arith) before),
      )
      | inr after ↦ omega (
        arith,
        e,
        ranked (get_or ps k d).rank rank Greater
            ((parted (comparisons_rise ps h rank)).1 k d after lt),
      )
    ])

-- ---- what is known of the entry of a rank

listed_among : (key : Key) (ps : List Place) (rank : ℕ) → AllByRecursion (λ p. p.key ≡ key) ps →
    AllByRecursion (λ p. outcome_at p ≡ Row) ps → Occurs rank (ranks_of ps) → outcome_at (place key rank) ≡ Row
listed_among key [] rank of rows o = absurd o
listed_among key (p ∷ ps) rank (k, of) (r, rows) (inl e) =
    ap outcome_at (ap₂ place (sym k) e) ∙ r
listed_among key (p ∷ ps) rank (k, of) (r, rows) (inr o) = listed_among key ps rank of rows o

-- it has a row
pub listed_row : (key : Key) (k : ℕ) (ps : List Place) (rank : ℕ) → AreEarlierRows key k ps → HasRank ps rank →
    outcome_at (place key rank) ≡ Row
listed_row key k ps rank h has = listed_among key ps rank h.of h.rows (occurs rank (ranks_of ps) has)

-- so has that of each share
pub listed_rows : (key : Key) (k : ℕ) (ps : List Place) (shares : List Share) → AreEarlierRows key k ps →
    AllByRecursion (λ s. HasRank ps s.rank) shares → AllByRecursion (λ s. outcome_at (place key s.rank) ≡ Row) shares
listed_rows key k ps shares h has = all_weaken (λ (s : Share). HasRank ps s.rank)
    (λ s. outcome_at (place key s.rank) ≡ Row) shares (λ s r. listed_row key k ps s.rank h r) has
