-- Vectors over ranks, by their entries.
use Rattle.std.proofs.Common.{◌≡◌, ◌≢◌, ℕ, zero, suc, ◌+◌, ◌<◌, ◌≤◌, List, [], ◌∷◌, ◌++◌, map, length, get_or}
use Rattle.std.proofs.Common.{refl, sym, ◌∙◌, ap, ap₂, subst, arith, length-append, pos}
use Rattle.std.specs.List.{AllByRecursion}
use Rattle.std.proofs.lemmas.List.{get_or_read}
use Rattle.sp_defs.specs.Laurent.{Laurent, IsLaurent, one}
use Rattle.sp_defs.specs.Partition.{partitions, partitions_within, Ascending, IsEarlier, IsPartitionOf}
use Rattle.sp_defs.specs.Power.{FockVector, IsVector, entries, unit}
use Rattle.sp_laurent.specs.Held.{IsHeld}
use Rattle.sp_laurent.proofs.Held.{held_monomial}
use Rattle.sp_fock_law.proofs.Single.{entries-unit}
use Rattle.sp_lists.proofs.Elements.{all_append, all_every}
use Rattle.sp_lists.proofs.Places.{all_at, all_weaken}
use Rattle.sp_shapes.proofs.Listing.{all_partitions, partitions_ascend, IsPartition-nil}
use Rattle.sp_shapes.proofs.Order.{ascends_at}
use Rattle.sp_ranks.specs.Ranks.{partition_at}
use Rattle.sp_ranks.specs.Vectors.{entries_over, Climbs, IsHeldNonzero, IsOverRanks}

-- ---- partitions by their ranks

pub partition_there : (n rank : ℕ) → rank < length (partitions n) → IsPartitionOf n (partition_at n rank)
partition_there n rank lt = all_at (IsPartitionOf n) (partitions n) rank [] (all_partitions n) lt

pub earlier_rank : (n first second : ℕ) → first < second → second < length (partitions n) →
    IsEarlier (partition_at n first) (partition_at n second)
earlier_rank n first second lt within = ascends_at (partitions n) (partitions_ascend n) first second lt within

-- ---- the entries

pub length-entries_over : (n : ℕ) (ranks : List ℕ) (ps : List Laurent) → length ranks ≡ length ps →
    length (entries_over n ranks ps) ≡ length ranks
unfolding entries_over
length-entries_over n [] ps h = refl
length-entries_over n (rank ∷ ranks) [] h = absurd (omega arith)
length-entries_over n (rank ∷ ranks) (p ∷ ps) h = ap suc (length-entries_over n ranks ps (omega arith))

pub entries_over-at : (n : ℕ) (ranks : List ℕ) (ps : List Laurent) (k : ℕ) → length ranks ≡ length ps →
    k < length ranks → get_or (entries_over n ranks ps) k ([], []) ≡ (partition_at n (get_or ranks k 0), get_or ps k [])
unfolding entries_over
entries_over-at n [] ps k h lt = absurd (omega arith)
entries_over-at n (rank ∷ ranks) [] k h lt = absurd (omega arith)
entries_over-at n (rank ∷ ranks) (p ∷ ps) zero h lt = refl
entries_over-at n (rank ∷ ranks) (p ∷ ps) (suc k) h lt =
    entries_over-at n ranks ps k (omega arith) (omega arith)

pub entries_over-append : (n : ℕ) (ranks others : List ℕ) (ps qs : List Laurent) → length ranks ≡ length ps →
    entries_over n (ranks ++ others) (ps ++ qs) ≡ entries_over n ranks ps ++ entries_over n others qs
unfolding entries_over
entries_over-append n [] others [] qs h = refl
entries_over-append n [] others (p ∷ ps) qs h = absurd (omega arith)
entries_over-append n (rank ∷ ranks) others [] qs h = absurd (omega arith)
entries_over-append n (rank ∷ ranks) others (p ∷ ps) qs h =
    ap (λ es. (partition_at n rank, p) ∷ es) (entries_over-append n ranks others ps qs (omega arith))

pub entries_over-push : (n : ℕ) (ranks : List ℕ) (ps : List Laurent) (rank : ℕ) (p : Laurent) →
    length ranks ≡ length ps →
    entries_over n (ranks ++ (rank ∷ [])) (ps ++ (p ∷ [])) ≡ entries_over n ranks ps ++ ((partition_at n rank, p) ∷ [])
unfolding entries_over
entries_over-push n ranks ps rank p h = entries_over-append n ranks (rank ∷ []) ps (p ∷ []) h

-- What holds of each rank's partition and of each polynomial holds of the entries.
all_over : (P : List ℕ × Laurent → Type 0) (n : ℕ) (R : ℕ → Type 0) (Q : Laurent → Type 0)
    → ((rank : ℕ) (p : Laurent) → R rank → Q p → P (partition_at n rank, p)) → (ranks : List ℕ) (ps : List Laurent) →
    AllByRecursion R ranks → AllByRecursion Q ps → AllByRecursion P (entries_over n ranks ps)
unfolding entries_over
all_over P n R Q f [] ps h k = tt
all_over P n R Q f (rank ∷ ranks) [] h k = tt
all_over P n R Q f (rank ∷ ranks) (p ∷ ps) (h, hs) (k, ks) = (f rank p h k, all_over P n R Q f ranks ps hs ks)

-- ---- a vector

-- Ranks that climb are no more than the places that there are.
climb_few : (ranks : List ℕ) (a n : ℕ) → Climbs ranks → AllByRecursion (λ rank. a ≤ rank) ranks →
    AllByRecursion (λ rank. rank < n) ranks → a ≤ n → a + length ranks ≤ n
climb_few [] a n up least within le = omega arith
climb_few (rank ∷ ranks) a n (up, ups) (least, leasts) (within, withins) le =
    omega (
      arith,
      climb_few ranks (rank + 1) n ups
          (all_weaken (λ other. rank < other) (λ other. rank + 1 ≤ other) ranks (λ other h. omega arith) up) withins
          (omega arith),
    )

pub few_ranks : (n : ℕ) (ranks : List ℕ) (ps : List Laurent) → IsOverRanks n ranks ps →
    length ranks ≤ length (partitions n)
few_ranks n ranks ps h =
    omega (
      arith,
      climb_few ranks 0 (length (partitions n)) h.climbs
          (all_every (λ rank. 0 ≤ rank) ranks (λ rank. omega arith)) h.there (omega arith),
    )

over_ascends : (n : ℕ) (ranks : List ℕ) (ps : List Laurent) → Climbs ranks →
    AllByRecursion (λ rank. rank < length (partitions n)) ranks → Ascending (map (λ t. t.0) (entries_over n ranks ps))
unfolding entries_over
over_ascends n [] ps up there = tt
over_ascends n (rank ∷ ranks) [] up there = tt
over_ascends n (rank ∷ ranks) (p ∷ ps) (up, ups) (there, theres) =
    (later ranks ps up theres, over_ascends n ranks ps ups theres)
  where
    later : (ranks : List ℕ) (ps : List Laurent) → AllByRecursion (λ other. rank < other) ranks →
        AllByRecursion (λ other. other < length (partitions n)) ranks →
        AllByRecursion (IsEarlier (partition_at n rank)) (map (λ t. t.0) (entries_over n ranks ps))
    later [] ps h k = tt
    later (other ∷ ranks) [] h k = tt
    later (other ∷ ranks) (q ∷ ps) (h, hs) (k, ks) = (earlier_rank n rank other h k, later ranks ps hs ks)

-- The entries are a vector.
pub is_vector : (n : ℕ) (ranks : List ℕ) (ps : List Laurent) → IsOverRanks n ranks ps →
    IsVector n (entries_over n ranks ps)
is_vector n ranks ps h = record {
  partitions_of = all_over (λ t. IsPartitionOf n t.0) n (λ rank. rank < length (partitions n)) IsHeldNonzero
      (λ rank p lt _. partition_there n rank lt) ranks ps h.there h.polynomials;
  ascending = over_ascends n ranks ps h.climbs h.there;
  polynomials = all_over (λ t. IsLaurent t.1 × (t.1 ≢ [])) n (λ rank. rank < length (partitions n)) IsHeldNonzero
      (λ rank p _ k. (k.0.laurent, k.1)) ranks ps h.there h.polynomials;
}

-- ---- what is read at a place

module _ (n : ℕ) (ranks : List ℕ) (ps : List Laurent) (v : FockVector) (k : ℕ) (h : IsOverRanks n ranks ps)
    (is : record { degree = n; entries = entries_over n ranks ps } ≡ v) (lt : k < length v.entries) where
  pub rank_there : k < length ranks
  rank_there = omega (arith, ap (λ w. length w.entries) is, length-entries_over n ranks ps h.count)

  entry_there : (partition_at n (get_or ranks k 0), get_or ps k []) ≡ get_or v.entries k ([], [])
  entry_there =
      sym (entries_over-at n ranks ps k h.count rank_there) ∙ ap (λ w. get_or w.entries k ([], [])) is

  rank_is : (rank : ℕ) → rank ≡ get_or ranks k rank → rank ≡ get_or ranks k 0
  rank_is rank read = get_or_read ranks k rank rank_there read 0

  pub rank_within : (rank : ℕ) → rank ≡ get_or ranks k rank → rank < length (partitions v.degree)
  rank_within rank read =
      subst (λ w. rank < length (partitions w.degree)) is
      (subst (λ r. r < length (partitions n)) (sym (rank_is rank read))
      (all_at (λ r. r < length (partitions n)) ranks k 0 h.there rank_there))

  pub partition_read : (rank : ℕ) → rank ≡ get_or ranks k rank →
      partition_at v.degree rank ≡ (get_or v.entries k ([], [])).0
  partition_read rank read =
      ap₂ partition_at (sym (ap (λ w. w.degree) is)) (rank_is rank read) ∙ ap (λ t. t.0) entry_there

  pub polynomial_read : get_or ps k [] ≡ (get_or v.entries k ([], [])).1
  polynomial_read = ap (λ t. t.1) entry_there

-- ---- the empty partition

-- Its rank is 0.
pub over_empty : IsOverRanks 0 (0 ∷ []) (one ∷ [])
unfolding partitions partitions_within
over_empty = record {
  small = omega arith;
  count = refl;
  climbs = (tt, tt);
  there = (omega arith, tt);
  polynomials = ((held_monomial (pos 0) (pos 1) (omega arith) (omega arith), (λ e. cc)), tt);
}

pub empty_entries : entries_over 0 (0 ∷ []) (one ∷ []) ≡ entries 0 (unit [])
unfolding entries_over partitions partitions_within
empty_entries = sym (entries-unit [] IsPartition-nil)

-- ---- one rank more

climbs_more : (ranks : List ℕ) (rank : ℕ) → Climbs ranks → AllByRecursion (λ other. other < rank) ranks →
    Climbs (ranks ++ (rank ∷ []))
climbs_more [] rank up below = (tt, tt)
climbs_more (first ∷ ranks) rank (up, ups) (below, belows) =
    (all_append (λ other. first < other) ranks (rank ∷ []) up (below, tt), climbs_more ranks rank ups belows)

-- A greater rank with a polynomial that isn't 0 can be added.
pub over_more : (n : ℕ) (ranks : List ℕ) (ps : List Laurent) (rank : ℕ) (p : Laurent) → IsOverRanks n ranks ps →
    AllByRecursion (λ other. other < rank) ranks → rank < length (partitions n) → IsHeld p → p ≢ [] →
    IsOverRanks n (ranks ++ (rank ∷ [])) (ps ++ (p ∷ []))
over_more n ranks ps rank p h below lt held other = record {
  small = h.small;
  count = omega (arith, h.count, length-append ranks (rank ∷ []), length-append ps (p ∷ []));
  climbs = climbs_more ranks rank h.climbs below;
  there = all_append (λ k. k < length (partitions n)) ranks (rank ∷ []) h.there (lt, tt);
  polynomials = all_append IsHeldNonzero ps (p ∷ []) h.polynomials ((held, other), tt);
}
