-- Moves over ranks as moves of partitions: a run of one rank is a run of one partition.
use Rattle.std.proofs.Common.{◌≡◌, ◌≢◌, ℕ, ◌+◌, ◌<◌, ◌≤◌, true, false, cond, nat_eq, List, [], ◌∷◌, take, drop}
use Rattle.std.proofs.Common.{length, get_or, refl, sym, ◌∙◌, ap, ap₂, arith, sum_by, ◌⊎◌, inl, inr, pos}
use Rattle.std.proofs.lemmas.Bool.Decides.{eqb_tells}
use Rattle.std.proofs.lemmas.List.{take-map, drop-map, length-map, get_or-map}
use Rattle.std.specs.List.{AllByRecursion, prefix_len}
use Rattle.std.specs.Ordering.{is_eq}
use Rattle.sp_defs.specs.Partition.{compare, partitions}
use Rattle.sp_defs.specs.Laurent.{sum_over}
use Rattle.sp_defs.specs.Power.{Entries}
use Rattle.sp_algebra.proofs.Sums.{sum_over-map}
use Rattle.sp_lists.proofs.Counts.{sum-map}
use Rattle.sp_lists.proofs.Elements.{le_or_lt, all_map}
use Rattle.sp_lists.proofs.Places.{all_weaken}
use Rattle.sp_shapes.proofs.Order.{equal_self, later_than}
use Rattle.sp_partition.specs.Held.{IsHeld as IsHeldPartition}
use Rattle.sp_partition.specs.declared.TheConstants.{DEGREE_LIMIT}
use Rattle.sp_power_law.specs.Runs.{is_at, share_of, size_of}
use Rattle.sp_power.specs.Arrivals.{IsBrought}
use Rattle.sp_power.proofs.Summing.{Split}
use Rattle.sp_ranks.specs.declared.walk.Arrival.{Arrival}
use Rattle.sp_ranks.specs.Ranks.{partition_at}
use Rattle.sp_ranks.specs.Arrivals.{arrival_at, arrivals_at, share_at, size_at, IsBroughtBy}
use Rattle.sp_ranks.proofs.Overs.{partition_there, earlier_rank}

-- What stands in for a move where there is none.
abbrev pub nothing : Arrival
nothing = record { rank = 0; source = 0; exponent = pos 0 }

-- ---- ranks and partitions

-- Two ranks are of one partition just where they are the same.
pub same_rank : (n a b : ℕ) → a < length (partitions n) → b < length (partitions n) →
    is_eq (compare (partition_at n a) (partition_at n b)) ≡ nat_eq a b
same_rank n a b a_there b_there = settle (eqb_tells a b)
  where
    other : nat_eq a b ≡ false → a ≢ b → (b ≤ a) ⊎ (a < b) →
        is_eq (compare (partition_at n a) (partition_at n b)) ≡ nat_eq a b
    other test ne (inr lt) = ap is_eq (earlier_rank n a b lt b_there) ∙ sym test
    other test ne (inl le) =
        ap is_eq (later_than (partition_at n b) (partition_at n a) (earlier_rank n b a (omega arith) a_there))
        ∙ sym test

    settle : ((nat_eq a b ≡ true) × (a ≡ b)) ⊎ ((nat_eq a b ≡ false) × (a ≢ b)) →
        is_eq (compare (partition_at n a) (partition_at n b)) ≡ nat_eq a b
    settle (inl (test, same)) =
        ap (λ k. is_eq (compare (partition_at n a) (partition_at n k))) (sym same)
        ∙ ap is_eq (equal_self (partition_at n a)) ∙ sym test
    settle (inr (test, ne)) = other test ne (le_or_lt b a)

-- The run of a rank is as long as the run of its partition.
pub same_front : (n rank : ℕ) (ts : List Arrival) → rank < length (partitions n) →
    AllByRecursion (λ t. t.rank < length (partitions n)) ts →
    prefix_len (is_at (partition_at n rank)) (arrivals_at n ts) ≡ prefix_len (λ t. nat_eq t.rank rank) ts
same_front n rank [] lt there = refl
same_front n rank (t ∷ ts) lt (first, there) =
    ap₂ (λ b k. cond b (1 + k) 0) (same_rank n t.rank rank first lt) (same_front n rank ts lt there)

-- ---- what a run brings

pub same_sizes : (n : ℕ) (es : Entries) (ts : List Arrival) →
    sum_by (size_of es) (arrivals_at n ts) ≡ sum_by (size_at es) ts
same_sizes n es ts = sum-map (size_of es) (arrival_at n) ts

pub same_shares : (n : ℕ) (es : Entries) (ts : List Arrival) →
    sum_over (arrivals_at n ts) (share_of es) ≡ sum_over ts (share_at es)
same_shares n es ts = sum_over-map (arrival_at n) ts (share_of es)

held_at : (n rank : ℕ) → n ≤ DEGREE_LIMIT → rank < length (partitions n) → IsHeldPartition (partition_at n rank)
held_at n rank small lt =
    let p = partition_there n rank lt in
    record { partition = p.partition; small = omega (arith, p.total) }

pub brought_at_rank : (n : ℕ) (es : Entries) (t : Arrival) → n ≤ DEGREE_LIMIT → IsBroughtBy n es t →
    IsBrought es (arrival_at n t)
brought_at_rank n es t small b = record {
  there = b.source;
  partition = held_at n t.rank small b.rank;
  near = b.near;
  powers = b.powers;
}

pub all_brought : (n : ℕ) (es : Entries) (ts : List Arrival) → n ≤ DEGREE_LIMIT →
    AllByRecursion (IsBroughtBy n es) ts → AllByRecursion (IsBrought es) (arrivals_at n ts)
all_brought n es ts small h =
    all_map (IsBrought es) (arrival_at n) ts
    (all_weaken (IsBroughtBy n es) (λ t. IsBrought es (arrival_at n t)) ts
    (λ t b. brought_at_rank n es t small b) h)

pub all_there : (n : ℕ) (es : Entries) (ts : List Arrival) → AllByRecursion (IsBroughtBy n es) ts →
    AllByRecursion (λ t. t.rank < length (partitions n)) ts
all_there n es ts h = all_weaken (IsBroughtBy n es) (λ t. t.rank < length (partitions n)) ts (λ t b. b.rank) h

-- ---- the first run and what is later

-- The moves that are left, taken apart behind the run of the first one's rank.
pub record RankSplit (rest : List Arrival) (rank : ℕ) (run later : List Arrival) : Type 0 where
  pub default : Arrival
  pub some : 1 ≤ length rest
  pub at : (get_or rest 0 default).rank ≡ rank
  pub run_is : run ≡ take (prefix_len (λ t. nat_eq t.rank rank) rest) rest
  pub later_is : later ≡ drop (prefix_len (λ t. nat_eq t.rank rank) rest) rest

-- The code takes them apart so.
pub rank_split : (rest run later : List Arrival) (count : ℕ) → 1 ≤ length rest →
    count ≡ prefix_len (λ t. nat_eq t.rank (get_or rest 0 nothing).rank) rest → run ≡ take count rest →
    later ≡ drop count rest → RankSplit rest (get_or rest 0 nothing).rank run later
rank_split rest run later count some is front back = record {
  default = nothing;
  some = some;
  at = refl;
  run_is = front ∙ ap (λ k. take k rest) is;
  later_is = back ∙ ap (λ k. drop k rest) is;
}

-- So the moves of partitions are taken apart.
pub as_partitions : (n : ℕ) (rest : List Arrival) (rank : ℕ) (run later : List Arrival) →
    RankSplit rest rank run later → rank < length (partitions n) →
    AllByRecursion (λ t. t.rank < length (partitions n)) rest →
    Split (arrivals_at n rest) (partition_at n rank) (arrivals_at n run) (arrivals_at n later)
as_partitions n rest rank run later s lt there = record {
  default = arrival_at n s.default;
  some = omega (arith, s.some, length-map rest (arrival_at n));
  at = ap (λ t. t.0) (get_or-map (arrival_at n) rest 0 s.default (arrival_at n s.default) s.some)
      ∙ ap (partition_at n) s.at;
  run_is = ap (arrivals_at n) s.run_is
      ∙ sym (take-map (arrival_at n) (prefix_len (λ t. nat_eq t.rank rank) rest) rest)
      ∙ ap (λ k. take k (arrivals_at n rest)) (sym (same_front n rank rest lt there));
  later_is = ap (arrivals_at n) s.later_is
      ∙ sym (drop-map (arrival_at n) (prefix_len (λ t. nat_eq t.rank rank) rest) rest)
      ∙ ap (λ k. drop k (arrivals_at n rest)) (sym (same_front n rank rest lt there));
}
