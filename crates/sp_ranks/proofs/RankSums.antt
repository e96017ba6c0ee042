-- Moves in order of the ranks, summed run by run: what each loop keeps.
use Rattle.std.proofs.Common.{◌≡◌, ◌≢◌, ℕ, ◌+◌, ◌^◌, ◌<◌, ◌≤◌, Bool, true, false, cond, nat_eq, nat_lt, List, []}
use Rattle.std.proofs.Common.{◌∷◌, ◌++◌, take, length, get_or, refl, sym, ◌∙◌, ap, ap₂, subst, arith, sum_by}
use Rattle.std.proofs.Common.{append-nil, true≢false, ℤ, pos, w32, ◌↔◌, IsTrue}
use mir.Val.{to_z, of_z}
use Rattle.std.proofs.lemmas.Bool.{eqb-false}
use Rattle.std.proofs.lemmas.List.{take_all, length-map, get_or-map, get_or_default}
use Rattle.std.proofs.lemmas.List.Sums.{prefix_len_stops, sum_by_more_le}
use Rattle.std.proofs.lemmas.List.Sorted.{IsNonDecreasingBy-drop, IsNonDecreasingBy-from_sort}
use Rattle.std.specs.List.{AllByRecursion, prefix_len}
use Rattle.std.specs.List.Sorted.{IsNonDecreasingBy, IsSortedByKey}
use Rattle.std.specs.Ordering.{nat_cmp}
use Rattle.sp_defs.specs.Laurent.{Laurent, IsLaurent, power, plus, times, sum_over, size}
use Rattle.sp_defs.specs.Partition.{partitions}
use Rattle.sp_defs.specs.Power.{Entries, greatest}
use Rattle.sp_defs.specs.Within.{PowersWithin, ProductWithin}
use Rattle.sp_algebra.proofs.Sizes.{within_plus, within_times}
use Rattle.sp_algebra.proofs.Sums.{IsLaurent-sum_over}
use Rattle.sp_lists.proofs.Elements.{all_append}
use Rattle.sp_lists.proofs.Places.{all_at, all_drop, all_from, all_take, all_weaken}
use Rattle.sp_laurent.specs.Held.{IsHeld, power_limit}
use Rattle.sp_partition.specs.declared.TheConstants.{DEGREE_LIMIT}
use Rattle.sp_power_law.specs.Runs.{polynomial_at, runs, share_of, size_of, sizes_of, sums_of}
use Rattle.sp_power.proofs.Descent.{read_exponent}
use Rattle.sp_power.proofs.Summing.{Progress, SoFar, all_fit, all_summed, begins, product_near, run_further, run_past}
use Rattle.sp_power.proofs.Summing.{later_shorter, share_fits, sum_more, sum_whole}
use Rattle.sp_ranks.specs.declared.walk.Arrival.{Arrival}
use Rattle.sp_ranks.specs.Ranks.{partition_at}
use Rattle.sp_ranks.specs.Arrivals.{arrival_at, arrivals_at, share_at, size_at, IsBroughtBy}
use Rattle.sp_ranks.specs.Vectors.{entries_over, IsOverRanks}
use Rattle.sp_ranks.proofs.Overs.{entries_over-push, over_more}
use Rattle.sp_ranks.proofs.RankRuns.{RankSplit, all_brought, all_there, as_partitions, nothing, same_shares, same_sizes}

-- ---- whether the sizes of a run fit

-- A size that is more than what is left takes the sum past the limit.
pub size_past : (es : Entries) (run : List Arrival) (count s left limit : ℕ) → count < length run →
    s ≡ size_at es (get_or run count nothing) → (s ≤ left → ⊥) →
    left + sum_by (size_at es) (take count run) ≡ limit → IsTrue false ↔ (sum_by (size_at es) run ≤ limit)
size_past es run count s left limit lt is past so_far = (
  (λ h. absurd (true≢false (sym h))),
  (λ h. absurd (omega (arith, sum_by_more_le (size_at es) run count nothing lt, is, past, so_far, h))),
)

-- ---- the sum over one run

-- The sum over the first moves, whose powers are within the limit.
pub record RunSum (es : Entries) (run : List Arrival) (count : ℕ) (sum : Laurent) : Type 0 where
  pub so_far : SoFar es (arrivals_at 0 run) count sum
  pub powers : PowersWithin power_limit sum

pub no_sum : (es : Entries) (run : List Arrival) (sum : Laurent) → sum ≡ [] → RunSum es run 0 sum
unfolding sum_over
no_sum es run sum none =
    subst (RunSum es run 0) (sym none)
    (record { so_far = record { sum_is = refl; small = omega arith }; powers = tt })

-- What a move brings has powers within the limit.
pub share_within : (n : ℕ) (es : Entries) (t : Arrival) → IsBroughtBy n es t →
    ProductWithin power_limit ((t.exponent, pos 1) ∷ []) (polynomial_at es t.source)
share_within n es t b =
    product_near t.exponent ((t.exponent, pos 1) ∷ []) (polynomial_at es t.source) refl b.near b.powers

-- So it has as the code reads them.
-- An exponent, as the code hands it on.
widened : (es : Entries) (n : ℕ) (t : Arrival) (x : ℤ) → IsBroughtBy n es t → x ≡ t.exponent →
    to_z w32 (of_z w32 x) ≡ t.exponent
widened es n t x b same = ap (λ y. to_z w32 (of_z w32 y)) same ∙ read_exponent t.exponent b.near

pub terms_within : (n : ℕ) (es : Entries) (t : Arrival) (terms : Laurent) (x : ℤ) → IsBroughtBy n es t →
    x ≡ t.exponent → terms ≡ polynomial_at es t.source →
    ProductWithin power_limit (power (to_z w32 (of_z w32 x))) terms
terms_within n es t terms x b same is =
    subst (λ y. ProductWithin power_limit (power y) terms) (sym (widened es n t x b same))
    (subst (ProductWithin power_limit (power t.exponent)) (sym is) (share_within n es t b))

pub adds_share : (n : ℕ) (es : Entries) (t : Arrival) (terms sum new : Laurent) (x : ℤ) → IsBroughtBy n es t →
    x ≡ t.exponent → terms ≡ polynomial_at es t.source →
    new ≡ plus sum (times (power (to_z w32 (of_z w32 x))) terms) → new ≡ plus sum (share_at es t)
adds_share n es t terms sum new x b same is added =
    added ∙ ap₂ (λ y p. plus sum (times (power y) p)) (widened es n t x b same) is

module _ (es : Entries) (run : List Arrival) (count : ℕ) (sum : Laurent) (h : RunSum es run count sum) where
  pub sum_laurent : IsLaurent sum
  sum_laurent =
      subst IsLaurent (sym h.so_far.sum_is) (IsLaurent-sum_over (take count (arrivals_at 0 run)) (share_of es))

  module _ (lt : count < length run) where
    abbrev t : Arrival
    t = get_or run count nothing

    there : count < length (arrivals_at 0 run)
    there = omega (arith, lt, length-map run (arrival_at 0))

    at : arrival_at 0 t ≡ get_or (arrivals_at 0 run) count (arrival_at 0 t)
    at = sym (get_or-map (arrival_at 0) run count nothing (arrival_at 0 t) lt)

    -- The limit has room for one move more.
    pub one_fits : (limit : ℕ) → sum_by (size_at es) run < limit → size sum + size_at es t < limit
    one_fits limit fits =
        share_fits es (arrivals_at 0 run) count (arrival_at 0 t) sum limit there at h.so_far
        (subst (λ total. total < limit) (sym (same_sizes 0 es run)) fits)

    -- One move more adds its share.
    pub one_more : (n : ℕ) (new : Laurent) → IsBroughtBy n es t → new ≡ plus sum (share_at es t) →
        RunSum es run (count + 1) new
    one_more n new b is = record {
      so_far = sum_more es (arrivals_at 0 run) count (arrival_at 0 t) sum new there at h.so_far is;
      powers = subst (PowersWithin power_limit) (sym is)
          (within_plus power_limit sum (share_at es t) h.powers
          (within_times power_limit (power t.exponent) (polynomial_at es t.source) (share_within n es t b)));
    }

  -- All moves are summed.
  pub sum_all : length run ≤ count → sum ≡ sum_over run (share_at es)
  sum_all past =
      sum_whole es (arrivals_at 0 run) count sum (omega (arith, past, length-map run (arrival_at 0))) h.so_far
      ∙ same_shares 0 es run

  pub sum_held : length run ≤ count → sum_by (size_at es) run < 2 ^ 127 → IsHeld sum
  sum_held past fits = record {
    laurent = sum_laurent;
    small = omega (
      arith,
      h.so_far.small,
      fits,
      same_sizes 0 es run,
      ap (sum_by (size_of es))
          (take_all count (arrivals_at 0 run) (omega (arith, past, length-map run (arrival_at 0)))),
    );
    powers = h.powers;
  }

-- ---- the loop over the runs

-- With the ranks and polynomials so far and the moves that are left.
pub record RankProgress (n : ℕ) (es : Entries) (arrivals : List Arrival) (limit : ℕ) (ranks : List ℕ)
    (ps : List Laurent) (rest : List Arrival) : Type 0 where
  pub over : IsOverRanks n ranks ps
  pub ahead : AllByRecursion (λ rank. AllByRecursion (λ t. rank < t.rank) rest) ranks
  pub sorted : IsNonDecreasingBy (λ t. t.rank) rest
  pub brought : AllByRecursion (IsBroughtBy n es) rest
  pub sums : Progress es (arrivals_at n arrivals) limit (entries_over n ranks ps) (arrivals_at n rest)

-- At the start nothing is summed.
pub rank_begins : (n : ℕ) (es : Entries) (arrivals : List Arrival) (limit : ℕ) (ranks : List ℕ) (ps : List Laurent) →
    ranks ≡ [] → ps ≡ [] → n ≤ DEGREE_LIMIT → AllByRecursion (IsBroughtBy n es) arrivals →
    IsSortedByKey (λ t. t.rank) nat_cmp arrivals → RankProgress n es arrivals limit ranks ps arrivals
unfolding entries_over
rank_begins n es arrivals limit ranks ps no_rank none small brought sorted =
    subst (λ l. RankProgress n es arrivals limit l ps arrivals) (sym no_rank)
    (subst (λ l. RankProgress n es arrivals limit [] l arrivals) (sym none) empty)
  where
    empty : RankProgress n es arrivals limit [] [] arrivals
    empty = record {
      over = record { small = small; count = refl; climbs = tt; there = tt; polynomials = tt };
      ahead = tt;
      sorted = IsNonDecreasingBy-from_sort (λ t. t.rank) arrivals sorted;
      brought = brought;
      sums = begins es (arrivals_at n arrivals) limit (all_brought n es arrivals small brought);
    }

-- The move at a place behind the run leads to a greater rank.
greater_at : (rest : List Arrival) (rank stop : ℕ) (default : Arrival) → 1 ≤ length rest →
    (get_or rest 0 default).rank ≡ rank → stop ≡ prefix_len (λ t. nat_eq t.rank rank) rest →
    IsNonDecreasingBy (λ t. t.rank) rest →
    (i : ℕ) (d : Arrival) → stop ≤ i → i < length rest → rank < (get_or rest i d).rank
greater_at rest rank stop default some at stop_is sorted i d from within =
    let first : (get_or rest 0 default).rank ≡ (get_or rest 0 d).rank =
    ap (λ (t : Arrival). t.rank) (get_or_default rest 0 default d some) in
    let ends : nat_eq (get_or rest stop d).rank rank ≡ false =
    ap (λ k. nat_eq (get_or rest k d).rank rank) stop_is
    ∙ prefix_len_stops (λ (t : Arrival). nat_eq t.rank rank) rest d (omega (arith, stop_is, from, within)) in
    let other : (get_or rest stop d).rank ≢ rank = eqb-false (get_or rest stop d).rank rank ends in
    let low : (get_or rest 0 d).rank ≤ (get_or rest stop d).rank = sorted 0 stop d (omega arith) (omega arith) in
    let high : (get_or rest stop d).rank ≤ (get_or rest i d).rank = sorted stop i d from within in
    omega (arith, first, at, other, low, high)

-- The moves behind the run lead to greater ranks.
later_greater : (rest : List Arrival) (rank : ℕ) (run later : List Arrival) → RankSplit rest rank run later →
    IsNonDecreasingBy (λ t. t.rank) rest → AllByRecursion (λ t. rank < t.rank) later
later_greater rest rank run later s sorted =
    subst (AllByRecursion (λ t. rank < t.rank)) (sym s.later_is)
    (all_drop (λ t. rank < t.rank) rest (prefix_len (λ t. nat_eq t.rank rank) rest)
    (greater_at rest rank (prefix_len (λ t. nat_eq t.rank rank) rest) s.default s.some s.at refl sorted))

-- The ranks and polynomials once a sum is added that isn't 0.
entries_pushed : (n : ℕ) (ranks : List ℕ) (ps : List Laurent) (rank : ℕ) (sum : Laurent) (some : Bool) →
    length ranks ≡ length ps →
    entries_over n (cond some (ranks ++ (rank ∷ [])) ranks) (cond some (ps ++ (sum ∷ [])) ps)
    ≡ entries_over n ranks ps ++ cond some ((partition_at n rank, sum) ∷ []) []
entries_pushed n ranks ps rank sum true h = entries_over-push n ranks ps rank sum h
entries_pushed n ranks ps rank sum false h = sym (append-nil (entries_over n ranks ps))

over_pushed : (n : ℕ) (ranks : List ℕ) (ps : List Laurent) (rank : ℕ) (sum : Laurent) (some : Bool) →
    nat_lt 0 (length sum) ≡ some → IsOverRanks n ranks ps → AllByRecursion (λ other. other < rank) ranks →
    rank < length (partitions n) → IsHeld sum →
    IsOverRanks n (cond some (ranks ++ (rank ∷ [])) ranks) (cond some (ps ++ (sum ∷ [])) ps)
over_pushed n ranks ps rank sum false test h below lt held = h
over_pushed n ranks ps rank sum true test h below lt held =
    over_more n ranks ps rank sum h below lt held
    (λ none. true≢false (sym test ∙ ap (λ l. nat_lt 0 (length l)) none))

all_pushed : (P : ℕ → Type 0) (ranks : List ℕ) (rank : ℕ) (some : Bool) → AllByRecursion P ranks → P rank →
    AllByRecursion P (cond some (ranks ++ (rank ∷ [])) ranks)
all_pushed P ranks rank false h last = h
all_pushed P ranks rank true h last = all_append P ranks (rank ∷ []) h (last, tt)

module _ (n : ℕ) (es : Entries) (arrivals : List Arrival) (limit : ℕ) (ranks : List ℕ) (ps : List Laurent)
    (rest : List Arrival) (p : RankProgress n es arrivals limit ranks ps rest) where
  module _ (rank : ℕ) (run later : List Arrival) (s : RankSplit rest rank run later) where
    rank_there : rank < length (partitions n)
    rank_there = subst (λ k. k < length (partitions n)) s.at
        (all_at (λ t. t.rank < length (partitions n)) rest 0 s.default (all_there n es rest p.brought) s.some)

    -- A run that is past the limit takes the induction past it.
    pub rank_past : limit < sum_by (size_at es) run → limit < greatest (sizes_of es (runs (arrivals_at n arrivals)))
    rank_past past =
        run_past es (arrivals_at n arrivals) limit (entries_over n ranks ps) (arrivals_at n rest) p.sums
        (partition_at n rank) (arrivals_at n run) (arrivals_at n later)
        (as_partitions n rest rank run later s rank_there (all_there n es rest p.brought))
        (omega (arith, past, same_sizes n es run))

    -- The moves that are later are fewer.
    pub rank_shorter : length later < length rest
    rank_shorter =
        omega (
          arith,
          length-map rest (arrival_at n),
          length-map later (arrival_at n),
          later_shorter (arrivals_at n rest) (partition_at n rank) (arrivals_at n run) (arrivals_at n later)
              (as_partitions n rest rank run later s rank_there (all_there n es rest p.brought)),
        )

    -- Each move of the run comes from an entry.
    pub run_is_brought : AllByRecursion (IsBroughtBy n es) run
    run_is_brought = subst (AllByRecursion (IsBroughtBy n es)) (sym s.run_is)
        (all_take (IsBroughtBy n es) rest (prefix_len (λ t. nat_eq t.rank rank) rest)
        (λ i d _ lt. all_at (IsBroughtBy n es) rest i d p.brought lt))

    pub run_sources : AllByRecursion (λ t. t.source < length es) run
    run_sources = all_weaken (IsBroughtBy n es) (λ t. t.source < length es) run (λ t b. b.source) run_is_brought

    -- Once the sum of a run is added, the loop has come one run further.
    pub rank_further : (sum : Laurent) (new_ranks : List ℕ) (new_ps : List Laurent) →
        sum_by (size_at es) run ≤ limit → sum ≡ sum_over run (share_at es) → IsHeld sum →
        new_ranks ≡ cond (nat_lt 0 (length sum)) (ranks ++ (rank ∷ [])) ranks →
        new_ps ≡ cond (nat_lt 0 (length sum)) (ps ++ (sum ∷ [])) ps →
        RankProgress n es arrivals limit new_ranks new_ps later
    rank_further sum new_ranks new_ps fits is held ranks_are ps_are =
        subst (λ l. RankProgress n es arrivals limit new_ranks l later) (sym ps_are)
        (subst (λ l. RankProgress n es arrivals limit l (cond (nat_lt 0 (length sum)) (ps ++ (sum ∷ [])) ps) later)
        (sym ranks_are) further)
      where
        further : RankProgress n es arrivals limit (cond (nat_lt 0 (length sum)) (ranks ++ (rank ∷ [])) ranks)
            (cond (nat_lt 0 (length sum)) (ps ++ (sum ∷ [])) ps) later
        further = record {
          over = over_pushed n ranks ps rank sum (nat_lt 0 (length sum)) refl p.over
              (all_weaken (λ other. AllByRecursion (λ t. other < t.rank) rest) (λ other. other < rank) ranks
              (λ other h. subst (λ k. other < k) s.at (all_at (λ t. other < t.rank) rest 0 s.default h s.some))
              p.ahead) rank_there held;
          ahead = all_pushed (λ other. AllByRecursion (λ t. other < t.rank) later) ranks rank (nat_lt 0 (length sum))
              (all_weaken (λ other. AllByRecursion (λ t. other < t.rank) rest)
              (λ other. AllByRecursion (λ t. other < t.rank) later) ranks
              (λ other h. subst (AllByRecursion (λ t. other < t.rank)) (sym s.later_is)
              (all_from (λ t. other < t.rank) (prefix_len (λ t. nat_eq t.rank rank) rest) rest h)) p.ahead)
              (later_greater rest rank run later s p.sorted);
          sorted = subst (IsNonDecreasingBy (λ t. t.rank)) (sym s.later_is)
              (IsNonDecreasingBy-drop (λ t. t.rank) (prefix_len (λ t. nat_eq t.rank rank) rest) rest p.sorted);
          brought = subst (AllByRecursion (IsBroughtBy n es)) (sym s.later_is)
              (all_from (IsBroughtBy n es) (prefix_len (λ t. nat_eq t.rank rank) rest) rest p.brought);
          sums = run_further es (arrivals_at n arrivals) limit (entries_over n ranks ps) (arrivals_at n rest) p.sums
              (partition_at n rank) (arrivals_at n run) (arrivals_at n later) sum
              (entries_over n (cond (nat_lt 0 (length sum)) (ranks ++ (rank ∷ [])) ranks)
              (cond (nat_lt 0 (length sum)) (ps ++ (sum ∷ [])) ps))
              (as_partitions n rest rank run later s rank_there (all_there n es rest p.brought))
              (omega (arith, fits, same_sizes n es run)) (is ∙ sym (same_shares n es run)) held
              (entries_pushed n ranks ps rank sum (nat_lt 0 (length sum)) p.over.count);
        }

  -- No move is left: all sums are made.
  pub ranks_summed : length rest < 1 → entries_over n ranks ps ≡ sums_of es (runs (arrivals_at n arrivals))
  ranks_summed none =
      all_summed es (arrivals_at n arrivals) limit (entries_over n ranks ps) (arrivals_at n rest) p.sums
      (omega (arith, none, length-map rest (arrival_at n)))

  -- No move is left: all sizes fit.
  pub ranks_fit : length rest < 1 → greatest (sizes_of es (runs (arrivals_at n arrivals))) ≤ limit
  ranks_fit none =
      all_fit es (arrivals_at n arrivals) limit (entries_over n ranks ps) (arrivals_at n rest) p.sums
      (omega (arith, none, length-map rest (arrival_at n)))
