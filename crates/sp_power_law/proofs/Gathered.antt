-- All arrivals, in order, cut into runs and summed, are the entries of the divided power; the greatest size of a run
-- is the weight of the induction.
use Rattle.std.proofs.Common.{◌≡◌, ◌≢◌, ℕ, ◌+◌, ◌≤◌, cond, nat_lt, List, [], ◌∷◌, map, filter, length}
use Rattle.std.proofs.Common.{refl, sym, ◌∙◌, ap, ap₂, subst, arith, sum_by, le_antisymm, ◌⊎◌, inl, inr}
use Rattle.std.specs.List.{AllByRecursion}
use Rattle.std.specs.List.Sorted.{IsPermutation}
use Rattle.std.specs.declared.cmp.Ordering.{Ordering}
use Rattle.std.specs.declared.cmp.Ordering.TheVariants.{Less, Equal, Greater}
use Rattle.std.proofs.lemmas.List.Elements.{All-from_recursion, recursion_from_All}
use Rattle.std.proofs.lemmas.Cmp.{nat_list_cmp_total}
use Rattle.std.specs.Ordering.{ordering_reverse}
use Rattle.std.proofs.lemmas.List.Sorted.{All-permutation}
use Rattle.sp_defs.specs.Partition.{partitions, compare, Ascending, IsEarlier, IsPartitionOf}
use Rattle.sp_defs.specs.Laurent.{Laurent, sum_over}
use Rattle.sp_defs.specs.Power.{Entries, vector_of, entries, greatest, divided_power, reaching_size, induction_weight}
use Rattle.sp_lists.proofs.Elements.{all_append, all_map, all_both}
use Rattle.sp_lists.proofs.Counts.{sum-filter-permutation}
use Rattle.sp_lists.proofs.Maps.{map-alike}
use Rattle.sp_lists.proofs.Places.{all_weaken}
use Rattle.sp_lists.proofs.Greatest.{greatest_within, within_greatest, map_within, within_map}
use Rattle.sp_algebra.proofs.Reordered.{sum_over-filter-permutation}
use Rattle.sp_shapes.proofs.Order.{equal_self, same_lists, less_trans}
use Rattle.sp_shapes.proofs.Listing.{Occurs, at_occurs, all_partitions, each_partition, partitions_ascend}
use Rattle.sp_power_law.specs.Walk.{moves}
use Rattle.sp_power_law.specs.Runs.{is_at, Arrival, Run, arrivals, runs, share_of, size_of, sums_of, sizes_of}
use Rattle.sp_power_law.proofs.Ways.{IsMoveOf, all_moves}
use Rattle.sp_power_law.proofs.Runs.{InOrder, heads, runs-are, runs-heads, has_run}
use Rattle.sp_power_law.proofs.Exchange.{sum_of_arrivals, size_of_arrivals}

-- ---- a list of partitions that leaves out only zeros has the same entries

abbrev entries_at : (List ℕ → Laurent) → List (List ℕ) → Entries
entries_at w xs = filter (λ t. nat_lt 0 (length t.1)) (map (λ nu. (nu, w nu)) xs)

-- where a polynomial is 0 there is no entry
skip : (w : List ℕ → Laurent) (q : List ℕ) (xs : List (List ℕ)) → w q ≡ [] → entries_at w (q ∷ xs) ≡ entries_at w xs
skip w q xs h = ap (λ p. cond (nat_lt 0 (length p)) ((q, w q) ∷ entries_at w xs) (entries_at w xs)) h

-- what is later than x isn't x
apart : (x y : List ℕ) → IsEarlier x y → y ≢ x
apart x y h e = let k : Less ≡ Equal = sym h ∙ subst (λ l. compare x l ≡ Equal) (sym e) (equal_self x) in cc

occurs_later : (q x : List ℕ) (xs : List (List ℕ)) → IsEarlier q x → Occurs x (q ∷ xs) → Occurs x xs
occurs_later q x xs h (inl e) = absurd (apart q x h e)
occurs_later q x xs h (inr o) = o

all_later : (q : List ℕ) (hs ps : List (List ℕ)) → AllByRecursion (IsEarlier q) hs →
    AllByRecursion (λ x. Occurs x (q ∷ ps)) hs → AllByRecursion (λ x. Occurs x ps) hs
all_later q [] ps h k = tt
all_later q (x ∷ hs) ps (h, hs') (k, ks) = (occurs_later q x ps h k, all_later q hs ps hs' ks)

abbrev Left : (List ℕ → Laurent) → List (List ℕ) → List ℕ → Type 0
Left w hs q = Occurs q hs ⊎ (w q ≡ [])

-- once the first of both is taken off
left_later : (w : List ℕ → Laurent) (h : List ℕ) (hs ps : List (List ℕ)) → AllByRecursion (IsEarlier h) ps →
    AllByRecursion (Left w (h ∷ hs)) ps → AllByRecursion (Left w hs) ps
left_later w h hs [] e k = tt
left_later w h hs (q ∷ ps) (e, es) (k, ks) = (further k, left_later w h hs ps es ks)
  where
    further : Left w (h ∷ hs) q → Left w hs q
    further (inl (inl s)) = absurd (apart h q e s)
    further (inl (inr o)) = inl o
    further (inr z) = inr z

never : (q : List ℕ) (xs : List (List ℕ)) → AllByRecursion (IsEarlier q) xs → Occurs q xs → ⊥
never q [] h o = o
never q (x ∷ xs) (h, hs) (inl e) = apart q x h (sym e)
never q (x ∷ xs) (h, hs) (inr o) = never q xs hs o

same_entries_at : (w : List ℕ → Laurent) (hs ps : List (List ℕ)) → Ascending hs → Ascending ps →
    AllByRecursion (λ x. Occurs x ps) hs → AllByRecursion (Left w hs) ps → entries_at w hs ≡ entries_at w ps
same_entries_at w [] [] uh up h k = refl
same_entries_at w (x ∷ hs) [] uh up h k = absurd h.0
same_entries_at w [] (q ∷ ps) uh up h (k, ks) = same_entries_at w [] ps tt up.1 tt ks ∙ sym (skip w q ps (zero_of k))
  where
    zero_of : Left w [] q → w q ≡ []
    zero_of (inl o) = absurd o
    zero_of (inr z) = z
same_entries_at w (x ∷ hs) (q ∷ ps) uh up h k =
    by_order (compare x q) refl
    (λ kept below. same_entries_at w hs ps uh.1 up.1 kept below)
    (λ kept below. same_entries_at w (x ∷ hs) ps uh up.1 kept below)
  where
    by_order : (o : Ordering) → compare x q ≡ o →
        (AllByRecursion (λ x. Occurs x ps) hs → AllByRecursion (Left w hs) ps → entries_at w hs ≡ entries_at w ps) →
        (AllByRecursion (λ x. Occurs x ps) (x ∷ hs) → AllByRecursion (Left w (x ∷ hs)) ps →
        entries_at w (x ∷ hs) ≡ entries_at w ps) →
        entries_at w (x ∷ hs) ≡ entries_at w (q ∷ ps)
    by_order Equal is both right =
        let same : x ≡ q = same_lists x q is in
        ap₂ (λ y l. cond (nat_lt 0 (length (w y))) ((y, w y) ∷ l) l) same
        (both (all_later q hs ps (subst (λ y. AllByRecursion (IsEarlier y) hs) same uh.0) h.1)
        (left_later w x hs ps (subst (λ y. AllByRecursion (IsEarlier y) ps) (sym same) up.0) k.1))
    by_order Less is both right = absurd (clash h.0)
      where
        clash : Occurs x (q ∷ ps) → ⊥
        clash (inl e) = apart x q is (sym e)
        clash (inr o) = never x ps (all_weaken (IsEarlier q) (IsEarlier x) ps (λ y l. less_trans x q y is l) up.0) o
    by_order Greater is both right =
        right (all_later q (x ∷ hs) ps
        (early, all_weaken (IsEarlier x) (IsEarlier q) hs (λ y l. less_trans q x y early l) uh.0) h) k.1
        ∙ sym (skip w q ps (zero_of k.0))
      where
        early : IsEarlier q x
        early = nat_list_cmp_total.antisymm q x ∙ ap ordering_reverse is

        zero_of : Left w (x ∷ hs) q → w q ≡ []
        zero_of (inl (inl e)) = absurd (apart q x early (sym e))
        zero_of (inl (inr o)) =
            absurd (never q hs (all_weaken (IsEarlier x) (IsEarlier q) hs (λ y l. less_trans q x y early l) uh.0) o)
        zero_of (inr z) = z

-- ---- the greatest of a list that leaves out only zeros

same_greatest : (f : List ℕ → ℕ) (hs ps : List (List ℕ)) → AllByRecursion (λ x. Occurs x ps) hs →
    AllByRecursion (λ q. Occurs q hs ⊎ (f q ≡ 0)) ps → greatest (map f hs) ≡ greatest (map f ps)
same_greatest f hs ps h k = le_antisymm
    (greatest_within (greatest (map f ps)) (map f hs) (map_within f (greatest (map f ps)) hs
    (all_weaken (λ x. Occurs x ps) (λ x. f x ≤ greatest (map f ps)) hs
    (λ x o. at_occurs (λ x. f x ≤ greatest (map f ps)) x ps o each_in_ps) h)))
    (greatest_within (greatest (map f hs)) (map f ps) (map_within f (greatest (map f hs)) ps
    (all_weaken (λ q. Occurs q hs ⊎ (f q ≡ 0)) (λ q. f q ≤ greatest (map f hs)) ps (λ q o. below q o) k)))
  where
    each_in_ps : AllByRecursion (λ x. f x ≤ greatest (map f ps)) ps
    each_in_ps = within_map f (greatest (map f ps)) ps (within_greatest (greatest (map f ps)) (map f ps) (omega arith))

    each_in_hs : AllByRecursion (λ x. f x ≤ greatest (map f hs)) hs
    each_in_hs = within_map f (greatest (map f hs)) hs (within_greatest (greatest (map f hs)) (map f hs) (omega arith))

    below : (q : List ℕ) → Occurs q hs ⊎ (f q ≡ 0) → f q ≤ greatest (map f hs)
    below q (inl o) = at_occurs (λ x. f x ≤ greatest (map f hs)) q hs o each_in_hs
    below q (inr z) = omega (arith, z)
    -- ---- where the arrivals are

-- All arrivals are at partitions of n + m.
pub all_targets : (e i m n place : ℕ) (es : Entries) → 2 ≤ e → AllByRecursion (λ s. IsPartitionOf n s.0) es →
    AllByRecursion (λ t. IsPartitionOf (n + m) t.0) (arrivals e i m place es)
unfolding arrivals
all_targets e i m n place [] he h = tt
all_targets e i m n place (s ∷ es) he (h, hs) =
    all_append (λ t. IsPartitionOf (n + m) t.0) (map (λ t. (t.0, place, t.1)) (moves e i m s.0))
    (arrivals e i m (place + 1) es)
    (all_map (λ t. IsPartitionOf (n + m) t.0) (λ t. (t.0, place, t.1)) (moves e i m s.0)
    (all_weaken (IsMoveOf e i m s.0) (λ t. IsPartitionOf (n + m) t.0) (moves e i m s.0)
    (λ t g. record { partition = g.partition; total = g.degree_is ∙ ap (λ k. k + m) h.total })
    (all_moves e i m s.0 he h.partition)))
    (all_targets e i m n (place + 1) es he hs)

map-heads : {Y : Type 0} (f : List ℕ → Y) (rs : List Run) → map (λ run. f run.0) rs ≡ map f (heads rs)
map-heads f [] = refl
map-heads f (run ∷ rs) = ap (λ l. f run.0 ∷ l) (map-heads f rs)

-- ---- the theorem

module _ (e i m n : ℕ) (he : 2 ≤ e) (es : Entries) (all : AllByRecursion (λ s. IsPartitionOf n s.0) es)
    (same : entries n (vector_of es) ≡ es) (ts : List Arrival) (moved : IsPermutation (arrivals e i m 0 es) ts)
    (ordered : InOrder ts) where
  all_ts : AllByRecursion (λ t. IsPartitionOf (n + m) t.0) ts
  all_ts = recursion_from_All (λ t. IsPartitionOf (n + m) t.0) ts
      (All-permutation (λ t. IsPartitionOf (n + m) t.0) (arrivals e i m 0 es) ts moved
      (All-from_recursion (λ t. IsPartitionOf (n + m) t.0) (arrivals e i m 0 es) (all_targets e i m n 0 es he all)))

  all_runs : AllByRecursion (λ run. IsPartitionOf (n + m) run.0) (runs ts)
  all_runs = runs-heads (IsPartitionOf (n + m)) ts all_ts

  sum_is : (nu : List ℕ) → IsPartitionOf (n + m) nu →
      sum_over (filter (is_at nu) ts) (share_of es) ≡ divided_power e i m (vector_of es) nu
  sum_is nu h = sum_over-filter-permutation (is_at nu) (arrivals e i m 0 es) ts (share_of es) moved
      ∙ sum_of_arrivals e i m he nu h.partition n h.total es all same

  size_is : (nu : List ℕ) → IsPartitionOf (n + m) nu →
      sum_by (size_of es) (filter (is_at nu) ts) ≡ reaching_size e i m (vector_of es) nu
  size_is nu h = sum-filter-permutation (is_at nu) (size_of es) (arrivals e i m 0 es) ts moved
      ∙ size_of_arrivals e i m he nu h.partition n h.total es all same

  of_runs : {Y : Type 0} (f : List ℕ → List Arrival → Y) (g : List ℕ → Y) →
      ((nu : List ℕ) → IsPartitionOf (n + m) nu → f nu (filter (is_at nu) ts) ≡ g nu) →
      map (λ run. f run.0 run.1) (runs ts) ≡ map g (heads (runs ts))
  of_runs f g each =
      map-alike (λ run. f run.0 run.1) (λ run. g run.0) (runs ts)
      (all_weaken (λ run. (run.1 ≡ filter (is_at run.0) ts) × IsPartitionOf (n + m) run.0)
      (λ run. f run.0 run.1 ≡ g run.0) (runs ts)
      (λ run h. ap (f run.0) h.0 ∙ each run.0 h.1)
      (all_both (λ run. run.1 ≡ filter (is_at run.0) ts) (λ run. IsPartitionOf (n + m) run.0) (runs ts)
      (runs-are ts ordered).exact all_runs))
      ∙ map-heads g (runs ts)

  heads_occur : AllByRecursion (λ x. Occurs x (partitions (n + m))) (heads (runs ts))
  heads_occur = all_map (λ x. Occurs x (partitions (n + m))) (λ run. run.0) (runs ts)
      (all_weaken (λ run. IsPartitionOf (n + m) run.0) (λ run. Occurs run.0 (partitions (n + m))) (runs ts)
      (λ run h. each_partition (n + m) run.0 h.partition h.total) all_runs)

  -- The sums over the runs that are not 0 are the entries of the divided power.
  pub gathers : sums_of es (runs ts) ≡ entries (n + m) (divided_power e i m (vector_of es))
  unfolding sum_over
  gathers =
      ap (filter (λ t. nat_lt 0 (length t.1)))
      (of_runs (λ nu run. (nu, sum_over run (share_of es))) (λ nu. (nu, divided_power e i m (vector_of es) nu))
      (λ nu h. ap (λ p. (nu, p)) (sum_is nu h)))
      ∙ same_entries_at (divided_power e i m (vector_of es)) (heads (runs ts)) (partitions (n + m))
      (runs-are ts ordered).ascending (partitions_ascend (n + m)) heads_occur
      (all_weaken (IsPartitionOf (n + m)) (Left (divided_power e i m (vector_of es)) (heads (runs ts)))
      (partitions (n + m)) (λ nu h. none nu h (has_run nu ts)) (all_partitions (n + m)))
    where
      none : (nu : List ℕ) → IsPartitionOf (n + m) nu → Occurs nu (heads (runs ts)) ⊎ (filter (is_at nu) ts ≡ []) →
          Left (divided_power e i m (vector_of es)) (heads (runs ts)) nu
      none nu h (inl o) = inl o
      none nu h (inr z) = inr (sym (sum_is nu h) ∙ ap (λ l. sum_over l (share_of es)) z)

  -- The greatest size of a run is the weight of the induction.
  pub weighs : greatest (sizes_of es (runs ts)) ≡ induction_weight e i m n (vector_of es)
  weighs =
      ap greatest (of_runs (λ nu run. sum_by (size_of es) run) (reaching_size e i m (vector_of es)) size_is)
      ∙ same_greatest (reaching_size e i m (vector_of es)) (heads (runs ts)) (partitions (n + m)) heads_occur
      (all_weaken (IsPartitionOf (n + m)) (λ q. Occurs q (heads (runs ts)) ⊎ (reaching_size e i m (vector_of es) q ≡ 0))
      (partitions (n + m)) (λ nu h. none nu h (has_run nu ts)) (all_partitions (n + m)))
    where
      none : (nu : List ℕ) → IsPartitionOf (n + m) nu → Occurs nu (heads (runs ts)) ⊎ (filter (is_at nu) ts ≡ []) →
          Occurs nu (heads (runs ts)) ⊎ (reaching_size e i m (vector_of es) nu ≡ 0)
      none nu h (inl o) = inl o
      none nu h (inr z) = inr (sym (size_is nu h) ∙ ap (sum_by (size_of es)) z)
