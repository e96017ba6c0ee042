-- The blocks of the partitions of n, sorted: their cores are the cores of the partitions of n, each once.
use Rattle.std.proofs.Common.{◌≡◌, ◌≢◌, ℕ, zero, suc, ◌+◌, ◌*◌, ◌-◌, ◌/◌, ◌<◌, ◌≤◌, Bool, true, false, cond, List, []}
use Rattle.std.proofs.Common.{◌∷◌, map, filter, flat_map, reverse, length, count_by, get_or, inl, inr, Ordering}
use Rattle.std.proofs.Common.{Less, Equal, Greater, refl, sym, ◌∙◌, ap, subst, arith, true≢false}
use Rattle.std.specs.List.{AllByRecursion, range_with_len}
use Rattle.std.specs.List.Sorted.{IsPermutation, IsSortedByKey, IsStrictlySortedBy}
use Rattle.std.specs.Ordering.{is_eq, is_lt, ordering_reverse}
use Rattle.std.proofs.lemmas.List.Elements.{All-from_recursion, recursion_from_All}
use Rattle.std.proofs.lemmas.List.Folds.{flat_map-map}
use Rattle.std.proofs.lemmas.List.Kept.{IsStrictlySortedBy-filter}
use Rattle.std.proofs.lemmas.List.Sorted.{All-permutation, Contains-permutation, IsPermutation-map, IsPermutation-sym}
use Rattle.std.proofs.lemmas.List.Sorted.{ranks_by, sorted_far, sum_by-IsPermutation}
use Rattle.std.proofs.lemmas.List.Sums.{length-filter}
use Rattle.std.proofs.lemmas.Nat.{div-mul-add}
use Rattle.sp_defs.specs.Partition.{IsPartitionOf, compare, degree, order, partitions}
use Rattle.sp_defs.specs.Abacus.{core, weight}
use Rattle.sp_lists.proofs.Comparing.{test_same}
use Rattle.sp_lists.proofs.Counts.{count-cons, count-map}
use Rattle.sp_lists.proofs.Elements.{all_filter, all_map, all_reverse, count_zero, range_all}
use Rattle.sp_lists.proofs.Maps.{map-reverse}
use Rattle.sp_lists.proofs.Occurrence.{Occurs, all_occur, at_occurs, contains, from_filter, occurs, occurs_filter}
use Rattle.sp_lists.proofs.Occurrence.{occurs_map, occurs_some, passing, some_passes}
use Rattle.sp_lists.proofs.Places.{all_at, all_places, all_weaken}
use Rattle.sp_shapes.proofs.Listing.{all_partitions}
use Rattle.sp_shapes.proofs.Order.{differ}
use Rattle.sp_abacus_law.proofs.Weight.{core-partition, degree-core}
use Rattle.sp_partition.specs.OrderLaws.{order_equal, order_total}
use Rattle.sp_blocks.specs.declared.block.Block.{Block}
use Rattle.sp_blocks.specs.Blocks.{core_at, has_core, is_first, blocks_of}
use Rattle.sp_blocks.proofs.Same.{Told, tells}
use Rattle.sp_blocks.proofs.Firsts.{Apart, any_firsts, firsts, firsts_apart}
use Rattle.sp_blocks.proofs.OneMore.{block_at}
use Rattle.sp_replies.specs.Blocks.{IsBlock, block_line, block_weight, blocks_text, cores_of, is_core_of, is_in_block}
use Rattle.sp_replies.specs.Blocks.{partitions_up_to}
use Rattle.sp_replies.proofs.BlockCounts.{any_place}
use Rattle.sp_replies.proofs.StrictOrder.{same_members}
use Rattle.sp_replies.proofs.UpToDegree.{up_to_listed, up_to_strict}

-- ---- weights

-- The weight of a block is that of each of its partitions.
pub weight_of_members : (e n : ℕ) (p : List ℕ) → 2 ≤ e → IsPartitionOf n p → block_weight e n (core e p) ≡ weight e p
weight_of_members e n p he h =
    ap (λ m. m / e)
    (taken n (degree (core e p)) (weight e p) (sym h.total ∙ degree-core e p (omega arith) h.partition))
    ∙ div-mul-add (weight e p) e 0 (omega arith)
  where
    taken : (n c w : ℕ) → n ≡ c + e * w → n - c ≡ w * e + 0
    taken n c w is = omega arith

core_small : (e n : ℕ) (p : List ℕ) → 2 ≤ e → IsPartitionOf n p → degree (core e p) ≤ n
core_small e n p he h = omega (arith, h.total, degree-core e p (omega arith) h.partition)

-- ---- blocks that are sorted by their cores, of which no two have one core

abbrev has : List ℕ → Block → Bool
has kappa b = is_eq (compare b.core kappa)

-- of two blocks with different cores that are in order the first is before the second
before : (x y : Block) (xs : List Block) → Occurs y xs → is_lt (order y.core x.core) ≡ false →
    count_by (has x.core) (x ∷ xs) ≤ 1 → order x.core y.core ≡ Less
before x y xs o h once = settle (order y.core x.core) refl
  where
    settle : (r : Ordering) → order y.core x.core ≡ r → order x.core y.core ≡ Less
    settle Less is = absurd (true≢false (sym (ap is_lt is) ∙ h))
    settle Equal is =
        let two : count_by (has x.core) (x ∷ xs) ≡ 1 + count_by (has x.core) xs =
        count-cons (has x.core) x xs
        ∙ ap (λ v. cond v 1 0 + count_by (has x.core) xs) (test_same x.core x.core refl) in
        let more : 1 ≤ length (filter (has x.core) xs) =
        occurs_some y (filter (has x.core) xs)
        (occurs_filter (has x.core) y xs (test_same y.core x.core (order_equal y.core x.core is)) o) in
        absurd (omega (arith, two, more, once, length-filter (has x.core) xs))
    settle Greater is = order_total.antisymm x.core y.core ∙ ap ordering_reverse is

strict : (xs : List Block) →
    ((i j : ℕ) (d : Block) → i < j → j < length xs →
    is_lt (order (get_or xs j d).core (get_or xs i d).core) ≡ false) →
    ((kappa : List ℕ) → count_by (has kappa) xs ≤ 1) → IsStrictlySortedBy order (map (λ b. b.core) xs)
unfolding IsStrictlySortedBy
strict [] up once = tt
strict (x ∷ xs) up once = (
  all_map (λ kappa. order x.core kappa ≡ Less) (λ b. b.core) xs
      (all_places (λ b. order x.core b.core ≡ Less) xs x
      (λ i lt. before x (get_or xs i x) xs (all_at (λ y. Occurs y xs) xs i x (all_occur xs) lt)
      (up zero (suc i) x (omega arith) (omega arith)) (once x.core))),
  strict xs (λ i j d lt within. up (suc i) (suc j) d (omega arith) (omega arith))
      (λ kappa. omega (arith, once kappa, count-cons (has kappa) x xs)),
)

-- of places with different cores at most one has a core
count_apart : (core_of : ℕ → List ℕ) (kappa : List ℕ) (ks : List ℕ) → Apart core_of ks →
    count_by (has_core core_of kappa) ks ≤ 1
count_apart core_of kappa [] h = omega arith
count_apart core_of kappa (k ∷ ks) (h, hs) = settle (tells (core_of k) kappa) (count_apart core_of kappa ks hs)
  where
    settle : Told (core_of k) kappa → count_by (has_core core_of kappa) ks ≤ 1 →
        count_by (has_core core_of kappa) (k ∷ ks) ≤ 1
    settle (inl (t, same)) rest =
        let none : count_by (has_core core_of kappa) ks ≡ 0 =
        count_zero (has_core core_of kappa) ks
        (all_weaken (λ j. core_of j ≢ core_of k) (λ j. has_core core_of kappa j ≡ false) ks
        (λ j ne. differ (core_of j) kappa (λ is. ne (is ∙ sym same))) h) in
        let one : count_by (has_core core_of kappa) (k ∷ ks) ≡ 1 + count_by (has_core core_of kappa) ks =
        count-cons (has_core core_of kappa) k ks
        ∙ ap (λ v. cond v 1 0 + count_by (has_core core_of kappa) ks) t in
        omega (arith, none, one)
    settle (inr (t, ne)) rest =
        let none : count_by (has_core core_of kappa) (k ∷ ks) ≡ 0 + count_by (has_core core_of kappa) ks =
        count-cons (has_core core_of kappa) k ks
        ∙ ap (λ v. cond v 1 0 + count_by (has_core core_of kappa) ks) t in
        omega (arith, none, rest)

-- The blocks as the code finds and sorts them.
pub blocks_perm : (e n : ℕ) (list : List (List ℕ)) (found sorted : List Block) → list ≡ partitions n →
    found ≡ blocks_of e list → IsPermutation found sorted → IsPermutation (blocks_of e (partitions n)) sorted
blocks_perm e n list found sorted list_is found_is perm =
    subst (λ bs. IsPermutation bs sorted) (found_is ∙ ap (blocks_of e) list_is) perm

-- ---- the blocks of the partitions of n

module _ (e n : ℕ) (he : 2 ≤ e) where
  abbrev core_of : ℕ → List ℕ
  core_of = core_at e (partitions n)

  abbrev count : ℕ
  count = length (partitions n)

  abbrev blocks : List Block
  blocks = blocks_of e (partitions n)

  abbrev cores : List Block → List (List ℕ)
  cores bs = map (λ b. b.core) bs

  cores_mapped : (ks : List ℕ) → cores (map (block_at core_of count) ks) ≡ map core_of ks
  cores_mapped [] = refl
  cores_mapped (k ∷ ks) = ap (λ cs. core_of k ∷ cs) (cores_mapped ks)

  -- what holds of the block of each place holds of each block
  of_places : (P : Block → Type 0) → ((k : ℕ) → k < count → P (block_at core_of count k)) → AllByRecursion P blocks
  of_places P f =
      all_map P (block_at core_of count) (firsts core_of count)
      (all_filter (λ k. P (block_at core_of count k)) (is_first core_of) (range_with_len 0 count)
      (range_all (λ k. is_first core_of k ≡ true → P (block_at core_of count k)) 0 count
      (λ k lo hi t. f k (within k hi))))
    where
      within : (k : ℕ) → k < 0 + count → k < count
      within k hi = omega arith

  partition_at : (k : ℕ) → k < count → IsPartitionOf n (get_or (partitions n) k [])
  partition_at k lt = all_at (IsPartitionOf n) (partitions n) k [] (all_partitions n) lt

  all_blocks : AllByRecursion (IsBlock e n) blocks
  all_blocks =
      of_places (IsBlock e n)
      (λ k lt. record { small = core_small e n (get_or (partitions n) k []) he (partition_at k lt); places = refl })

  -- the core of a block is one of the cores
  all_cores : AllByRecursion (λ b. Occurs b.core (cores_of e n)) blocks
  all_cores = of_places (λ b. Occurs b.core (cores_of e n)) listed
    where
      listed : (k : ℕ) → k < count → Occurs (core_of k) (cores_of e n)
      listed k lt =
          let p = get_or (partitions n) k [] in
          occurs_filter (is_core_of e n) (core e p) (partitions_up_to n)
          (some_passes (is_in_block e (core e p)) p (partitions n)
          (all_at (λ q. Occurs q (partitions n)) (partitions n) k [] (all_occur (partitions n)) lt)
          (test_same (core e p) (core e p) refl))
          (up_to_listed n (core e p) (core-partition e p) (core_small e n p he (partition_at k lt)))

  -- each core is that of a block
  core_comes : (kappa : List ℕ) → Occurs kappa (cores_of e n) → Occurs kappa (cores blocks)
  core_comes kappa o =
      settle (passing (has_core core_of kappa) (firsts core_of count)
      (any_firsts core_of count kappa
      ∙ any_place (partitions n) [] (is_in_block e kappa)
      ∙ (from_filter (is_core_of e n) kappa (partitions_up_to n) o).1))
    where
      settle : (f : ℕ) × Occurs f (firsts core_of count) × (has_core core_of kappa f ≡ true) →
          Occurs kappa (cores blocks)
      settle (f, there, t) =
          subst (Occurs kappa) (sym (cores_mapped (firsts core_of count)))
          (subst (λ x. Occurs x (map core_of (firsts core_of count))) (same (tells (core_of f) kappa))
          (occurs_map core_of f (firsts core_of count) there))
        where
          same : Told (core_of f) kappa → core_of f ≡ kappa
          same (inl (_, is)) = is
          same (inr (t', _)) = absurd (true≢false (sym t ∙ t'))

  -- no two blocks have one core
  once : (kappa : List ℕ) → count_by (has kappa) blocks ≤ 1
  once kappa =
      let as_places : count_by (has kappa) blocks ≡ count_by (has_core core_of kappa) (firsts core_of count) =
      count-map (has kappa) (block_at core_of count) (firsts core_of count) in
      omega (arith, as_places, count_apart core_of kappa (firsts core_of count) (firsts_apart core_of count))

  -- ---- sorted by their cores

  module _ (sorted : List Block) (perm : IsPermutation blocks sorted) where
    -- Each of the sorted blocks is a block of the partitions of n.
    pub each_is_block : AllByRecursion (IsBlock e n) (reverse sorted)
    each_is_block =
        all_reverse (IsBlock e n) sorted
        (recursion_from_All (IsBlock e n) sorted
        (All-permutation (IsBlock e n) blocks sorted perm (All-from_recursion (IsBlock e n) blocks all_blocks)))

    module _ (up : IsSortedByKey (λ b. b.core) order sorted) where
      cores_perm : IsPermutation (cores blocks) (cores sorted)
      cores_perm = IsPermutation-map (λ b. b.core) blocks sorted perm

      sorted_once : (kappa : List ℕ) → count_by (has kappa) sorted ≤ 1
      sorted_once kappa =
          let same : count_by (has kappa) sorted ≡ count_by (has kappa) blocks =
          sum_by-IsPermutation (λ b. cond (has kappa b) 1 0) blocks sorted perm in
          omega (arith, same, once kappa)

      -- The cores of the sorted blocks are the cores of the partitions of n.
      cores_sorted : cores sorted ≡ cores_of e n
      cores_sorted =
          same_members (cores sorted) (cores_of e n)
          (strict sorted
          (λ i j d lt within.
          sorted_far (λ a b. is_lt (order a.core b.core)) (ranks_by order_total (λ b. b.core)) sorted up i j d
          (omega arith) within) sorted_once)
          (IsStrictlySortedBy-filter order (is_core_of e n) (partitions_up_to n) (up_to_strict n))
          (λ kappa o. at_occurs (λ c. Occurs c (cores_of e n)) kappa (cores blocks)
          (occurs kappa (cores blocks) (Contains-permutation (cores sorted) (cores blocks) kappa
          (IsPermutation-sym (cores blocks) (cores sorted) cores_perm) (contains kappa (cores sorted) o)))
          (all_map (λ c. Occurs c (cores_of e n)) (λ b. b.core) blocks all_cores))
          (λ kappa o. occurs kappa (cores sorted) (Contains-permutation (cores blocks) (cores sorted) kappa
          cores_perm (contains kappa (cores blocks) (core_comes kappa o))))

      -- The lines of the sorted blocks, from the last to the first, are the answer.
      pub lines_are : flat_map (λ b. block_line e n b.core) (reverse sorted) ≡ blocks_text e n
      lines_are =
          sym (flat_map-map (block_line e n) (λ b. b.core) (reverse sorted))
          ∙ ap (flat_map (block_line e n)) (map-reverse (λ b. b.core) sorted ∙ ap reverse cores_sorted)
