-- Each place stands once in the blocks, in that of its core, and the blocks stand in the order of their least ranks.
use Rattle.std.proofs.Common.{◌≡◌, ◌≢◌, ℕ, zero, suc, ◌+◌, ◌<◌, ◌≤◌, Bool, true, false, cond, not, ◌&&◌, ◌||◌, nat_eq}
use Rattle.std.proofs.Common.{List, [], ◌∷◌, map, filter, flat_map, count_by, slice_index, get_or}
use Rattle.std.proofs.Common.{refl, sym, ◌∙◌, ap, ap₂, subst, arith, ◌⊎◌, inl, inr}
use Rattle.std.specs.List.{AllByRecursion, list_any, range_with_len}
use Rattle.std.specs.List.Sorted.{IsStrictlyIncreasing}
use Rattle.std.proofs.Math.Bool.{and-false}
use Rattle.std.proofs.lemmas.Bool.Decides.{eqb_tells}
use Rattle.std.proofs.lemmas.List.Concat.{flat_map-cons}
use Rattle.std.proofs.lemmas.List.Folds.{list_any_at}
use Rattle.std.proofs.lemmas.List.FromFn.{length-range_with_len, get_or-range_with_len}
use Rattle.std.proofs.lemmas.List.Kept.{IsStrictlyIncreasing-filter}
use Rattle.std.proofs.lemmas.List.Sums.{sum_by-append}
use Rattle.sp_lists.proofs.Comparing.{test_same}
use Rattle.sp_lists.proofs.Elements.{le_or_lt, all_map, all_filter, range_all, range_at, count_zero, all_every}
use Rattle.sp_lists.proofs.Counts.{count-cons, count-filter, count-alike}
use Rattle.sp_lists.proofs.Places.{all_weaken}
use Rattle.sp_lists.proofs.Sums.{sum-one}
use Rattle.sp_blocks.specs.Blocks.{has_core, places_with, is_first, blocks_below, ArePlaced}
use Rattle.sp_blocks.proofs.Same.{Told, tells}
use Rattle.sp_shapes.proofs.Order.{differ}
use Rattle.sp_blocks.proofs.Firsts.{firsts, any_firsts, Apart, firsts_apart}
use Rattle.sp_blocks.proofs.OneMore.{block_at, none_at}

-- ---- ranges

range_rises : (n : ℕ) → IsStrictlyIncreasing (range_with_len 0 n)
range_rises n k lt =
    omega (
      arith,
      length-range_with_len 0 n,
      get_or-range_with_len 0 n k 0 (omega (arith, length-range_with_len 0 n)),
      get_or-range_with_len 0 n (k + 1) 0 (omega (arith, length-range_with_len 0 n)),
    )

-- The first number of a range that passes a test stands first among those that do.
first_kept : (t : ℕ → Bool) (a m f : ℕ) → a ≤ f → f < a + m → t f ≡ true →
    ((j : ℕ) → a ≤ j → j < f → t j ≡ false) → (rest : List ℕ) × (filter t (range_with_len a m) ≡ f ∷ rest)
first_kept t a zero f lo hi passes_f fails_below = absurd (omega arith)
first_kept t a (suc m) f lo hi passes_f fails_below =
    settle (le_or_lt f a)
    (λ lt. first_kept t (a + 1) m f (omega arith) (omega arith) passes_f (λ j l. fails_below j (omega arith)))
  where
    others : List ℕ
    others = filter t (range_with_len (a + 1) m)

    settle : (f ≤ a) ⊎ (a < f) → (a < f → (rest : List ℕ) × (others ≡ f ∷ rest)) →
        (rest : List ℕ) × (cond (t a) (a ∷ others) others ≡ f ∷ rest)
    settle (inl le) _ =
        let same : a ≡ f = omega arith in
        (others, ap (λ v. cond v (a ∷ others) others) (ap t same ∙ passes_f) ∙ ap (λ x. x ∷ others) same)
    settle (inr lt) more =
        let found = more lt in
        (found.0, ap (λ v. cond v (a ∷ others) others) (fails_below a (omega arith) lt) ∙ found.1)

-- A number of the range stands once among those that pass a test, where it passes.
count_kept : (t : ℕ → Bool) (n k : ℕ) → k < n → count_by (nat_eq k) (filter t (range_with_len 0 n)) ≡ cond (t k) 1 0
count_kept t n k lt =
    count-filter (nat_eq k) t (range_with_len 0 n)
    ∙ tested (t k) refl
  where
    alike : (v : Bool) → t k ≡ v → (x : ℕ) → (t x && nat_eq k x) ≡ (v && nat_eq k x)
    alike v h x = told (eqb_tells k x)
      where
        told : ((nat_eq k x ≡ true) × (k ≡ x)) ⊎ ((nat_eq k x ≡ false) × (k ≢ x)) →
            (t x && nat_eq k x) ≡ (v && nat_eq k x)
        told (inl (_, same)) = ap (λ w. w && nat_eq k x) (ap t (sym same) ∙ h)
        told (inr (e, _)) = ap (λ w. t x && w) e ∙ and-false (t x) ∙ sym (ap (λ w. v && w) e ∙ and-false v)

    tested : (v : Bool) → t k ≡ v → count_by (λ x. t x && nat_eq k x) (range_with_len 0 n) ≡ cond v 1 0
    tested true h =
        count-alike (λ x. t x && nat_eq k x) (nat_eq k) (range_with_len 0 n)
        (all_every (λ x. (t x && nat_eq k x) ≡ nat_eq k x) (range_with_len 0 n) (alike true h))
        ∙ sum-one k 1 0 n (omega arith) (omega arith)
    tested false h =
        count_zero (λ x. t x && nat_eq k x) (range_with_len 0 n)
        (all_every (λ x. (t x && nat_eq k x) ≡ false) (range_with_len 0 n) (alike false h))

-- ---- the blocks

module _ (core_of : ℕ → List ℕ) where
  -- What the first places are.
  first_facts : (n : ℕ) → AllByRecursion (λ f. (f < n) × (is_first core_of f ≡ true)) (firsts core_of n)
  first_facts n =
      all_filter (λ f. (f < n) × (is_first core_of f ≡ true)) (is_first core_of) (range_with_len 0 n)
      (range_all (λ f. is_first core_of f ≡ true → (f < n) × (is_first core_of f ≡ true)) 0 n
      (λ f lo hi t. (within f n hi, t)))
    where
      within : (f n : ℕ) → f < 0 + n → f < n
      within f n hi = omega arith

  -- The least rank of a block is the first place with its core.
  least : (n f : ℕ) → f < n → is_first core_of f ≡ true →
      (rest : List ℕ) × (places_with core_of n (core_of f) ≡ f ∷ rest)
  least n f lt first =
      first_kept (has_core core_of (core_of f)) 0 n f (omega arith) (omega arith)
      (test_same (core_of f) (core_of f) refl)
      (λ j lo hi. range_at (λ k. has_core core_of (core_of f) k ≡ false) 0 f
      (none_at core_of (core_of f) (range_with_len 0 f)
      (not_true (list_any (has_core core_of (core_of f)) (range_with_len 0 f)) first)) j lo (omega arith))
    where
      not_true : (v : Bool) → not v ≡ true → v ≡ false
      not_true true h = sym h
      not_true false h = refl

  leasts : (n : ℕ) (fs : List ℕ) → AllByRecursion (λ f. (f < n) × (is_first core_of f ≡ true)) fs →
      map (λ b. slice_index b.ranks 0) (map (block_at core_of n) fs) ≡ fs
  leasts n [] h = refl
  leasts n (f ∷ fs) ((lt, first), hs) =
      ap₂ (λ x xs. x ∷ xs) (ap (λ ranks. slice_index ranks 0) (least n f lt first).1) (leasts n fs hs)

  -- The place k stands in the blocks of the first places with its core.
  count_ranks : (n k : ℕ) (fs : List ℕ) → k < n →
      count_by (nat_eq k) (flat_map (λ b. b.ranks) (map (block_at core_of n) fs))
      ≡ count_by (λ f. has_core core_of (core_of f) k) fs
  count_ranks n k [] lt = refl
  count_ranks n k (f ∷ fs) lt =
      ap (count_by (nat_eq k)) (flat_map-cons (λ b. b.ranks) (block_at core_of n f) (map (block_at core_of n) fs))
      ∙ sum_by-append (λ x. cond (nat_eq k x) 1 0) (places_with core_of n (core_of f))
      (flat_map (λ b. b.ranks) (map (block_at core_of n) fs))
      ∙ ap₂ (λ x y. x + y) (count_kept (has_core core_of (core_of f)) n k lt) (count_ranks n k fs lt)
      ∙ sym (count-cons (λ f. has_core core_of (core_of f) k) f fs)

  -- Of places with different cores, of which one has a core, just one has it.
  count_one : (k : ℕ) (fs : List ℕ) → Apart core_of fs → list_any (has_core core_of (core_of k)) fs ≡ true →
      count_by (λ f. has_core core_of (core_of f) k) fs ≡ 1
  count_one k [] h found = absurd (cc)
  count_one k (f ∷ fs) (h, hs) found =
      count-cons (λ f. has_core core_of (core_of f) k) f fs
      ∙ settle (tells (core_of f) (core_of k)) (count_one k fs hs)
    where
      settle : Told (core_of f) (core_of k) →
          (list_any (has_core core_of (core_of k)) fs ≡ true → count_by (λ f. has_core core_of (core_of f) k) fs ≡ 1) →
          cond (has_core core_of (core_of f) k) 1 0 + count_by (λ f. has_core core_of (core_of f) k) fs ≡ 1
      settle (inl (_, same)) _ =
          ap₂ (λ v m. cond v 1 0 + m) (test_same (core_of k) (core_of f) (sym same))
          (count_zero (λ j. has_core core_of (core_of j) k) fs
          (all_weaken (λ j. core_of j ≢ core_of f) (λ j. has_core core_of (core_of j) k ≡ false) fs
          (λ j ne. differ (core_of k) (core_of j) (λ e. ne (sym e ∙ sym same))) h))
      settle (inr (t, ne)) rest =
          ap₂ (λ v m. cond v 1 0 + m) (differ (core_of k) (core_of f) (λ e. ne (sym e)))
          (rest (sym (ap (λ v. v || list_any (has_core core_of (core_of k)) fs) t) ∙ found))

  -- The blocks of the places below n.
  pub are_placed : (n : ℕ) → ArePlaced core_of n (blocks_below core_of n)
  are_placed n = record {
    once = λ k lt.
        count_ranks n k (firsts core_of n) lt
        ∙ count_one k (firsts core_of n) (firsts_apart core_of n)
        (any_firsts core_of n (core_of k)
        ∙ list_any_at (has_core core_of (core_of k)) (range_with_len 0 n) k 0
        (omega (arith, length-range_with_len 0 n))
        (test_same (core_of (get_or (range_with_len 0 n) k 0)) (core_of k)
        (ap core_of (get_or-range_with_len 0 n k 0 lt ∙ plain k))));
    own = all_map (λ b. AllByRecursion (λ k. (k < n) × (core_of k ≡ b.core)) b.ranks) (block_at core_of n)
        (firsts core_of n)
        (all_every (λ f. AllByRecursion (λ k. (k < n) × (core_of k ≡ core_of f)) (places_with core_of n (core_of f)))
        (firsts core_of n) own_places);
    ascend = all_map (λ b. IsStrictlyIncreasing b.ranks) (block_at core_of n) (firsts core_of n)
        (all_every (λ f. IsStrictlyIncreasing (places_with core_of n (core_of f))) (firsts core_of n)
        (λ f. IsStrictlyIncreasing-filter (has_core core_of (core_of f)) (range_with_len 0 n) (range_rises n)));
    filled = all_map (λ b. b.ranks ≢ []) (block_at core_of n) (firsts core_of n)
        (all_weaken (λ f. (f < n) × (is_first core_of f ≡ true)) (λ f. places_with core_of n (core_of f) ≢ [])
        (firsts core_of n) (λ f h none. let some = (least n f h.0 h.1).1 in cc) (first_facts n));
    order = subst IsStrictlyIncreasing (sym (leasts n (firsts core_of n) (first_facts n)))
        (IsStrictlyIncreasing-filter (is_first core_of) (range_with_len 0 n) (range_rises n));
  }
    where
      plain : (k : ℕ) → 0 + k ≡ k
      plain k = omega arith

      own_places : (f : ℕ) → AllByRecursion (λ k. (k < n) × (core_of k ≡ core_of f)) (places_with core_of n (core_of f))
      own_places f =
          all_filter (λ k. (k < n) × (core_of k ≡ core_of f)) (has_core core_of (core_of f)) (range_with_len 0 n)
          (range_all (λ k. has_core core_of (core_of f) k ≡ true → (k < n) × (core_of k ≡ core_of f)) 0 n
          (λ k lo hi t. (within k hi, same k t)))
        where
          within : (k : ℕ) → k < 0 + n → k < n
          within k hi = omega arith

          same : (k : ℕ) → has_core core_of (core_of f) k ≡ true → core_of k ≡ core_of f
          same k t = settle (tells (core_of k) (core_of f))
            where
              settle : Told (core_of k) (core_of f) → core_of k ≡ core_of f
              settle (inl (_, e)) = e
              settle (inr (t', _)) = absurd (let clash = sym t ∙ t' in cc)
