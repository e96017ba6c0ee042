-- The ranks of a block: they ascend, they are all those with its core, and what is asked for on the way to one is one.
use Rattle.std.proofs.Common.{◌≡◌, ◌≢◌, ℕ, ◌+◌, ◌<◌, ◌≤◌, Bool, true, not, List, [], ◌∷◌, length, filter, Some}
use Rattle.std.proofs.Common.{slice_get, Contains, All, refl, sym, ◌∙◌, ap, ap₂, subst, arith, inl, inr}
use Rattle.std.specs.List.{AllByRecursion, range_with_len}
use Rattle.std.specs.List.Sorted.{IsStrictlyIncreasing}
use Rattle.std.specs.Ordering.{is_eq}
use Rattle.std.proofs.lemmas.List.Elements.{All-from_recursion}
use Rattle.std.proofs.lemmas.List.Filters.{length-filter_both}
use Rattle.std.proofs.lemmas.List.FromFn.{length-range_with_len, get_or-range_with_len}
use Rattle.std.proofs.lemmas.List.Kept.{IsStrictlyIncreasing-filter}
use Rattle.std.proofs.lemmas.Option.{slice_get_within, get_or_from_slice_get}
use Rattle.sp_defs.specs.Partition.{compare}
use Rattle.sp_defs.specs.Abacus.{core}
use Rattle.sp_lists.proofs.Comparing.{test_same}
use Rattle.sp_lists.proofs.Elements.{all_both, all_every, all_map, range_all}
use Rattle.sp_lists.proofs.Occurrence.{Occurs, at_occurs, occurs_filter, from_filter, occurs_range, contains, occurs}
use Rattle.sp_lists.proofs.Places.{all_weaken}
use Rattle.sp_core.specs.declared.piece.Key.{Key}
use Rattle.sp_outcome_law.specs.Asking.{asked}
use Rattle.sp_outcome_law.proofs.Asked.{asked_next}
use Rattle.sp_block_law.proofs.RowBlocks.{row_block_law}
use Rattle.sp_blocks.specs.declared.block.Block.{Block}
use Rattle.sp_blocks.specs.Blocks.{core_at, has_core, is_first}
use Rattle.sp_blocks.proofs.OneMore.{block_at}
use Rattle.sp_blocks.proofs.Placed.{are_placed}
use Rattle.sp_blocks.proofs.Same.{Told, tells}
use Rattle.sp_llt.specs.Place.{IsKey, IsPlace, place, label, labels, Progress}
use Rattle.sp_llt.proofs.Asks.{NextFacts, next_facts}
use Rattle.sp_llt.proofs.Labels.{LabelFacts, label_facts, place_of, by_degree, few_labels}
use Rattle.sp_pool.specs.Blocks.{blocks_at, ranks_with, IsBlockOf, AsksStayInBlocks}

-- What is known of a rank with a core.
pub record RankFacts (key : Key) (kappa : List ℕ) (k : ℕ) : Type 0 where
  pub within : k < length (labels key)
  pub of : core_at key.e (labels key) k ≡ kappa

module _ (key : Key) (kappa : List ℕ) where
  -- The ranks with a core ascend.
  pub ranks_rise : IsStrictlyIncreasing (ranks_with key kappa)
  ranks_rise =
      IsStrictlyIncreasing-filter (has_core (core_at key.e (labels key)) kappa)
      (range_with_len 0 (length (labels key))) (rises (length (labels key)))
    where
      rises : (n : ℕ) → IsStrictlyIncreasing (range_with_len 0 n)
      rises n k lt =
          omega (
            arith,
            length-range_with_len 0 n,
            get_or-range_with_len 0 n k 0 (omega (arith, length-range_with_len 0 n)),
            get_or-range_with_len 0 n (k + 1) 0 (omega (arith, length-range_with_len 0 n)),
          )

  -- There are no more than ranks.
  pub few_ranks : IsKey key → length (ranks_with key kappa) ≤ 5604
  few_ranks h =
      let test : ℕ → Bool = has_core (core_at key.e (labels key)) kappa in
      let all = range_with_len 0 (length (labels key)) in
      omega (
        arith,
        few_labels key h,
        length-range_with_len 0 (length (labels key)),
        length-filter_both test (λ k. not (test k)) (λ _. refl) all,
      )

  -- Each is a rank, and its partition has the core.
  pub rank_facts : (k : ℕ) → Occurs k (ranks_with key kappa) → RankFacts key kappa k
  rank_facts k o =
      let kept = from_filter (has_core (core_at key.e (labels key)) kappa) k (range_with_len 0 (length (labels key)))
      o in record {
        within = at_occurs (λ c. c < length (labels key)) k (range_with_len 0 (length (labels key))) kept.0
            (range_all (λ c. c < length (labels key)) 0 (length (labels key)) (λ c lo hi. omega arith));
        of = settle (tells (core_at key.e (labels key) k) kappa) kept.1;
      }
    where
      settle : Told (core_at key.e (labels key) k) kappa → is_eq (compare (core_at key.e (labels key) k) kappa) ≡ true →
          core_at key.e (labels key) k ≡ kappa
      settle (inl (_, e)) _ = e
      settle (inr (fails, _)) passed = absurd (let clash = sym passed ∙ fails in cc)

  -- Each rank whose partition has the core is one of them.
  pub rank_there : (k : ℕ) → RankFacts key kappa k → Occurs k (ranks_with key kappa)
  rank_there k f =
      occurs_filter (has_core (core_at key.e (labels key)) kappa) k (range_with_len 0 (length (labels key)))
      (test_same (core_at key.e (labels key) k) kappa f.of)
      (occurs_range k 0 (length (labels key)) (omega arith) (omega (arith, f.within)))

  -- What is asked for on the way to one of them is one of them, and an earlier one.
  pub asked_stays : IsKey key → (k t j : ℕ) → Occurs k (ranks_with key kappa) →
      asked key.e key.limit (label key k) t ≡ Some j → Occurs j (ranks_with key kappa) × (j < k)
  asked_stays h k t j o is = (
    rank_there j (record { within = omega (arith, next.earlier, k_facts.within); of = of }),
    next.earlier,
  )
    where
      k_facts : RankFacts key kappa k
      k_facts = rank_facts k o

      p : IsPlace (place key k)
      p = place_of key k h k_facts.within

      f : LabelFacts key k
      f = label_facts key k p

      next : NextFacts key k t j
      next = next_facts key k p t j (asked_next key.e key.limit (label key k) t j is).next

      of : core_at key.e (labels key) j ≡ kappa
      of =
          ap (core key.e) (sym (by_degree key k j f))
          ∙ sym ((row_block_law key.e (label key k) f.is_label).asks key.limit t j is).one_core
          ∙ k_facts.of

-- The rank at a place of a block is one of them.
pub at_place : (key : Key) (kappa ranks : List ℕ) (at k : ℕ) → ranks ≡ ranks_with key kappa →
    slice_get ranks at ≡ Some k → Occurs k (ranks_with key kappa)
at_place key kappa ranks at k same is =
    subst (Occurs k) same
    (occurs k ranks (at, slice_get_within ranks at k is, get_or_from_slice_get ranks at k k is))

-- What a builder of one of them asks for is one of them.
pub asked_there : (key : Key) → IsKey key → (kappa ranks : List ℕ) (k j : ℕ) (b : Progress) →
    ranks ≡ ranks_with key kappa → Occurs k (ranks_with key kappa) → b.key ≡ key → b.rank ≡ k →
    Some j ≡ asked b.key.e b.key.limit (label b.key b.rank) b.reached → Contains ranks j
asked_there key h kappa ranks k j b same o key_is rank_is asks =
    contains j ranks
    (subst (Occurs j) (sym same)
    (asked_stays key kappa h k b.reached j o
    (ap₂ (λ (of : Key) rank. asked of.e of.limit (label of rank) b.reached) (sym key_is) (sym rank_is)
    ∙ sym asks)).0)

-- What holds of the ranks with each core holds of each block of a context.
each_block : (key : Key) (P : Block → Type 0) →
    ((kappa : List ℕ) → P (record { core = kappa; ranks = ranks_with key kappa })) → AllByRecursion P (blocks_at key)
each_block key P f =
    all_map P (block_at (core_at key.e (labels key)) (length (labels key))) firsts
    (all_every (λ k. P (block_at (core_at key.e (labels key)) (length (labels key)) k)) firsts
    (λ k. f (core_at key.e (labels key) k)))
  where
    firsts : List ℕ
    firsts = filter (is_first (core_at key.e (labels key))) (range_with_len 0 (length (labels key)))

-- What the blocks of a context are.
pub blocks_known : (key : Key) → IsKey key → All (IsBlockOf key) (blocks_at key)
blocks_known key h =
    All-from_recursion (IsBlockOf key) (blocks_at key)
    (all_weaken (λ b. ((b.ranks ≡ ranks_with key b.core) × (length b.ranks ≤ 5604)) × (b.ranks ≢ [])) (IsBlockOf key)
    (blocks_at key) (λ b facts. record { ranks = facts.0.0; some = some b.ranks facts.1; few = facts.0.1 })
    (all_both (λ b. (b.ranks ≡ ranks_with key b.core) × (length b.ranks ≤ 5604)) (λ b. b.ranks ≢ []) (blocks_at key)
    (each_block key (λ b. (b.ranks ≡ ranks_with key b.core) × (length b.ranks ≤ 5604))
    (λ kappa. (refl, few_ranks key kappa h)))
    (are_placed (core_at key.e (labels key)) (length (labels key))).filled))
  where
    some : (ks : List ℕ) → ks ≢ [] → 1 ≤ length ks
    some [] ne = absurd (ne refl)
    some (k ∷ ks) ne = omega arith

-- What is asked for stays in its block.
pub asks_stay : (key : Key) → IsKey key → AsksStayInBlocks key
asks_stay key h =
    each_block key (λ b. (k t j : ℕ) → Contains b.ranks k → asked key.e key.limit (label key k) t ≡ Some j →
    Contains b.ranks j)
    (λ kappa k t j there is. contains j (ranks_with key kappa)
    (asked_stays key kappa h k t j (occurs k (ranks_with key kappa) there) is).0)
