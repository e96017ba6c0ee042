-- How many partitions a block has, and how many of them are e-regular.
use Rattle.std.proofs.Common.{◌≡◌, ℕ, ◌<◌, Bool, true, ◌&&◌, List, [], map, length, count_by, get_or}
use Rattle.std.proofs.Common.{refl, sym, ◌∙◌, ap, ap₂, subst, arith}
use Rattle.std.specs.List.{AllByRecursion, list_any, range_with_len}
use Rattle.std.proofs.Math.Bool.{and_comm}
use Rattle.std.proofs.lemmas.List.FromFn.{fill_by_all}
use Rattle.std.proofs.lemmas.List.Sums.{length-filter}
use Rattle.sp_defs.specs.Partition.{is_regular, partitions, regulars}
use Rattle.sp_lists.proofs.Counts.{count-alike, count-filter, count-map}
use Rattle.sp_lists.proofs.Elements.{all_every, all_filter, range_all}
use Rattle.sp_lists.proofs.Maps.{any-map}
use Rattle.sp_blocks.specs.Blocks.{core_at, has_core, places_with}
use Rattle.sp_blocks.specs.declared.block.Block.{Block}
use Rattle.sp_replies.specs.Blocks.{IsBlock, block_line, block_weight, counts_line, is_in_block}

-- ---- the elements of a list, by their places

module _ {X : Type 0} (xs : List X) (d : X) where
  by_places : map (λ k. get_or xs k d) (range_with_len 0 (length xs)) ≡ xs
  by_places = sym (fill_by_all (λ k. get_or xs k d) xs (length xs) d refl (λ k lt. refl))

  -- some place passes where some element does
  pub any_place : (t : X → Bool) →
      list_any (λ k. t (get_or xs k d)) (range_with_len 0 (length xs)) ≡ list_any t xs
  any_place t =
      sym (any-map t (λ k. get_or xs k d) (range_with_len 0 (length xs))) ∙ ap (list_any t) by_places

  -- as many places pass as elements
  pub count_places : (t : X → Bool) →
      count_by (λ k. t (get_or xs k d)) (range_with_len 0 (length xs)) ≡ count_by t xs
  count_places t =
      sym (count-map t (λ k. get_or xs k d) (range_with_len 0 (length xs))) ∙ ap (count_by t) by_places

-- ---- the places of a block

module _ (e n : ℕ) (kappa : List ℕ) where
  abbrev places : List ℕ
  places = places_with (core_at e (partitions n)) (length (partitions n)) kappa

  -- they are places of the list
  places_within : AllByRecursion (λ k. k < length (partitions n)) places
  places_within =
      all_filter (λ k. k < length (partitions n)) (has_core (core_at e (partitions n)) kappa)
      (range_with_len 0 (length (partitions n)))
      (range_all (λ k. has_core (core_at e (partitions n)) kappa k ≡ true → k < length (partitions n)) 0
      (length (partitions n)) (λ k lo hi t. omega (arith, hi)))

  -- as many as partitions with the core
  all_counted : length places ≡ count_by (is_in_block e kappa) (partitions n)
  all_counted =
      length-filter (has_core (core_at e (partitions n)) kappa) (range_with_len 0 (length (partitions n)))
      ∙ count_places (partitions n) [] (is_in_block e kappa)

  -- and those of e-regular ones as many as e-regular partitions with the core
  regular_counted :
      count_by (λ k. is_regular e (get_or (partitions n) k [])) places
      ≡ count_by (is_in_block e kappa) (regulars e n)
  unfolding regulars
  regular_counted =
      count-filter (λ k. is_regular e (get_or (partitions n) k [])) (has_core (core_at e (partitions n)) kappa)
      (range_with_len 0 (length (partitions n)))
      ∙ count_places (partitions n) [] (λ p. is_in_block e kappa p && is_regular e p)
      ∙ count-alike (λ p. is_in_block e kappa p && is_regular e p) (λ p. is_regular e p && is_in_block e kappa p)
      (partitions n)
      (all_every (λ p. (is_in_block e kappa p && is_regular e p) ≡ (is_regular e p && is_in_block e kappa p))
      (partitions n) (λ p. and_comm (is_in_block e kappa p) (is_regular e p)))
      ∙ sym (count-filter (is_in_block e kappa) (is_regular e) (partitions n))

-- The places of a block are places of the list.
pub listed_within : (e n : ℕ) (b : Block) (list : List (List ℕ)) (ranks : List ℕ) → IsBlock e n b →
    list ≡ partitions n → ranks ≡ b.ranks → AllByRecursion (λ k. k < length list) ranks
listed_within e n b list ranks h list_is ranks_is =
    subst (λ ps. AllByRecursion (λ k. k < length ps) ranks) (sym list_is)
    (subst (AllByRecursion (λ k. k < length (partitions n))) (sym (ranks_is ∙ h.places)) (places_within e n b.core))

-- The line of a block, as the code counts.
pub line_is : (e n : ℕ) (b : Block) (list : List (List ℕ)) (ranks : List ℕ) (weight regular all : ℕ) → IsBlock e n b →
    list ≡ partitions n → ranks ≡ b.ranks → weight ≡ block_weight e n b.core →
    regular ≡ count_by (λ k. is_regular e (get_or list k [])) ranks → all ≡ length ranks →
    counts_line b.core weight regular all ≡ block_line e n b.core
line_is e n b list ranks weight regular all h list_is ranks_is weight_is regular_is all_is =
    ap (λ w. counts_line b.core w regular all) weight_is
    ∙ ap₂ (λ r a. counts_line b.core (block_weight e n b.core) r a)
    (regular_is
    ∙ ap₂ (λ ps ks. count_by (λ k. is_regular e (get_or ps k [])) ks) list_is (ranks_is ∙ h.places)
    ∙ regular_counted e n b.core)
    (all_is ∙ ap length (ranks_is ∙ h.places) ∙ all_counted e n b.core)
