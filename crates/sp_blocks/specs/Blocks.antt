-- The blocks of a list of partitions.
use Rattle.std.specs.Prelude.{◌≡◌, ◌≢◌, ℕ, ◌<◌, Bool, not, nat_eq, List, [], map, filter, flat_map, count_by, length}
use Rattle.std.specs.Prelude.{slice_index, slice_index_or}
use Rattle.std.specs.List.{AllByRecursion, list_any, range_with_len}
use Rattle.std.specs.List.Sorted.{IsStrictlyIncreasing}
use Rattle.std.specs.Ordering.{is_eq}
use Rattle.sp_defs.specs.Partition.{compare}
use Rattle.sp_defs.specs.Abacus.{core}
use Rattle.sp_blocks.specs.declared.block.Block.{Block}

-- The core of the partition at this place of the list (this project's own).
abbrev pub core_at : ℕ → List (List ℕ) → ℕ → List ℕ
core_at e list k = core e (slice_index_or list k [])

-- Which places have this core, where the function tells the core at each place (this project's own).
abbrev pub has_core : (ℕ → List ℕ) → List ℕ → ℕ → Bool
has_core core_of kappa k = is_eq (compare (core_of k) kappa)

-- The places below n with this core, ascending (this project's own).
abbrev pub places_with : (ℕ → List ℕ) → ℕ → List ℕ → List ℕ
places_with core_of n kappa = filter (has_core core_of kappa) (range_with_len 0 n)

-- No earlier place has this one's core (this project's own).
abbrev pub is_first : (ℕ → List ℕ) → ℕ → Bool
is_first core_of k = not (list_any (has_core core_of (core_of k)) (range_with_len 0 k))

-- A block for each place below n whose core no earlier place has: that core, and all places with it.
-- (this project's own)
abbrev pub blocks_below : (ℕ → List ℕ) → ℕ → List Block
blocks_below core_of n =
    map (λ k. record { core = core_of k; ranks = places_with core_of n (core_of k) })
    (filter (is_first core_of) (range_with_len 0 n))

-- The blocks of a list, in the order of their least ranks: one for each core of a partition of the list, with the
-- places of the partitions that have it (this project's own).
abbrev pub blocks_of : ℕ → List (List ℕ) → List Block
blocks_of e list = blocks_below (core_at e list) (length list)

-- Each place below n stands in exactly one block, that of its core, and there once. Ranks ascend, no block is empty,
-- and the blocks stand in the order of their least ranks (this project's own).
pub record ArePlaced (core_of : ℕ → List ℕ) (n : ℕ) (bs : List Block) : Type 0 where
  pub once : (k : ℕ) → k < n → count_by (nat_eq k) (flat_map (λ b. b.ranks) bs) ≡ 1
  pub own : AllByRecursion (λ b. AllByRecursion (λ k. (k < n) × (core_of k ≡ b.core)) b.ranks) bs
  pub ascend : AllByRecursion (λ b. IsStrictlyIncreasing b.ranks) bs
  pub filled : AllByRecursion (λ b. b.ranks ≢ []) bs
  pub order : IsStrictlyIncreasing (map (λ b. slice_index b.ranks 0) bs)
