-- The answer on the blocks of a degree.
use Rattle.std.specs.Prelude.{◌≡◌, ℕ, ◌+◌, ◌-◌, ◌/◌, ◌≤◌, Bool, List, ◌++◌, filter, flat_map, count_by, length, reverse}
use Rattle.std.specs.Prelude.{codes}
use Rattle.std.specs.List.{list_any, range_with_len}
use Rattle.std.specs.Ordering.{is_eq}
use Rattle.std.specs.Fmt.{decimal}
use Rattle.sp_defs.specs.Partition.{compare, degree, partitions, regulars}
use Rattle.sp_defs.specs.Abacus.{core}
use Rattle.sp_defs.specs.Text.{partition_text}
use Rattle.sp_blocks.specs.Blocks.{core_at, places_with}
use Rattle.sp_blocks.specs.declared.block.Block.{Block}
use Rattle.sp_replies.specs.Words.{line_of}

-- Whether a partition has this core, which says its block among the partitions of its degree.
-- (Nakayama 1940; James and Kerber, The Representation Theory of the Symmetric Group, 6.1.21)
abbrev pub is_in_block : ℕ → List ℕ → List ℕ → Bool
is_in_block e kappa p = is_eq (compare (core e p) kappa)

-- The partitions of degree at most n, ascending: by degree, then lexicographic (this project's own).
abbrev pub partitions_up_to : ℕ → List (List ℕ)
partitions_up_to n = flat_map partitions (range_with_len 0 (n + 1))

-- Whether it is the core of a partition of n.
-- (James and Kerber, The Representation Theory of the Symmetric Group, 2.7)
abbrev pub is_core_of : ℕ → ℕ → List ℕ → Bool
is_core_of e n kappa = list_any (is_in_block e kappa) (partitions n)

-- The cores of the partitions of n, ascending: by degree, then lexicographic.
-- (James and Kerber, The Representation Theory of the Symmetric Group, 2.7)
abbrev pub cores_of : ℕ → ℕ → List (List ℕ)
cores_of e n = filter (is_core_of e n) (partitions_up_to n)

-- The weight of the block with this core among the partitions of n: how many rim hooks of e nodes come off each of
-- them on the way to the core.
-- (James and Kerber, The Representation Theory of the Symmetric Group, 2.7)
abbrev pub block_weight : ℕ → ℕ → List ℕ → ℕ
block_weight e n kappa = (n - degree kappa) / e

-- A core, a weight, and how many e-regular and how many partitions there are (this project's own).
abbrev pub counts_line : List ℕ → ℕ → ℕ → ℕ → List ℕ
counts_line kappa weight regular all = line_of (
    partition_text kappa ++ codes " weight " ++ decimal weight ++ codes " regular " ++ decimal regular
    ++ codes " of " ++ decimal all)

-- A core, the weight of its block, and how many e-regular partitions and how many partitions of n have this core.
-- (this project's own)
abbrev pub block_line : ℕ → ℕ → List ℕ → List ℕ
block_line e n kappa =
    counts_line kappa (block_weight e n kappa) (count_by (is_in_block e kappa) (regulars e n))
    (count_by (is_in_block e kappa) (partitions n))

-- A line for each core of a partition of n, descending (this project's own).
abbrev pub blocks_text : ℕ → ℕ → List ℕ
blocks_text e n = flat_map (block_line e n) (reverse (cores_of e n))

-- A block of the partitions of n: a core of degree at most n, and the places of all that have it, in the list of the
-- partitions of n (this project's own).
pub record IsBlock (e n : ℕ) (b : Block) : Type 0 where
  pub small : degree b.core ≤ n
  pub places : b.ranks ≡ places_with (core_at e (partitions n)) (length (partitions n)) b.core
