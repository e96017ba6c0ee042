-- The blocks of a context, and what is asked for within them. This project's own.
use Rattle.std.specs.Prelude.{◌≡◌, ℕ, ◌<◌, ◌≤◌, List, Some, length, get_or, Contains}
use Rattle.std.specs.List.{AllByRecursion}
use Rattle.sp_core.specs.declared.piece.Key.{Key}
use Rattle.sp_outcome_law.specs.Asking.{asked}
use Rattle.sp_blocks.specs.declared.block.Block.{Block}
use Rattle.sp_blocks.specs.Blocks.{core_at, places_with, blocks_of}
use Rattle.sp_llt.specs.Place.{label, labels}

-- The blocks of the e-regular partitions of a context, by their ranks.
abbrev pub blocks_at : Key → List Block
blocks_at key = blocks_of key.e (labels key)

-- The ranks of the e-regular partitions with this core, ascending.
abbrev pub ranks_with : Key → List ℕ → List ℕ
ranks_with key kappa = places_with (core_at key.e (labels key)) (length (labels key)) kappa

-- What is true of each block of a context: its ranks are all those with its core, and there are some.
pub record IsBlockOf (key : Key) (b : Block) : Type 0 where
  pub ranks : b.ranks ≡ ranks_with key b.core
  pub some : 1 ≤ length b.ranks
  pub few : length b.ranks ≤ 5604

-- Each row that is asked for on the way to a row, however far it has been reached, is in that row's block.
abbrev pub AsksStayInBlocks : Key → Type 0
AsksStayInBlocks key =
    AllByRecursion (λ b. (k t j : ℕ) → Contains b.ranks k → asked key.e key.limit (label key k) t ≡ Some j →
    Contains b.ranks j) (blocks_at key)

-- There is such a place in the list, with at least this number.
pub record IsAtLeastAt (ranks : List ℕ) (place n : ℕ) : Type 0 where
  pub within : place < length ranks
  pub least : n ≤ get_or ranks place 0
