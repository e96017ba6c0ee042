-- Blocks in the making, with a map that tells where the block of a core stands.
use Rattle.std.specs.Prelude.{◌≡◌, ◌↔◌, ℕ, cond, List, [], ◌∷◌, ◌++◌, Some, map, slice_get}
use Rattle.std.specs.BTreeMap.{BTreeMap, get}
use Rattle.std.specs.Ordering.{is_eq}
use Rattle.sp_defs.specs.Partition.{compare, order}
use Rattle.sp_blocks.specs.declared.block.Block.{Block}

-- The blocks with one rank more: in the block of its core, or in a new one behind the others.
abbrev pub with_rank : List ℕ → ℕ → List Block → List Block
with_rank kappa rank [] = record { core = kappa; ranks = rank ∷ [] } ∷ []
with_rank kappa rank (b ∷ bs) =
    cond (is_eq (compare b.core kappa)) (record b { ranks = b.ranks ++ rank ∷ [] } ∷ bs) (b ∷ with_rank kappa rank bs)

-- The cores of the blocks.
abbrev pub cores : List Block → List (List ℕ)
cores bs = map (λ b. b.core) bs

-- The map has the place of each block under its core, and no other core.
pub record Indexed (places : BTreeMap (List ℕ) ℕ) (bs : List Block) : Type 0 where
  pub at : (kappa : List ℕ) (i : ℕ) → (get order places kappa ≡ Some i) ↔ (slice_get (cores bs) i ≡ Some kappa)
