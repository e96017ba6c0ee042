-- Blocks of 4 at e = 3.
use Rattle.std.proofs.Common.{◌≡◌, [], ◌∷◌, map, refl}
use Rattle.std.specs.List.{range_with_len}
use Rattle.sp_defs.specs.Node.{nodes_from, content}
use Rattle.sp_defs.specs.Abacus.{core}
use Rattle.sp_block_law.specs.Blocks.{InOneBlock}

-- (4) and (2,2) have the core (1), so they are in one block.
pub one_block : InOneBlock 3 (4 ∷ []) (2 ∷ 2 ∷ [])
one_block = record { one_degree = refl; one_core = refl }

-- The core of (2,2) is that of (4).
pub core_2_2 : core 3 (2 ∷ 2 ∷ []) ≡ 1 ∷ []
core_2_2 = refl

-- (4) has two nodes of residue 0, and one of each other,
pub content_4 : map (content 3 (4 ∷ [])) (range_with_len 0 3) ≡ 2 ∷ 1 ∷ 1 ∷ []
unfolding nodes_from
content_4 = refl

-- and so has (2,2).
pub content_2_2 : map (content 3 (2 ∷ 2 ∷ [])) (range_with_len 0 3) ≡ 2 ∷ 1 ∷ 1 ∷ []
unfolding nodes_from
content_2_2 = refl

-- (3,1) is its own core,
pub core_3_1 : core 3 (3 ∷ 1 ∷ []) ≡ 3 ∷ 1 ∷ []
core_3_1 = refl

-- and its content is another.
pub content_3_1 : map (content 3 (3 ∷ 1 ∷ [])) (range_with_len 0 3) ≡ 1 ∷ 1 ∷ 2 ∷ []
unfolding nodes_from
content_3_1 = refl
