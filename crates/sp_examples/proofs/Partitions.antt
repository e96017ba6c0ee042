-- The partitions of 5, those that are 2-regular, and nodes of (3,2) and (4).
use Rattle.std.proofs.Common.{◌≡◌, true, false, [], ◌∷◌, refl, Greater, Less}
use Rattle.sp_defs.specs.Partition.{partitions, partitions_within, regulars, conjugate, compare, order, is_regular}
use Rattle.sp_defs.specs.Node.{nodes_from, nodes, addable, removable, residue, content, hook}

-- They ascend in the lexicographic order.
pub partitions_of_5 : partitions 5 ≡
    (1 ∷ 1 ∷ 1 ∷ 1 ∷ 1 ∷ []) ∷ (2 ∷ 1 ∷ 1 ∷ 1 ∷ []) ∷ (2 ∷ 2 ∷ 1 ∷ []) ∷ (3 ∷ 1 ∷ 1 ∷ []) ∷ (3 ∷ 2 ∷ []) ∷
    (4 ∷ 1 ∷ []) ∷ (5 ∷ []) ∷ []
unfolding partitions partitions_within
partitions_of_5 = refl

-- Those that are 2-regular ascend too.
pub regulars_of_5 : regulars 2 5 ≡ (3 ∷ 2 ∷ []) ∷ (4 ∷ 1 ∷ []) ∷ (5 ∷ []) ∷ []
unfolding regulars partitions partitions_within
regulars_of_5 = refl

-- (3,2) is 2-regular,
pub regular : is_regular 2 (3 ∷ 2 ∷ []) ≡ true
regular = refl

-- and (2,2) is not.
pub not_regular : is_regular 2 (2 ∷ 2 ∷ []) ≡ false
not_regular = refl

-- (3,1) and (2,2): by the first part that differs; (3) and (1,1,1,1): by degree alone.
pub compared : compare (3 ∷ 1 ∷ []) (2 ∷ 2 ∷ []) ≡ Greater
compared = refl

-- (3) is before (1,1,1,1), since its degree is less.
pub ordered : order (3 ∷ []) (1 ∷ 1 ∷ 1 ∷ 1 ∷ []) ≡ Less
ordered = refl

-- The conjugate of (3,1) is (2,1,1).
pub conjugated : conjugate (3 ∷ 1 ∷ []) ≡ 2 ∷ 1 ∷ 1 ∷ []
conjugated = refl

-- The nodes of (3,1), row by row.
pub nodes_of : nodes (3 ∷ 1 ∷ []) ≡ (1, 1) ∷ (1, 2) ∷ (1, 3) ∷ (2, 1) ∷ []
unfolding nodes_from
nodes_of = refl

-- At e = 3 the residue rises by 1 with each column,
pub residue_right : residue 3 (1, 3) ≡ 2
residue_right = refl

-- and falls by 1 with each row.
pub residue_below : residue 3 (2, 1) ≡ 2
residue_below = refl

-- The addable nodes of (3,1), from top to bottom,
pub addable_of : addable (3 ∷ 1 ∷ []) ≡ (1, 4) ∷ (2, 2) ∷ (3, 1) ∷ []
addable_of = refl

-- and the removable ones.
pub removable_of : removable (3 ∷ 1 ∷ []) ≡ (1, 3) ∷ (2, 1) ∷ []
unfolding nodes_from
removable_of = refl

-- The content of (4) at e = 3 is 2, 1, 1.
pub content_0 : content 3 (4 ∷ []) 0 ≡ 2
unfolding nodes_from
content_0 = refl

-- One node of (4) has residue 1.
pub content_1 : content 3 (4 ∷ []) 1 ≡ 1
unfolding nodes_from
content_1 = refl

-- The hook of (3,1) at (1,1) has 4 nodes,
pub hook_corner : hook (3 ∷ 1 ∷ []) (1, 1) ≡ 4
hook_corner = refl

-- and that at the end of row 1 has one.
pub hook_end : hook (3 ∷ 1 ∷ []) (1, 3) ≡ 1
hook_end = refl
