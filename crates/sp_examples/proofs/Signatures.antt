-- Signatures of (3,2) and (2,2) at e = 2, and the Mullineux image of (4) at e = 3.
use Rattle.std.proofs.Common.{◌≡◌, [], ◌∷◌, refl, Some, None}
use Rattle.sp_defs.specs.Signature.{Addable, Removable, signature, reduced, removables, addables, last, grow, shrink}
use Rattle.sp_defs.specs.Signature.{normal, good, cogood, least_good, path_of, path, climb, mullineux}

-- R R A: nothing goes out.
pub signature_0 : signature 2 0 (3 ∷ 2 ∷ []) ≡
    (Removable, (1, 3)) ∷ (Removable, (2, 2)) ∷ (Addable, (3, 1)) ∷ []
unfolding signature
signature_0 = refl

-- Both R are normal.
pub normal_0 : normal 2 0 (3 ∷ 2 ∷ []) ≡ (1, 3) ∷ (2, 2) ∷ []
unfolding signature reduced removables
normal_0 = refl

-- The lower of them is good.
pub good_0 : good 2 0 (3 ∷ 2 ∷ []) ≡ Some (2, 2)
unfolding signature reduced removables last
good_0 = refl

-- The A is cogood.
pub cogood_0 : cogood 2 0 (3 ∷ 2 ∷ []) ≡ Some (3, 1)
unfolding signature reduced addables
cogood_0 = refl

-- No node of (3,2) of residue 1 is good,
pub good_1 : good 2 1 (3 ∷ 2 ∷ []) ≡ None
unfolding signature reduced removables last
good_1 = refl

-- and (1,4) is cogood.
pub cogood_1 : cogood 2 1 (3 ∷ 2 ∷ []) ≡ Some (1, 4)
unfolding signature reduced addables
cogood_1 = refl

-- A R A: the upper two go out.
pub pair_out : reduced (signature 2 0 (2 ∷ 2 ∷ [])) ≡ (Addable, (3, 1)) ∷ []
unfolding signature reduced
pair_out = refl

-- The path of (4) at e = 3.
pub path_4 : path 3 (4 ∷ []) ≡ 0 ∷ 2 ∷ 1 ∷ 0 ∷ []
unfolding path_of least_good shrink signature reduced removables last
path_4 = refl

-- The Mullineux image of (4) at e = 3 is (2,2).
pub mullineux_4 : mullineux 3 (4 ∷ []) ≡ Some (2 ∷ 2 ∷ [])
unfolding path_of least_good shrink signature reduced removables last climb grow addables
mullineux_4 = refl

-- The empty partition is its own image.
pub mullineux_empty : mullineux 2 [] ≡ Some []
unfolding path_of climb
mullineux_empty = refl
