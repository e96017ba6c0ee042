-- Divided powers at e = 2, and the ladder vectors of (5) and (7).
use Rattle.std.proofs.Common.{◌≡◌, ℕ, List, [], ◌∷◌, refl, pos, negsuc, map}
use Rattle.sp_defs.specs.Partition.{partitions, partitions_within}
use Rattle.sp_defs.specs.Node.{nodes_from}
use Rattle.sp_defs.specs.Laurent.{Laurent, add_term, collect, plus, products, times, int_sum, sum_over, one, power}
use Rattle.sp_defs.specs.Power.{Vector, is_move, exponent, sources, divided_power, unit}
use Rattle.sp_defs.specs.Ladder.{on_ladder, ladders, steps, chains_to, chain_exponent, chain_sum, ladder_vector}

-- The coefficients of a vector at all partitions of n, ascending. At n = 5 these are (1,1,1,1,1), (2,1,1,1), (2,2,1),
-- (3,1,1), (3,2), (4,1) and (5).
unfoldable pub listed : ℕ → Vector → List Laurent
listed n w = map w (partitions n)

-- One node of residue 0 more than (3,1): at (2,2), below the removable (1,3), or at (3,1), below that and the addable
-- (2,2).
pub induced_one : listed 5 (divided_power 2 0 1 (unit (3 ∷ 1 ∷ []))) ≡
    [] ∷ [] ∷ [] ∷ one ∷ power (negsuc 0) ∷ [] ∷ [] ∷ []
unfolding listed divided_power sources is_move exponent
    partitions partitions_within nodes_from sum_over times products plus collect add_term int_sum
induced_one = refl

-- One more than (2,2): above (3,1) an addable and a removable node cancel.
pub induced_cancelled : listed 5 (divided_power 2 0 1 (unit (2 ∷ 2 ∷ []))) ≡
    [] ∷ [] ∷ one ∷ [] ∷ one ∷ [] ∷ [] ∷ []
unfolding listed divided_power sources is_move exponent
    partitions partitions_within nodes_from sum_over times products plus collect add_term int_sum
induced_cancelled = refl

-- Two of the three addable nodes of (2,1) more.
pub induced_two : listed 5 (divided_power 2 0 2 (unit (2 ∷ 1 ∷ []))) ≡
    [] ∷ [] ∷ power (pos 2) ∷ power (pos 1) ∷ one ∷ [] ∷ [] ∷ []
unfolding listed divided_power sources is_move exponent
    partitions partitions_within nodes_from sum_over times products plus collect add_term int_sum
induced_two = refl

-- No addable node of (2,2) has residue 1.
pub induced_none : listed 5 (divided_power 2 1 1 (unit (2 ∷ 2 ∷ []))) ≡ [] ∷ [] ∷ [] ∷ [] ∷ [] ∷ [] ∷ [] ∷ []
unfolding listed divided_power sources is_move exponent
    partitions partitions_within nodes_from sum_over times products plus collect add_term int_sum
induced_none = refl

-- The ladders of (3,2) at e = 2 have one, two and two nodes.
pub steps_of : steps 2 (3 ∷ 2 ∷ []) ≡
    record { residue = 0; count = 1 } ∷ record { residue = 1; count = 2 } ∷ record { residue = 0; count = 2 } ∷ []
unfolding steps ladders on_ladder nodes_from
steps_of = refl

-- [5] + [3,2] + 2v[3,1^2] + v^2[2^2,1] + v^2[1^5]
pub ladder_vector_5 : listed 5 (ladder_vector 2 (5 ∷ [])) ≡
    power (pos 2) ∷ [] ∷ power (pos 2) ∷ ((pos 1, pos 2) ∷ []) ∷ one ∷ [] ∷ one ∷ []
unfolding listed ladder_vector chain_sum chains_to chain_exponent steps ladders on_ladder sources is_move exponent
    partitions partitions_within nodes_from sum_over plus collect add_term int_sum
ladder_vector_5 = refl

-- The ladder vector of (7) has 3v at (5,1,1).
pub ladder_vector_7 : ladder_vector 2 (7 ∷ []) (5 ∷ 1 ∷ 1 ∷ []) ≡ (pos 1, pos 3) ∷ []
unfolding ladder_vector chain_sum chains_to chain_exponent steps ladders on_ladder sources is_move exponent
    partitions partitions_within nodes_from sum_over plus collect add_term int_sum
ladder_vector_7 = refl
