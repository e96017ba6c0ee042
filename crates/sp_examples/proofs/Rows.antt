-- Regular rows, shares, weights and outcomes at e = 2, and a row at e = 3.
use Rattle.std.proofs.Common.{◌≡◌, [], ◌∷◌, refl, pos}
use Rattle.sp_defs.specs.Partition.{partitions, partitions_within, regulars}
use Rattle.sp_defs.specs.Node.{nodes_from}
use Rattle.sp_defs.specs.Laurent.{add_term, collect, plus, negate, products, times, lift, int_sum, sum_over, one, power}
use Rattle.sp_defs.specs.Power.{is_move, exponent, sources, entries, vector_of}
use Rattle.sp_defs.specs.Ladder.{on_ladder, ladders, steps, chains_to, chain_exponent, chain_sum, ladder_vector}
use Rattle.sp_defs.specs.Ladder.{partial_ladder_vector, ladder_weight}
use Rattle.sp_defs.specs.Row.{combination, factors, regular_row, shares_over, shares, needed_among, weight, outcome}
use Rattle.sp_defs.specs.Row.{TooLarge, Row}

-- [5] + v[3,1^2] + v^2[1^5]
pub row_5 : entries 5 (regular_row 2 (5 ∷ [])) ≡
    ((1 ∷ 1 ∷ 1 ∷ 1 ∷ 1 ∷ []), power (pos 2)) ∷ ((3 ∷ 1 ∷ 1 ∷ []), power (pos 1)) ∷ ((5 ∷ []), one) ∷ []
unfolding regular_row factors combination lift negate times products regulars
    ladder_vector chain_sum chains_to chain_exponent steps ladders on_ladder sources is_move exponent
    partitions partitions_within nodes_from sum_over plus collect add_term int_sum
row_5 = refl

-- At e = 3 the row of (4) is [4] + v[2^2].
pub row_4 : entries 4 (regular_row 3 (4 ∷ [])) ≡ ((2 ∷ 2 ∷ []), power (pos 1)) ∷ ((4 ∷ []), one) ∷ []
unfolding regular_row factors combination lift negate times products regulars
    ladder_vector chain_sum chains_to chain_exponent steps ladders on_ladder sources is_move exponent
    partitions partitions_within nodes_from sum_over plus collect add_term int_sum
row_4 = refl

-- The ladder vector of (5) is its row and that of (3,2) once.
pub shares_5 : shares 2 (5 ∷ []) ≡ ((3 ∷ 2 ∷ []), one) ∷ ((4 ∷ 1 ∷ []), []) ∷ []
unfolding shares shares_over factors combination lift negate times products regulars
    ladder_vector chain_sum chains_to chain_exponent steps ladders on_ladder sources is_move exponent
    partitions partitions_within nodes_from sum_over plus collect add_term int_sum
shares_5 = refl

-- At (3,1,1) the ladder vector has 2v and the row of (3,2) has v.
pub weight_5 : weight 2 (5 ∷ []) ≡ 3
unfolding weight ladder_weight partial_ladder_vector shares shares_over
    regular_row factors combination lift negate times products regulars
    ladder_vector chain_sum chains_to chain_exponent steps ladders on_ladder sources is_move exponent
    partitions partitions_within nodes_from sum_over plus collect add_term int_sum
weight_5 = refl

-- Under the limit 2 the row of (5) is too large,
pub too_large_5 : outcome 2 2 (5 ∷ []) ≡ TooLarge
unfolding outcome needed_among vector_of weight ladder_weight partial_ladder_vector shares shares_over
    regular_row factors combination lift negate times products regulars
    ladder_vector chain_sum chains_to chain_exponent steps ladders on_ladder sources is_move exponent
    partitions partitions_within nodes_from sum_over plus collect add_term int_sum
too_large_5 = refl

-- and under the limit 3 it is a row.
pub within_5 : outcome 2 3 (5 ∷ []) ≡ Row
unfolding outcome needed_among vector_of weight ladder_weight partial_ladder_vector shares shares_over
    regular_row factors combination lift negate times products regulars
    ladder_vector chain_sum chains_to chain_exponent steps ladders on_ladder sources is_move exponent
    partitions partitions_within nodes_from sum_over plus collect add_term int_sum
within_5 = refl

-- The row of (7) takes two shares.
pub shares_7 : shares 2 (7 ∷ []) ≡
    ((4 ∷ 2 ∷ 1 ∷ []), one) ∷ ((4 ∷ 3 ∷ []), []) ∷ ((5 ∷ 2 ∷ []), (pos 0, pos 2) ∷ []) ∷ ((6 ∷ 1 ∷ []), []) ∷ []
unfolding shares shares_over factors combination lift negate times products regulars
    ladder_vector chain_sum chains_to chain_exponent steps ladders on_ladder sources is_move exponent
    partitions partitions_within nodes_from sum_over plus collect add_term int_sum
shares_7 = refl

-- [7] + v[5,1^2] + v^2[3,1^4] + v^3[1^7]
pub row_7 : entries 7 (regular_row 2 (7 ∷ [])) ≡
    ((1 ∷ 1 ∷ 1 ∷ 1 ∷ 1 ∷ 1 ∷ 1 ∷ []), power (pos 3)) ∷ ((3 ∷ 1 ∷ 1 ∷ 1 ∷ 1 ∷ []), power (pos 2)) ∷
    ((5 ∷ 1 ∷ 1 ∷ []), power (pos 1)) ∷ ((7 ∷ []), one) ∷ []
unfolding regular_row factors combination lift negate times products regulars
    ladder_vector chain_sum chains_to chain_exponent steps ladders on_ladder sources is_move exponent
    partitions partitions_within nodes_from sum_over plus collect add_term int_sum
row_7 = refl
