-- The row of (5) at e = 2, whose one share is that of (3,2), at rank 0; and the row of (7), with two shares.
use Rattle.std.proofs.Common.{◌≡◌, [], ◌∷◌, refl, pos, true, false, Some, None}
use Rattle.sp_defs.specs.Partition.{partitions, partitions_within, regulars}
use Rattle.sp_defs.specs.Node.{nodes_from}
use Rattle.sp_defs.specs.Laurent.{add_term, collect, plus, negate, products, times, lift, int_sum, sum_over}
use Rattle.sp_defs.specs.Power.{is_move, exponent, sources, vector_of}
use Rattle.sp_defs.specs.Ladder.{on_ladder, ladders, steps, chains_to, chain_exponent, chain_sum, ladder_vector}
use Rattle.sp_defs.specs.Ladder.{partial_ladder_vector, ladder_weight}
use Rattle.sp_defs.specs.Row.{combination, factors, regular_row, shares_over, shares, needed_among, weight, outcome}
use Rattle.sp_outcome_law.specs.Asking.{share_at, given, next_rank, left, total, given_past, total_past, share_past}
use Rattle.sp_outcome_law.specs.Asking.{is_past, asked}

-- with limit 3 the row of (3,2) is asked for, and then none
pub asked_5 : asked 2 3 (5 ∷ []) 2 ≡ Some 0
unfolding asked is_past share_past total_past given_past total left given share_at next_rank
    outcome needed_among vector_of weight ladder_weight partial_ladder_vector shares shares_over
    regular_row factors combination lift negate times products regulars
    ladder_vector chain_sum chains_to chain_exponent steps ladders on_ladder sources is_move exponent
    partitions partitions_within nodes_from sum_over plus collect add_term int_sum
asked_5 = refl

-- no rank is asked for
pub asked_after_5 : asked 2 3 (5 ∷ []) 0 ≡ None
unfolding asked is_past share_past total_past given_past total left given share_at next_rank
    outcome needed_among vector_of weight ladder_weight partial_ladder_vector shares shares_over
    regular_row factors combination lift negate times products regulars
    ladder_vector chain_sum chains_to chain_exponent steps ladders on_ladder sources is_move exponent
    partitions partitions_within nodes_from sum_over plus collect add_term int_sum
asked_after_5 = refl

-- (3,1,1) gets 2v from the ladder vector and v from the row of (3,2)
pub total_5 : total 2 (5 ∷ []) 0 (3 ∷ 1 ∷ 1 ∷ []) ≡ 3
unfolding total left given share_at next_rank
    shares shares_over regular_row factors combination lift negate times products regulars
    ladder_vector chain_sum chains_to chain_exponent steps ladders on_ladder sources is_move exponent
    partitions partitions_within nodes_from sum_over plus collect add_term int_sum
total_5 = refl

-- so the limit 2 is passed after that row, and not before
pub within_2 : is_past 2 2 (5 ∷ []) 2 ≡ false
unfolding asked is_past share_past total_past given_past total left given share_at next_rank
    outcome needed_among vector_of weight ladder_weight partial_ladder_vector shares shares_over
    regular_row factors combination lift negate times products regulars
    ladder_vector chain_sum chains_to chain_exponent steps ladders on_ladder sources is_move exponent
    partitions partitions_within nodes_from sum_over plus collect add_term int_sum
within_2 = refl

-- past the limit 2
pub past_2 : is_past 2 2 (5 ∷ []) 0 ≡ true
unfolding asked is_past share_past total_past given_past total left given share_at next_rank
    outcome needed_among vector_of weight ladder_weight partial_ladder_vector shares shares_over
    regular_row factors combination lift negate times products regulars
    ladder_vector chain_sum chains_to chain_exponent steps ladders on_ladder sources is_move exponent
    partitions partitions_within nodes_from sum_over plus collect add_term int_sum
past_2 = refl

-- what is left of (5) at (3,2) is 0 then
pub left_5 : left 2 (5 ∷ []) 0 (3 ∷ 2 ∷ []) ≡ []
unfolding total left given share_at next_rank
    shares shares_over regular_row factors combination lift negate times products regulars
    ladder_vector chain_sum chains_to chain_exponent steps ladders on_ladder sources is_move exponent
    partitions partitions_within nodes_from sum_over plus collect add_term int_sum
left_5 = refl

-- (7) has rank 4; its shares are those at the ranks 2, of (5,2), and 0, of (4,2,1)
pub next_7 : next_rank 2 (7 ∷ []) 4 ≡ Some 2
unfolding share_at next_rank
    shares shares_over factors combination lift negate times products regulars
    ladder_vector chain_sum chains_to chain_exponent steps ladders on_ladder sources is_move exponent
    partitions partitions_within nodes_from sum_over plus collect add_term int_sum
next_7 = refl

-- the next rank
pub next_after_7 : next_rank 2 (7 ∷ []) 2 ≡ Some 0
unfolding share_at next_rank
    shares shares_over factors combination lift negate times products regulars
    ladder_vector chain_sum chains_to chain_exponent steps ladders on_ladder sources is_move exponent
    partitions partitions_within nodes_from sum_over plus collect add_term int_sum
next_after_7 = refl

-- what has been given
pub given_7 : given 2 (7 ∷ []) 1 ≡ ((5 ∷ 2 ∷ []), (pos 0, pos 2) ∷ []) ∷ []
unfolding given shares shares_over factors combination lift negate times products regulars
    ladder_vector chain_sum chains_to chain_exponent steps ladders on_ladder sources is_move exponent
    partitions partitions_within nodes_from sum_over plus collect add_term int_sum
given_7 = refl

-- the limit 5 is passed once both are given, the limit 6 is not
pub past_7 : is_past 2 5 (7 ∷ []) 0 ≡ true
unfolding asked is_past share_past total_past given_past total left given share_at next_rank
    outcome needed_among vector_of weight ladder_weight partial_ladder_vector shares shares_over
    regular_row factors combination lift negate times products regulars
    ladder_vector chain_sum chains_to chain_exponent steps ladders on_ladder sources is_move exponent
    partitions partitions_within nodes_from sum_over plus collect add_term int_sum
past_7 = refl

-- within the limit 6
pub within_7 : is_past 2 6 (7 ∷ []) 0 ≡ false
unfolding asked is_past share_past total_past given_past total left given share_at next_rank
    outcome needed_among vector_of weight ladder_weight partial_ladder_vector shares shares_over
    regular_row factors combination lift negate times products regulars
    ladder_vector chain_sum chains_to chain_exponent steps ladders on_ladder sources is_move exponent
    partitions partitions_within nodes_from sum_over plus collect add_term int_sum
within_7 = refl
