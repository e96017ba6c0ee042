-- The texts of partitions, polynomials and vectors.
use Rattle.std.proofs.Common.{◌≡◌, [], ◌∷◌, refl, pos, negsuc, codes}
use Rattle.std.specs.Fmt.{digits}
use Rattle.sp_defs.specs.Partition.{partitions, partitions_within}
use Rattle.sp_defs.specs.Node.{nodes_from}
use Rattle.sp_defs.specs.Laurent.{add_term, collect, plus, int_sum, sum_over}
use Rattle.sp_defs.specs.Power.{is_move, exponent, sources, entries}
use Rattle.sp_defs.specs.Ladder.{on_ladder, ladders, steps, chains_to, chain_exponent, chain_sum, ladder_vector}
use Rattle.sp_defs.specs.Text.{partition_text, term_text, polynomial_text, vector_text}

-- ---- partitions

-- A part that is repeated has its number behind `^`.
pub repeated_part : partition_text (3 ∷ 1 ∷ 1 ∷ []) ≡ codes "3,1^2"
unfolding partition_text digits
repeated_part = refl

-- A part may have two digits.
pub long_part : partition_text (12 ∷ 2 ∷ 2 ∷ 1 ∷ []) ≡ codes "12,2^2,1"
unfolding partition_text digits
long_part = refl

-- The empty partition is a dash.
pub empty_partition : partition_text [] ≡ codes "-"
unfolding partition_text
empty_partition = refl

-- ---- Laurent polynomials

-- A negative power, a constant and v itself.
pub three_terms : polynomial_text ((negsuc 0, pos 1) ∷ (pos 0, pos 2) ∷ (pos 1, pos 1) ∷ []) ≡ codes "v^-1+2+v"
unfolding polynomial_text term_text digits
three_terms = refl

-- A negative coefficient at the start,
pub negative_term : polynomial_text ((pos 2, negsuc 2) ∷ []) ≡ codes "-3v^2"
unfolding polynomial_text term_text digits
negative_term = refl

-- and a later one.
pub later_negative : polynomial_text ((pos 0, pos 1) ∷ (pos 1, negsuc 0) ∷ []) ≡ codes "1-v"
unfolding polynomial_text term_text digits
later_negative = refl

-- The polynomial without terms is 0.
pub no_terms : polynomial_text [] ≡ codes "0"
unfolding polynomial_text
no_terms = refl

-- ---- vectors

-- Signs stand between the entries, and a polynomial of two terms stands in brackets.
pub signed_vector : vector_text
    (((1 ∷ 1 ∷ 1 ∷ []), (pos 1, negsuc 1) ∷ []) ∷ ((2 ∷ 1 ∷ []), (pos 0, pos 1) ∷ (pos 2, pos 1) ∷ []) ∷
    ((3 ∷ []), (pos 0, negsuc 0) ∷ []) ∷ []) ≡
    codes "-[3] + (1+v^2)[2,1] - 2v[1^3]"
unfolding vector_text partition_text polynomial_text term_text digits
signed_vector = refl

-- The vector without entries is 0.
pub no_entries : vector_text [] ≡ codes "0"
unfolding vector_text
no_entries = refl

-- The ladder vector of (5) at e = 2.
pub ladder_vector_text : vector_text (entries 5 (ladder_vector 2 (5 ∷ []))) ≡
    codes "[5] + [3,2] + 2v[3,1^2] + v^2[2^2,1] + v^2[1^5]"
unfolding vector_text partition_text polynomial_text term_text digits
    ladder_vector chain_sum chains_to chain_exponent steps ladders on_ladder sources is_move exponent
    partitions partitions_within nodes_from sum_over plus collect add_term int_sum
ladder_vector_text = refl
