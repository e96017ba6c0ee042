-- Restriction, balanced integers and the commutator at e = 2, on the partition (3,1,1).
use Rattle.std.proofs.Common.{◌≡◌, ℕ, List, [], ◌∷◌, refl, pos, negsuc, map}
use Rattle.sp_defs.specs.Partition.{partitions, partitions_within}
use Rattle.sp_defs.specs.Node.{nodes_from}
use Rattle.sp_defs.specs.Laurent.{Laurent, add_term, collect, plus, negate, products, times, int_sum, sum_over, one}
use Rattle.sp_defs.specs.Laurent.{power}
use Rattle.sp_defs.specs.Power.{Vector, is_move, exponent, sources, divided_power, unit}
use Rattle.sp_sl2_law.specs.Restriction.{restriction_exponent, enlarged, restriction}
use Rattle.sp_sl2_law.specs.Balanced.{balanced_natural, balanced}
use Rattle.sp_sl2_law.specs.Commutator.{commutator}
use Rattle.sp_sl2_law.specs.Repeated.{balanced_factorial}

-- The coefficients of a vector at all partitions of n, ascending.
unfoldable listed : ℕ → Vector → List Laurent
listed n w = map w (partitions n)

-- One node of residue 0 less than (3,1,1): (3,1) and (2,1,1).
restricted : listed 4 (restriction 2 0 (unit (3 ∷ 1 ∷ 1 ∷ []))) ≡ [] ∷ one ∷ [] ∷ one ∷ [] ∷ []
unfolding listed restriction enlarged is_move restriction_exponent
    partitions partitions_within nodes_from sum_over times products plus collect add_term int_sum
restricted = refl

-- Nothing is left of a vector of degree 0.
restricted_nothing : restriction 2 0 (unit []) [] ≡ []
unfolding restriction enlarged is_move restriction_exponent
    partitions partitions_within nodes_from sum_over times products plus collect add_term int_sum
restricted_nothing = refl

-- One node of residue 1 less than (2,1): below the node (1,2) the partition (1,1) has a removable one.
restricted_row : listed 2 (restriction 2 1 (unit (2 ∷ 1 ∷ []))) ≡ power (pos 1) ∷ one ∷ []
unfolding listed restriction enlarged is_move restriction_exponent
    partitions partitions_within nodes_from sum_over times products plus collect add_term int_sum
restricted_row = refl

-- [2], [0] and [-1]
balanced_values : balanced (pos 2) ∷ balanced (pos 0) ∷ balanced (negsuc 0) ∷ [] ≡
    ((negsuc 0, pos 1) ∷ (pos 1, pos 1) ∷ []) ∷ [] ∷ ((pos 0, negsuc 0) ∷ []) ∷ []
unfolding balanced balanced_natural negate sum_over plus collect add_term
balanced_values = refl

-- The commutators of both residues with themselves, and of both with each other, at (3,1,1).
commutators : commutator 2 0 0 (unit (3 ∷ 1 ∷ 1 ∷ [])) (3 ∷ 1 ∷ 1 ∷ []) ∷
    commutator 2 1 1 (unit (3 ∷ 1 ∷ 1 ∷ [])) (3 ∷ 1 ∷ 1 ∷ []) ∷
    commutator 2 0 1 (unit (3 ∷ 1 ∷ 1 ∷ [])) (3 ∷ 1 ∷ 1 ∷ []) ∷ [] ≡
    ((pos 0, negsuc 0) ∷ []) ∷ ((negsuc 0, pos 1) ∷ (pos 1, pos 1) ∷ []) ∷ [] ∷ []
unfolding commutator restriction enlarged is_move restriction_exponent divided_power sources exponent
    partitions partitions_within nodes_from sum_over times products plus negate collect add_term int_sum
commutators = refl

-- [3]! = v^-3 + 2 v^-1 + 2 v + v^3
factorial_three : balanced_factorial 3 ≡
    (negsuc 2, pos 1) ∷ (negsuc 0, pos 2) ∷ (pos 1, pos 2) ∷ (pos 3, pos 1) ∷ []
unfolding balanced_factorial balanced_natural sum_over times products plus collect add_term
factorial_three = refl
