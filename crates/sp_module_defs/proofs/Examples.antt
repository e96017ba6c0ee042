-- Jantzen sums, agreement and dimensions, computed at degrees 3 to 5.
use Rattle.std.proofs.Common.{◌≡◌, [], ◌∷◌, refl, pos, negsuc, map, length, cond, nat_eq, true}
use Rattle.std.specs.List.{list_all}
use Rattle.sp_defs.specs.Partition.{partitions, partitions_within, regulars}
use Rattle.sp_defs.specs.Node.{nodes_from}
use Rattle.sp_defs.specs.Laurent.{int_sum, one, power}
use Rattle.sp_defs.specs.Power.{Entries, vector_of}
use Rattle.sp_module_defs.specs.Jantzen.{inversions, sorting_sign, descending, term, terms_of_pair, terms_of_bead}
use Rattle.sp_module_defs.specs.Jantzen.{jantzen_terms, total_at, jantzen_sum}
use Rattle.sp_module_defs.specs.Agreement.{Cells, jantzen_entries, jantzen_value, jantzen_size}
use Rattle.sp_module_defs.specs.Agreement.{agrees, agreement_weight}
use Rattle.sp_module_defs.specs.Dims.{factorial, product, specht_dim, composed_dim, dim_weight}

-- -[3] + [2,1]
pub jantzen_of_1_1_1 : jantzen_entries 3 (1 ∷ 1 ∷ 1 ∷ []) ≡
    (2 ∷ 1 ∷ [], (pos 0, pos 1) ∷ []) ∷ (3 ∷ [], (pos 0, negsuc 0) ∷ []) ∷ []
unfolding jantzen_sum jantzen_terms terms_of_bead terms_of_pair term inversions sorting_sign descending total_at
    partitions partitions_within int_sum
jantzen_of_1_1_1 = refl

-- [5] + [3,2]
pub jantzen_of_3_1_1 : jantzen_entries 2 (3 ∷ 1 ∷ 1 ∷ []) ≡ (3 ∷ 2 ∷ [], one) ∷ (5 ∷ [], one) ∷ []
unfolding jantzen_sum jantzen_terms terms_of_bead terms_of_pair term inversions sorting_sign descending total_at
    partitions partitions_within int_sum
jantzen_of_3_1_1 = refl

-- the Jantzen sums of 4
pub jantzen_of_4 : jantzen_entries 2 (4 ∷ []) ≡ []
unfolding jantzen_sum jantzen_terms terms_of_bead terms_of_pair term inversions sorting_sign descending total_at
    partitions partitions_within int_sum
jantzen_of_4 = refl

-- and of 3,1
pub jantzen_of_3_1 : jantzen_entries 2 (3 ∷ 1 ∷ []) ≡ (4 ∷ [], one) ∷ []
unfolding jantzen_sum jantzen_terms terms_of_bead terms_of_pair term inversions sorting_sign descending total_at
    partitions partitions_within int_sum
jantzen_of_3_1 = refl

-- -[4] + [3,1]
pub jantzen_of_2_2 : jantzen_entries 2 (2 ∷ 2 ∷ []) ≡
    (3 ∷ 1 ∷ [], one) ∷ (4 ∷ [], (pos 0, negsuc 0) ∷ []) ∷ []
unfolding jantzen_sum jantzen_terms terms_of_bead terms_of_pair term inversions sorting_sign descending total_at
    partitions partitions_within int_sum
jantzen_of_2_2 = refl

-- [3,1] + [2^2]
pub jantzen_of_2_1_1 : jantzen_entries 2 (2 ∷ 1 ∷ 1 ∷ []) ≡ (2 ∷ 2 ∷ [], one) ∷ (3 ∷ 1 ∷ [], one) ∷ []
unfolding jantzen_sum jantzen_terms terms_of_bead terms_of_pair term inversions sorting_sign descending total_at
    partitions partitions_within int_sum
jantzen_of_2_1_1 = refl

-- [4] - [2^2] + [2,1^2]
pub jantzen_of_1_1_1_1 : jantzen_entries 2 (1 ∷ 1 ∷ 1 ∷ 1 ∷ []) ≡
    (2 ∷ 1 ∷ 1 ∷ [], one) ∷ (2 ∷ 2 ∷ [], (pos 0, negsuc 0) ∷ []) ∷ (4 ∷ [], one) ∷ []
unfolding jantzen_sum jantzen_terms terms_of_bead terms_of_pair term inversions sorting_sign descending total_at
    partitions partitions_within int_sum
jantzen_of_1_1_1_1 = refl

-- ---- the matrix of e = 2 and n = 4

-- Columns 4 and 3,1, by their numbers of parts.
unfoldable pub matrix_4 : Cells
matrix_4 lambda mu =
    let column_4 : Entries =
    (4 ∷ [], one) ∷ (3 ∷ 1 ∷ [], power (pos 1)) ∷ (2 ∷ 1 ∷ 1 ∷ [], power (pos 1)) ∷
    (1 ∷ 1 ∷ 1 ∷ 1 ∷ [], power (pos 2)) ∷ [] in
    let column_3_1 : Entries =
    (3 ∷ 1 ∷ [], one) ∷ (2 ∷ 2 ∷ [], power (pos 1)) ∷ (2 ∷ 1 ∷ 1 ∷ [], power (pos 2)) ∷ [] in
    vector_of (cond (nat_eq (length mu) 1) column_4 column_3_1) lambda

-- Each line agrees.
pub agreement_4 : list_all (agrees 2 matrix_4) (partitions 4) ≡ true
unfolding jantzen_sum jantzen_terms terms_of_bead terms_of_pair term inversions sorting_sign descending total_at
    partitions partitions_within int_sum regulars jantzen_value matrix_4 vector_of
agreement_4 = refl

-- the weights of the comparison in degree 4
pub agreement_weights_4 : map (agreement_weight 2 matrix_4) (partitions 4) ≡ 2 ∷ 2 ∷ 2 ∷ 1 ∷ 0 ∷ []
unfolding jantzen_sum jantzen_terms terms_of_bead terms_of_pair term inversions sorting_sign descending total_at
    partitions partitions_within int_sum regulars jantzen_size matrix_4 vector_of
agreement_weights_4 = refl

-- ---- dimensions

-- the dimensions of the Specht modules
pub dims_of_specht_modules : map specht_dim (partitions 4) ≡ 1 ∷ 3 ∷ 2 ∷ 3 ∷ 1 ∷ []
unfolding specht_dim factorial product nodes_from partitions partitions_within
dims_of_specht_modules = refl

-- what the dimensions of two simple modules make of them
pub dims_4 : map (composed_dim matrix_4 ((4 ∷ [], pos 1) ∷ (3 ∷ 1 ∷ [], pos 2) ∷ [])) (partitions 4) ≡
    pos 1 ∷ pos 3 ∷ pos 2 ∷ pos 3 ∷ pos 1 ∷ []
unfolding composed_dim int_sum matrix_4 vector_of partitions partitions_within
dims_4 = refl

-- and the weight of the equation of 3,1
pub dim_weight_4 : dim_weight matrix_4 ((4 ∷ [], pos 1) ∷ (3 ∷ 1 ∷ [], pos 2) ∷ []) (3 ∷ 1 ∷ []) ≡ 4
unfolding dim_weight specht_dim factorial product nodes_from matrix_4 vector_of int_sum
dim_weight_4 = refl
