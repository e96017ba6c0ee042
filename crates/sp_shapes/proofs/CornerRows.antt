-- Addable and removable nodes, and marks, row by row.
use Rattle.std.proofs.Common.{◌≡◌, ℕ, zero, suc, ◌+◌, ◌<◌, ◌≤◌, Bool, true, false, cond, List, [], ◌∷◌, ◌++◌, map}
use Rattle.std.proofs.Common.{filter, flat_map, length, slice_index, refl, sym, ◌∙◌, ap, ap₂, arith, add-one}
use Rattle.std.specs.List.{range_with_len}
use Rattle.std.proofs.lemmas.Bool.Decides.{nat_tests}
use Rattle.std.proofs.lemmas.List.Concat.{flat_map-cons}
use Rattle.std.proofs.lemmas.List.FromFn.{map-range_with_len_more}
use Rattle.sp_defs.specs.Partition.{part, from_one_to}
use Rattle.sp_defs.specs.Node.{Node, is_removable, nodes_from, nodes, removable}
use Rattle.sp_lists.proofs.Elements.{filter_append, filter_none, all_map, range_all}

cond_append : {X : Type 0} (b : Bool) (x : X) (xs : List X) → cond b (x ∷ []) [] ++ xs ≡ cond b (x ∷ xs) xs
cond_append true x xs = refl
cond_append false x xs = refl

-- ---- the last node of a row is the only one that may be removable

-- a node with a node to its right
inner_stays : (parts : List ℕ) (r c : ℕ) → 1 ≤ r → c < part parts r → is_removable parts (r, c) ≡ false
inner_stays parts r c row lt = grind (arith, nat_tests)

no_column : (parts : List ℕ) (r : ℕ) → is_removable parts (r, 0) ≡ false
no_column parts r = grind (arith, nat_tests)

row_end : (parts : List ℕ) (r n : ℕ) → 1 ≤ r → n ≡ part parts r
    → filter (is_removable parts) (map (λ c. (r, c)) (from_one_to n))
    ≡ cond (is_removable parts (r, n)) ((r, n) ∷ []) []
row_end parts r zero row is = ap (λ b. cond b ((r, 0) ∷ []) []) (sym (no_column parts r))
row_end parts r (suc n) row is =
    ap (λ m. filter (is_removable parts) (map (λ c. (r, c)) (from_one_to m))) (sym (add-one n))
    ∙ ap (filter (is_removable parts)) (map-range_with_len_more (λ c. (r, c)) 1 n (suc n) (omega arith))
    ∙ filter_append (is_removable parts) (map (λ c. (r, c)) (from_one_to n)) ((r, suc n) ∷ [])
    ∙ ap (λ xs. xs ++ filter (is_removable parts) ((r, suc n) ∷ [])) before
  where
    before : filter (is_removable parts) (map (λ c. (r, c)) (from_one_to n)) ≡ []
    before =
        filter_none (is_removable parts) _
        (all_map _ _ _ (range_all _ 1 n (λ c lo hi. inner_stays parts r c row (omega arith))))

-- The removable nodes among the last ones of n rows from row r on.
abbrev lasts_from : List ℕ → ℕ → ℕ → List Node
lasts_from parts r n = filter (is_removable parts) (map (λ r. (r, part parts r)) (range_with_len r n))

-- the rows from r on, where `rest` are their lengths
removable_from : (parts : List ℕ) (r : ℕ) (rest : List ℕ) → 1 ≤ r
    → ((k : ℕ) → k < length rest → slice_index rest k ≡ part parts (r + k))
    → filter (is_removable parts) (nodes_from r rest) ≡ lasts_from parts r (length rest)
unfolding nodes_from
removable_from parts r [] row is = refl
removable_from parts r (p ∷ rest) row is =
    filter_append (is_removable parts) (map (λ c. (r, c)) (from_one_to p)) (nodes_from (suc r) rest)
    ∙ ap₂ (λ x y. x ++ y) (row_end parts r p row here)
    (removable_from parts (suc r) rest (omega arith) (λ k lt. is (suc k) (omega arith) ∙ ap (part parts) (omega arith)))
    ∙ cond_append (is_removable parts (r, p)) (r, p) (lasts_from parts (suc r) (length rest))
    ∙ ap₂ (λ q later. cond (is_removable parts (r, q)) ((r, q) ∷ later) later)
    here (ap (λ next. lasts_from parts next (length rest)) (sym (add-one r)))
  where
    here : p ≡ part parts r
    here = is 0 (omega arith) ∙ ap (part parts) (omega arith)

-- The removable nodes are found among the last ones of the rows.
pub removable-rows : (parts : List ℕ) →
    removable parts ≡ filter (is_removable parts) (map (λ r. (r, part parts r)) (from_one_to (length parts)))
removable-rows parts = removable_from parts 1 parts (omega arith) (λ k lt. ap (slice_index parts) (omega arith))

-- ---- the nodes, row by row

nodes_rows_from : (parts : List ℕ) (r : ℕ) (rest : List ℕ)
    → ((k : ℕ) → k < length rest → slice_index rest k ≡ part parts (r + k))
    → nodes_from r rest
    ≡ flat_map (λ q. map (λ c. (q, c)) (from_one_to (part parts q))) (range_with_len r (length rest))
unfolding nodes_from
nodes_rows_from parts r [] is = refl
nodes_rows_from parts r (p ∷ rest) is =
    ap₂ (λ n xs. map (λ c. (r, c)) (from_one_to n) ++ xs) (is 0 (omega arith) ∙ ap (part parts) (omega arith))
    (nodes_rows_from parts (suc r) rest (λ k lt. is (suc k) (omega arith) ∙ ap (part parts) (omega arith)))
    ∙ ap (λ next. row r ++ flat_map row (range_with_len next (length rest))) (sym (add-one r))
    ∙ sym (flat_map-cons row r (range_with_len (r + 1) (length rest)))
  where
    row : ℕ → List Node
    row q = map (λ c. (q, c)) (from_one_to (part parts q))

-- the nodes are those of the rows, one row after the other
pub nodes-rows : (parts : List ℕ) →
    nodes parts ≡ flat_map (λ r. map (λ c. (r, c)) (from_one_to (part parts r))) (from_one_to (length parts))
nodes-rows parts = nodes_rows_from parts 1 parts (λ k lt. ap (slice_index parts) (omega arith))
