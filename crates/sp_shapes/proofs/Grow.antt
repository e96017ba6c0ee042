-- One node more at the end of a row.
use Rattle.std.proofs.Common.{◌≡◌, ◌≢◌, ℕ, zero, suc, ◌+◌, ◌-◌, ◌<◌, ◌≤◌, List, [], ◌∷◌, ◌++◌, map, length, refl, sym}
use Rattle.std.proofs.Common.{max, ◌∙◌, ap, ap₂, subst, arith, sum, slice_index, ◌⊎◌, inl, inr}
use Rattle.std.specs.List.{range_with_len}
use Rattle.std.proofs.Common.{append_assoc}
use Rattle.std.proofs.lemmas.List.Sums.{sum_by-cons}
use Rattle.sp_defs.specs.Partition.{IsPartition, from_one_to}
use Rattle.sp_defs.specs.Node.{Node, nodes_from}
use Rattle.sp_defs.specs.Signature.{grow}
use Rattle.sp_lists.proofs.Elements.{le_or_lt}
use Rattle.sp_shapes.proofs.Diagram.{IsPartition-tail, IsPartition-head}
use Rattle.sp_shapes.proofs.Listing.{IsPartition-nil, IsPartition-cons}

-- row k, counted from 0, can grow
pub record Room (xs : List ℕ) (k : ℕ) : Type 0 where
  pub there : k ≤ length xs
  pub less : 0 < k → slice_index xs k < slice_index xs (k - 1)

room-tail : (x : ℕ) (xs : List ℕ) (k : ℕ) → Room (x ∷ xs) (suc k) → Room xs k
room-tail x xs k h =
    record {
      there = omega (arith, h.there);
      less =
          λ w. subst (λ n. slice_index xs k < n) (moved k w) (h.less (omega arith));
    }
  where
    moved : (k : ℕ) → 0 < k → slice_index (x ∷ xs) (suc k - 1) ≡ slice_index xs (k - 1)
    moved k w = let e : suc k - 1 ≡ suc (k - 1) = omega arith in ap (slice_index (x ∷ xs)) e

-- the other rows stay
pub grow_other : (xs : List ℕ) (k j : ℕ) → j ≢ k → slice_index (grow k xs) j ≡ slice_index xs j
unfolding grow
grow_other [] zero zero ne = absurd (ne refl)
grow_other [] zero (suc j) ne = refl
grow_other [] (suc k) j ne = refl
grow_other (x ∷ xs) zero zero ne = absurd (ne refl)
grow_other (x ∷ xs) zero (suc j) ne = refl
grow_other (x ∷ xs) (suc k) zero ne = refl
grow_other (x ∷ xs) (suc k) (suc j) ne = grow_other xs k j (λ e. ne (ap suc e))

-- row k gains one
pub grow_same : (xs : List ℕ) (k : ℕ) → k ≤ length xs → slice_index (grow k xs) k ≡ slice_index xs k + 1
unfolding grow
grow_same [] zero h = refl
grow_same [] (suc k) h = absurd (omega arith)
grow_same (x ∷ xs) zero h = omega arith
grow_same (x ∷ xs) (suc k) h = grow_same xs k (omega arith)

-- it is a partition again
pub IsPartition-grow : (xs : List ℕ) (k : ℕ) → IsPartition xs → Room xs k → IsPartition (grow k xs)
unfolding grow
IsPartition-grow [] zero h r = IsPartition-cons 1 [] (omega arith) (omega arith) IsPartition-nil
IsPartition-grow [] (suc k) h r = h
IsPartition-grow (x ∷ xs) zero h r =
    let d : slice_index xs 0 ≤ x = h.descending 0 in
    IsPartition-cons (suc x) xs (omega arith) (omega (arith, d)) (IsPartition-tail x xs h)
IsPartition-grow (x ∷ xs) (suc k) h r =
    IsPartition-cons x (grow k xs) (IsPartition-head x xs h) (low (le_or_lt k 0))
    (IsPartition-grow xs k (IsPartition-tail x xs h) (room-tail x xs k r))
  where
    d : slice_index xs 0 ≤ x
    d = h.descending 0

    low : (k ≤ 0) ⊎ (0 < k) → slice_index (grow k xs) 0 ≤ x
    low (inl z) =
        let s : slice_index (grow k xs) 0 ≡ slice_index xs 0 + 1 =
        subst (λ n. slice_index (grow k xs) n ≡ slice_index xs n + 1) k0
        (grow_same xs k (omega (arith, r.there))) in
        let at_k : slice_index xs k < slice_index (x ∷ xs) k =
        subst (λ m. slice_index xs k < slice_index (x ∷ xs) m) (one k) (r.less (omega arith)) in
        let w : slice_index xs 0 < x = subst (λ n. slice_index xs n < slice_index (x ∷ xs) n) k0 at_k in
        omega (arith, s, w)
      where
        k0 : k ≡ 0
        k0 = omega arith

        one : (k : ℕ) → suc k - 1 ≡ k
        one k = omega arith
    low (inr w) = omega (arith, grow_other xs k 0 (λ e. omega arith), d)

-- a row within the list is not empty
pub full_rows : (xs : List ℕ) (j : ℕ) → IsPartition xs → j < length xs → 0 < slice_index xs j
full_rows xs j h lt = h.positive j 0 lt

-- the degree grows by one
pub degree-grow : (xs : List ℕ) (k : ℕ) → k ≤ length xs → sum (grow k xs) ≡ sum xs + 1
unfolding grow
degree-grow [] zero h = refl
degree-grow [] (suc k) h = absurd (omega arith)
degree-grow (x ∷ xs) zero h = omega (arith, sum_by-cons (λ n. n) (suc x) xs, sum_by-cons (λ n. n) x xs)
degree-grow (x ∷ xs) (suc k) h =
    omega (arith, sum_by-cons (λ n. n) x (grow k xs), sum_by-cons (λ n. n) x xs, degree-grow xs k (omega arith))

-- there is one row more where the row below the last grows
pub length-grow : (xs : List ℕ) (k : ℕ) → k ≤ length xs → length (grow k xs) ≡ max (length xs) (k + 1)
unfolding grow
length-grow [] zero h = refl
length-grow [] (suc k) h = absurd (omega arith)
length-grow (x ∷ xs) zero h = omega arith
length-grow (x ∷ xs) (suc k) h = omega (arith, length-grow xs k (omega arith))

-- ---- the list of nodes has one more

-- `larger` is `smaller` with x put in between
pub record OneMore (x : Node) (smaller larger : List Node) : Type 0 where
  pub front : List Node
  pub back : List Node
  pub smaller_is : smaller ≡ front ++ back
  pub larger_is : larger ≡ front ++ (x ∷ back)

row_longer : (r a p : ℕ) →
    ◌≡◌ {A = List Node} (map (λ c. (r, c)) (range_with_len a (suc p)))
    (map (λ c. (r, c)) (range_with_len a p) ++ ((r, a + p) ∷ []))
row_longer r a zero = ap (λ c. (r, c) ∷ []) (plain a)
  where
    plain : (a : ℕ) → a ≡ a + 0
    plain a = omega arith
row_longer r a (suc p) =
    ap (λ l. (r, a) ∷ l)
    (row_longer r (a + 1) p ∙ ap (λ c. map (λ c. (r, c)) (range_with_len (a + 1) p) ++ ((r, c) ∷ [])) (moved a p))
  where
    moved : (a p : ℕ) → a + 1 + p ≡ a + suc p
    moved a p = omega arith

-- the node is put in between those of the smaller diagram
pub nodes-grow : (r : ℕ) (xs : List ℕ) (k : ℕ) → k ≤ length xs →
    OneMore (r + k, slice_index xs k + 1) (nodes_from r xs) (nodes_from r (grow k xs))
unfolding grow nodes_from
nodes-grow r [] zero h =
    record { front = []; back = []; smaller_is = refl; larger_is = ap (λ n. (n, 1) ∷ []) (plain r) }
  where
    plain : (r : ℕ) → r ≡ r + 0
    plain r = omega arith
nodes-grow r [] (suc k) h = absurd (omega arith)
nodes-grow r (x ∷ xs) zero h = record {
  front = row;
  back = nodes_from (suc r) xs;
  smaller_is = refl;
  larger_is =
      ap (λ l. l ++ nodes_from (suc r) xs) (row_longer r 1 x)
      ∙ append_assoc row ((r, 1 + x) ∷ []) (nodes_from (suc r) xs)
      ∙ ap₂ (λ n c. row ++ ((n, c) ∷ nodes_from (suc r) xs)) (plain r) (turned x);
}
  where
    row : List Node
    row = map (λ c. (r, c)) (from_one_to x)

    plain : (r : ℕ) → r ≡ r + 0
    plain r = omega arith

    turned : (x : ℕ) → 1 + x ≡ x + 1
    turned x = omega arith
nodes-grow r (x ∷ xs) (suc k) h = further (nodes-grow (suc r) xs k (omega arith))
  where
    row : List Node
    row = map (λ c. (r, c)) (from_one_to x)

    moved : (r k : ℕ) → suc r + k ≡ r + suc k
    moved r k = omega arith

    further : OneMore (suc r + k, slice_index xs k + 1) (nodes_from (suc r) xs) (nodes_from (suc r) (grow k xs)) →
        OneMore (r + suc k, slice_index xs k + 1) (row ++ nodes_from (suc r) xs)
        (row ++ nodes_from (suc r) (grow k xs))
    further o = record {
      front = row ++ o.front;
      back = o.back;
      smaller_is = ap (λ l. row ++ l) o.smaller_is ∙ sym (append_assoc row o.front o.back);
      larger_is =
          ap (λ l. row ++ l) o.larger_is
          ∙ sym (append_assoc row o.front ((suc r + k, slice_index xs k + 1) ∷ o.back))
          ∙ ap (λ n. (row ++ o.front) ++ ((n, slice_index xs k + 1) ∷ o.back)) (moved r k);
    }
