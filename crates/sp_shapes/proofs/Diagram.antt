-- The nodes of a diagram: a fact of each node, by rows or by the list; membership; the part of the list that a smaller
-- diagram has; equal rows make equal partitions; and the number of nodes.
-- Rows in lists are counted from 0 (`slice_index parts k`), rows of nodes from 1 (`part parts r`).
use Rattle.std.proofs.Common.{◌≡◌, ℕ, zero, suc, ◌+◌, ◌-◌, ◌<◌, ◌≤◌, min, Bool, true, false, cond, ◌&&◌, List, [], ◌∷◌}
use Rattle.std.proofs.Common.{◌++◌, map, filter, length, refl, sym, ◌∙◌, ap, ap₂, subst, arith, sum, nat_le}
use Rattle.std.proofs.Common.{slice_index, le-leb, leb-true, leb-false}
use Rattle.std.specs.List.{AllByRecursion, range_with_len}
use Rattle.std.proofs.lemmas.List.Sums.{sum_by-cons}
use Rattle.std.proofs.Common.{length-append}
use Rattle.sp_defs.specs.Partition.{part, IsPartition, from_one_to}
use Rattle.sp_defs.specs.Node.{Node, in_diagram, nodes_from, nodes}
use Rattle.sp_lists.proofs.Elements.{filter_append, and_split, and_join, all_append, all_left, all_right, all_map}
use Rattle.sp_lists.proofs.Elements.{map_all, range_all, range_at}

-- ---- a partition's tail, and its parts by recursion

-- without its first part it is a partition
pub IsPartition-tail : (p : ℕ) (parts : List ℕ) → IsPartition (p ∷ parts) → IsPartition parts
IsPartition-tail p parts h = record {
  descending = λ k. subst (λ n. slice_index (p ∷ parts) n ≤ slice_index parts k) (moved k) (h.descending (suc k));
  positive = λ k d lt. h.positive (suc k) d (omega arith);
}
  where
    moved : (k : ℕ) → suc k + 1 ≡ suc (k + 1)
    moved k = omega arith

-- the first part is not 0
pub IsPartition-head : (p : ℕ) (parts : List ℕ) → IsPartition (p ∷ parts) → 0 < p
IsPartition-head p parts h = h.positive 0 0 (omega arith)

-- ---- a fact of each node

-- of the first n places of a row, and back
row_all : (P : Node → Type 0) (r n : ℕ) → ((c : ℕ) → 1 ≤ c → c ≤ n → P (r, c)) →
    AllByRecursion P (map (λ c. (r, c)) (from_one_to n))
row_all P r n f =
    all_map P (λ c. (r, c)) (from_one_to n) (range_all (λ c. P (r, c)) 1 n (λ c lo hi. f c lo (omega arith)))

row_at : (P : Node → Type 0) (r n : ℕ) → AllByRecursion P (map (λ c. (r, c)) (from_one_to n)) → (c : ℕ) → 1 ≤ c →
    c ≤ n → P (r, c)
row_at P r n h c lo hi = range_at (λ c. P (r, c)) 1 n (map_all P (λ c. (r, c)) (from_one_to n) h) c lo (omega arith)

-- of the rows from r on, and back
pub nodes_all : (P : Node → Type 0) (r : ℕ) (parts : List ℕ) →
    ((k c : ℕ) → 1 ≤ c → c ≤ slice_index parts k → P (r + k, c)) → AllByRecursion P (nodes_from r parts)
unfolding nodes_from
nodes_all P r [] f = tt
nodes_all P r (p ∷ parts) f =
    all_append P (map (λ c. (r, c)) (from_one_to p)) (nodes_from (suc r) parts)
    (row_all P r p (λ c lo hi. subst (λ n. P (n, c)) (plus_zero r) (f 0 c lo hi)))
    (nodes_all P (suc r) parts (λ k c lo hi. subst (λ n. P (n, c)) (moved r k) (f (suc k) c lo hi)))
  where
    plus_zero : (r : ℕ) → r + 0 ≡ r
    plus_zero r = omega arith

    moved : (r k : ℕ) → r + suc k ≡ suc r + k
    moved r k = omega arith

-- what holds of all nodes of the rows from r on holds of each
pub nodes_at : (P : Node → Type 0) (r : ℕ) (parts : List ℕ) → AllByRecursion P (nodes_from r parts) → (k c : ℕ) →
    1 ≤ c → c ≤ slice_index parts k → P (r + k, c)
unfolding nodes_from
nodes_at P r [] h k c lo hi = absurd (omega arith)
nodes_at P r (p ∷ parts) h zero c lo hi = subst (λ n. P (n, c)) (sym (plus_zero r))
    (row_at P r p (all_left P (map (λ c. (r, c)) (from_one_to p)) (nodes_from (suc r) parts) h) c lo hi)
  where
    plus_zero : (r : ℕ) → r + 0 ≡ r
    plus_zero r = omega arith
nodes_at P r (p ∷ parts) h (suc k) c lo hi = subst (λ n. P (n, c)) (moved r k)
    (nodes_at P (suc r) parts (all_right P (map (λ c. (r, c)) (from_one_to p)) (nodes_from (suc r) parts) h) k c lo hi)
  where
    moved : (r k : ℕ) → suc r + k ≡ r + suc k
    moved r k = omega arith

-- ---- membership: the test, as inequalities

-- a place within its row is in the diagram
pub in_node : (parts : List ℕ) (r c : ℕ) → 1 ≤ r → 1 ≤ c → c ≤ part parts r → in_diagram parts (r, c) ≡ true
in_node parts r c hr hc h = and_join (nat_le 1 r) (nat_le 1 c && nat_le c (part parts r)) (le-leb 1 r hr)
    (and_join (nat_le 1 c) (nat_le c (part parts r)) (le-leb 1 c hc) (le-leb c (part parts r) h))

-- what it says of a place that it is in the diagram
pub record Inside (parts : List ℕ) (r c : ℕ) : Type 0 where
  pub row : 1 ≤ r
  pub column : 1 ≤ c
  pub within : c ≤ part parts r

-- a place in the diagram is within its row
pub node_in : (parts : List ℕ) (r c : ℕ) → in_diagram parts (r, c) ≡ true → Inside parts r c
node_in parts r c h =
    let p = and_split (nat_le 1 r) (nat_le 1 c && nat_le c (part parts r)) h in
    let q = and_split (nat_le 1 c) (nat_le c (part parts r)) p.1 in
    record { row = leb-true 1 r p.0; column = leb-true 1 c q.0; within = leb-true c (part parts r) q.1 }

-- a place outside of the diagram is past the end of its row
pub node_out : (parts : List ℕ) (r c : ℕ) → 1 ≤ r → 1 ≤ c → in_diagram parts (r, c) ≡ false → part parts r < c
node_out parts r c hr hc h =
    leb-false c (part parts r)
    (sym (ap₂ (λ a b. a && (b && nat_le c (part parts r))) (le-leb 1 r hr) (le-leb 1 c hc)) ∙ h)

-- a fact of each node in the list, as one of each row and column of the diagram, and back
pub at_node : (P : Node → Type 0) (parts : List ℕ) → AllByRecursion P (nodes parts) → (r c : ℕ) → 1 ≤ r → 1 ≤ c →
    c ≤ part parts r → P (r, c)
at_node P parts h r c hr hc w = subst (λ n. P (n, c)) (back r hr) (nodes_at P 1 parts h (r - 1) c hc w)
  where
    back : (r : ℕ) → 1 ≤ r → 1 + (r - 1) ≡ r
    back r h = omega arith

-- what holds of each row and column of the diagram holds of all nodes
pub all_nodes : (P : Node → Type 0) (parts : List ℕ) → ((r c : ℕ) → 1 ≤ r → 1 ≤ c → c ≤ part parts r → P (r, c)) →
    AllByRecursion P (nodes parts)
all_nodes P parts f =
    nodes_all P 1 parts (λ k c lo hi. f (1 + k) c (omega arith) lo (subst (λ n. c ≤ slice_index parts n) (back k) hi))
  where
    back : (k : ℕ) → k ≡ 1 + k - 1
    back k = omega arith

-- ---- a smaller diagram's nodes in the list of a larger one

-- n places of row r, from column a on
abbrev places : ℕ → ℕ → ℕ → List Node
places r a n = map (λ c. (r, c)) (range_with_len a n)

-- a test that passes the columns up to q
filter_row : (t : Node → Bool) (r q a n : ℕ) → 1 ≤ a → ((c : ℕ) → a ≤ c → c < a + n → t (r, c) ≡ nat_le c q) →
    filter t (places r a n) ≡ places r a (min n (q + 1 - a))
filter_row t r q a zero ha f = ap (places r a) (none q a)
  where
    none : (q a : ℕ) → 0 ≡ min 0 (q + 1 - a)
    none q a = omega arith
filter_row t r q a (suc n) ha f =
    ap (λ b. cond b ((r, a) ∷ filter t (places r (a + 1) n)) (filter t (places r (a + 1) n)))
    (f a (omega arith) (omega arith))
    ∙ tested (nat_le a q) refl (filter_row t r q (a + 1) n (omega arith) (λ c lo hi. f c (omega arith) (omega arith)))
  where
    one_more : (q a n : ℕ) → a ≤ q → suc (min n (q + 1 - (a + 1))) ≡ min (suc n) (q + 1 - a)
    one_more q a n h = omega arith

    no_more : (q a n : ℕ) → q < a → min n (q + 1 - (a + 1)) ≡ 0
    no_more q a n h = omega arith

    no_more' : (q a n : ℕ) → q < a → 0 ≡ min (suc n) (q + 1 - a)
    no_more' q a n h = omega arith

    tested : (b : Bool) → nat_le a q ≡ b →
        filter t (places r (a + 1) n) ≡ places r (a + 1) (min n (q + 1 - (a + 1))) →
        cond b ((r, a) ∷ filter t (places r (a + 1) n)) (filter t (places r (a + 1) n))
        ≡ places r a (min (suc n) (q + 1 - a))
    tested true e ih = ap (λ w. (r, a) ∷ w) ih ∙ ap (places r a) (one_more q a n (leb-true a q e))
    tested false e ih =
        let gt : q < a = leb-false a q e in
        ih ∙ ap (places r (a + 1)) (no_more q a n gt) ∙ ap (places r a) (no_more' q a n gt)

-- a test that passes the nodes of the smaller diagram gives their list
pub keep_filter : (t : Node → Bool) (r : ℕ) (inner outer : List ℕ) →
    ((k c : ℕ) → 1 ≤ c → c ≤ slice_index outer k → t (r + k, c) ≡ nat_le c (slice_index inner k)) →
    ((k : ℕ) → slice_index inner k ≤ slice_index outer k) → IsPartition inner →
    filter t (nodes_from r outer) ≡ nodes_from r inner
unfolding nodes_from
keep_filter t r [] [] f h pi = refl
keep_filter t r (q ∷ inner) [] f h pi = let z : q ≤ 0 = h 0 in absurd (omega (arith, IsPartition-head q inner pi))
keep_filter t r [] (p ∷ outer) f h pi =
    filter_append t (places r 1 p) (nodes_from (suc r) outer)
    ∙ ap₂ (λ x y. x ++ y) first_row (keep_filter t (suc r) [] outer next_rows (λ k. h (suc k)) pi)
  where
    plus_zero : (r : ℕ) → r + 0 ≡ r
    plus_zero r = omega arith

    moved : (r k : ℕ) → r + suc k ≡ suc r + k
    moved r k = omega arith

    empty : (p : ℕ) → min p (0 + 1 - 1) ≡ 0
    empty p = omega arith

    first_row : filter t (places r 1 p) ≡ []
    first_row =
        filter_row t r 0 1 p (omega arith)
        (λ c lo hi. subst (λ n. t (n, c) ≡ nat_le c 0) (plus_zero r) (f 0 c lo (omega arith)))
        ∙ ap (places r 1) (empty p)

    next_rows : (k c : ℕ) → 1 ≤ c → c ≤ slice_index outer k → t (suc r + k, c) ≡ nat_le c 0
    next_rows k c lo hi = subst (λ n. t (n, c) ≡ nat_le c 0) (moved r k) (f (suc k) c lo hi)
keep_filter t r (q ∷ inner) (p ∷ outer) f h pi =
    filter_append t (places r 1 p) (nodes_from (suc r) outer)
    ∙ ap₂ (λ x y. x ++ y) first_row
    (keep_filter t (suc r) inner outer next_rows (λ k. h (suc k)) (IsPartition-tail q inner pi))
  where
    plus_zero : (r : ℕ) → r + 0 ≡ r
    plus_zero r = omega arith

    moved : (r k : ℕ) → r + suc k ≡ suc r + k
    moved r k = omega arith

    least : (q p : ℕ) → q ≤ p → min p (q + 1 - 1) ≡ q
    least q p h = omega arith

    first_row : filter t (places r 1 p) ≡ places r 1 q
    first_row =
        filter_row t r q 1 p (omega arith)
        (λ c lo hi. subst (λ n. t (n, c) ≡ nat_le c q) (plus_zero r) (f 0 c lo (omega arith)))
        ∙ ap (places r 1) (least q p (h 0))

    next_rows : (k c : ℕ) → 1 ≤ c → c ≤ slice_index outer k → t (suc r + k, c) ≡ nat_le c (slice_index inner k)
    next_rows k c lo hi = subst (λ n. t (n, c) ≡ nat_le c (slice_index inner k)) (moved r k) (f (suc k) c lo hi)

-- ---- equal rows, and the number of nodes

-- two partitions with the same rows are one list
pub same_rows : (xs ys : List ℕ) → IsPartition xs → IsPartition ys → ((k : ℕ) → slice_index xs k ≡ slice_index ys k) →
    xs ≡ ys
same_rows [] [] px py e = refl
same_rows [] (y ∷ ys) px py e = absurd (let z : 0 ≡ y = e 0 in omega (arith, IsPartition-head y ys py))
same_rows (x ∷ xs) [] px py e = absurd (let z : x ≡ 0 = e 0 in omega (arith, IsPartition-head x xs px))
same_rows (x ∷ xs) (y ∷ ys) px py e =
    ap₂ (λ a b. a ∷ b) (e 0) (same_rows xs ys (IsPartition-tail x xs px) (IsPartition-tail y ys py) (λ k. e (suc k)))

-- the degree is the number of nodes
pub degree-nodes : (r : ℕ) (parts : List ℕ) → length (nodes_from r parts) ≡ sum parts
unfolding nodes_from
degree-nodes r [] = refl
degree-nodes r (p ∷ parts) =
    length-append (map (λ c. (r, c)) (from_one_to p)) (nodes_from (suc r) parts)
    ∙ ap₂ (λ x y. x + y) (row_length r 1 p) (degree-nodes (suc r) parts)
    ∙ sym (sum_by-cons (λ x. x) p parts)
  where
    row_length : (r a p : ℕ) → length {A = Node} (map (λ c. (r, c)) (range_with_len a p)) ≡ p
    row_length r a zero = refl
    row_length r a (suc p) = ap suc (row_length r (a + 1) p)
