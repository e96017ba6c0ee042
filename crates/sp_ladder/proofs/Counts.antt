-- Counting the nodes of a partition by their ladders, row by row and column by column.
use Rattle.std.proofs.Common.{◌≡◌, ◌≢◌, ℕ, zero, suc, ◌+◌, ◌-◌, ◌*◌, ◌<◌, ◌≤◌, max, fold, cond, Bool, true, false, List}
use Rattle.std.proofs.Common.{[], ◌∷◌, ◌++◌}
use Rattle.std.proofs.Common.{map, filter, take, set, length, get_or, nat_eq, nat_lt, count_by, sum_by, sum, replicate}
use Rattle.std.proofs.Common.{refl, sym, ◌∙◌, ap, ap₂}
use Rattle.std.proofs.Common.{subst, arith, append_assoc, zero-add}
use Rattle.std.proofs.lemmas.Bool.{eqb-true, eqb-false, ne_eqb, ltb-true, lt-ltb, le-ltb}
use Rattle.std.proofs.lemmas.List.{map-append, append-nil}
use Rattle.sp_lists.proofs.Sums.{sum-alike, sum-plus, sum-zeros}
use Rattle.sp_ladder.specs.declared.counting.TheConstants.{LADDERS}
use Rattle.sp_ladder.specs.declared.step.Step.{Step}
use Rattle.sp_ladder.specs.Steps.{step_on}
use Rattle.std.proofs.lemmas.List.FromFn.{map-range_with_len_more, length-map-range_with_len}
use Rattle.std.specs.List.{range_with_len}
use Rattle.std.proofs.lemmas.List.{take_more, length-take-le, get_or-set_other, get_or-set_same}
use Rattle.std.proofs.lemmas.List.Sums.{sum_by-cons, sum_by-append, count_by-le-length, sum_by_more, sum_by-take-le}
use Rattle.std.proofs.Math.Nat.{mul-le-mul}
use Rattle.sp_defs.specs.Partition.{degree, from_one_to}
use Rattle.sp_partition.specs.Held.{IsHeld}
use Rattle.sp_shapes.proofs.Diagram.{degree-nodes}
use Rattle.sp_lists.proofs.Elements.{range_snoc, all_every}
use Rattle.std.proofs.lemmas.List.Elements.{filter-append}
use Rattle.sp_defs.specs.Node.{Node, nodes, nodes_from}
use Rattle.sp_defs.specs.Ladder.{ladder_of, on_ladder}

-- The first n nodes of row r.
abbrev pub row_nodes : ℕ → ℕ → List Node
row_nodes r n = map (λ c. (r, c)) (from_one_to n)

row_nodes-more : (r n : ℕ) → row_nodes r (n + 1) ≡ row_nodes r n ++ ((r, 1 + n) ∷ [])
row_nodes-more r n = map-range_with_len_more (λ c. (r, c)) 1 n (1 + n) refl

nodes_from-more : (r p : ℕ) (parts : List ℕ) →
    nodes_from r (parts ++ (p ∷ [])) ≡ nodes_from r parts ++ row_nodes (length parts + r) p
unfolding nodes_from
nodes_from-more r p [] =
    let own : 0 + r ≡ r = omega arith in
    append-nil (row_nodes r p) ∙ ap (λ k. row_nodes k p) (sym own)
nodes_from-more r p (q ∷ parts) =
    let next : length parts + suc r ≡ suc (length parts) + r = omega arith in
    ap (λ xs. row_nodes r q ++ xs) (nodes_from-more (suc r) p parts)
    ∙ sym (append_assoc (row_nodes r q) (nodes_from (suc r) parts) (row_nodes (length parts + suc r) p))
    ∙ ap (λ k. (row_nodes r q ++ nodes_from (suc r) parts) ++ row_nodes k p) next

-- The nodes of the first rows, and of one row more.
pub nodes-more : (parts : List ℕ) (i d : ℕ) → i < length parts →
    nodes (take (i + 1) parts) ≡ nodes (take i parts) ++ row_nodes (i + 1) (get_or parts i d)
nodes-more parts i d lt =
    let rows : length (take i parts) + 1 ≡ i + 1 = ap (λ n. n + 1) (length-take-le i parts (omega arith)) in
    ap nodes (take_more parts i d lt) ∙ nodes_from-more 1 (get_or parts i d) (take i parts)
    ∙ ap (λ k. nodes (take i parts) ++ row_nodes k (get_or parts i d)) rows

-- ---- one node more

-- How many of these nodes stand on the ladder.
abbrev pub count_on : ℕ → ℕ → List Node → ℕ
count_on e l xs = count_by (λ x. nat_eq (ladder_of e x) l) xs

-- In two lists joined.
pub count_on-append : (e l : ℕ) (xs ys : List Node) → count_on e l (xs ++ ys) ≡ count_on e l xs + count_on e l ys
count_on-append e l xs ys = sum_by-append (λ x. cond (nat_eq (ladder_of e x) l) 1 0) xs ys

-- Counting the node in the next column of the row.
pub counted : (e row k l old ladder : ℕ) (counts : List ℕ) → ladder ≡ row + (e - 1) * k → ladder < length counts →
    get_or counts l 0 ≡ old + count_on e l (row_nodes row k) →
    get_or (set counts ladder (get_or counts ladder 0 + 1)) l 0 ≡ old + count_on e l (row_nodes row (k + 1))
counted e row k l old ladder counts at lt so_far = by_test (nat_eq ladder l) refl
  where
    here : ladder_of e (row, 1 + k) ≡ ladder
    here = let column : 1 + k - 1 ≡ k = omega arith in ap (λ c. row + (e - 1) * c) column ∙ sym at

    more : (t : Bool) → nat_eq ladder l ≡ t →
        count_on e l (row_nodes row (k + 1)) ≡ count_on e l (row_nodes row k) + cond t 1 0
    more t is =
        ap (count_on e l) (row_nodes-more row k) ∙ count_on-append e l (row_nodes row k) ((row, 1 + k) ∷ [])
        ∙ ap (λ n. count_on e l (row_nodes row k) + n)
        (let one : count_on e l ((row, 1 + k) ∷ []) ≡ cond (nat_eq (ladder_of e (row, 1 + k)) l) 1 0 =
        zero-add (cond (nat_eq (ladder_of e (row, 1 + k)) l) 1 0) in
        one ∙ ap (λ n. cond (nat_eq n l) 1 0) here ∙ ap (λ b. cond b 1 0) is)

    by_test : (t : Bool) → nat_eq ladder l ≡ t →
        get_or (set counts ladder (get_or counts ladder 0 + 1)) l 0 ≡ old + count_on e l (row_nodes row (k + 1))
    by_test true is =
        let same : ladder ≡ l = eqb-true ladder l is in
        let new : get_or (set counts ladder (get_or counts ladder 0 + 1)) ladder 0 ≡ get_or counts ladder 0 + 1 =
        get_or-set_same counts ladder (get_or counts ladder 0 + 1) 0 lt in
        let value : get_or counts ladder 0 ≡ get_or counts l 0 = ap (λ n. get_or counts n 0) same in
        ap (λ n. get_or (set counts ladder (get_or counts ladder 0 + 1)) n 0) (sym same)
        ∙ omega (arith, new, value, so_far, more true is)
    by_test false is =
        let other : l ≢ ladder = λ e. eqb-false ladder l is (sym e) in
        get_or-set_other counts ladder l (get_or counts ladder 0 + 1) 0 other ∙ omega (arith, so_far, more false is)

-- At most all nodes of the row stand on one ladder.
pub count_on-few : (e l r n : ℕ) → count_on e l (row_nodes r n) ≤ n
count_on-few e l r n =
    let size : length (row_nodes r n) ≡ n = length-map-range_with_len (λ c. (r, c)) 1 n in
    omega (arith, count_by-le-length (λ x. nat_eq (ladder_of e x) l) (row_nodes r n), size)

-- One column further is e - 1 ladders later.
pub next_column : (e row k ladder : ℕ) → ladder ≡ row + (e - 1) * k → ladder + (e - 1) ≡ row + (e - 1) * (k + 1)
next_column e row k ladder at = omega (arith, at)

-- The ladders of a row's nodes are no further than that of its last node at the greatest e.
pub inside : (e row k part ladder most : ℕ) → ladder ≡ row + (e - 1) * k → e ≤ 64 → k < part →
    row + 63 * (part - 1) < most →
    ladder < most
inside e row k part ladder most at he lt h =
    let e_less : e - 1 ≤ 63 = omega arith in
    let k_less : k ≤ part - 1 = omega arith in
    let product : (e - 1) * k ≤ 63 * (part - 1) = mul-le-mul e_less k_less in
    omega (arith, product)

-- ---- the rows of a partition of at most 32

-- What is known of row i, counted from 0: its ladders fit the table, and so do the counts with it.
pub record Row (e i : ℕ) (parts : List ℕ) : Type 0 where
  pub positive : 0 < get_or parts i 0
  pub fits : i + 1 + 63 * (get_or parts i 0 - 1) < LADDERS
  pub room : (l : ℕ) → count_on e l (nodes (take i parts)) + get_or parts i 0 ≤ 32

rows_before : (i : ℕ) (parts : List ℕ) → i ≤ length parts → ((k : ℕ) → k < length parts → 0 < get_or parts k 0) →
    i ≤ sum (take i parts)
rows_before zero parts le pos = omega arith
rows_before (suc i) parts le pos =
    let before : i ≤ sum (take i parts) = rows_before i parts (omega arith) pos in
    let next : suc i ≡ i + 1 = omega arith in
    let more : sum (take (i + 1) parts) ≡ sum (take i parts) + get_or parts i 0 =
    sum_by_more (λ x. x) parts i 0 (omega arith) in
    subst (λ n. n ≤ sum (take n parts)) (sym next) (omega (arith, before, more, pos i (omega arith)))

-- Each row of a partition that the code holds has this.
pub row : (e i : ℕ) (parts : List ℕ) → IsHeld parts → i < length parts → Row e i parts
row e i parts held lt =
    let pos : (k : ℕ) → k < length parts → 0 < get_or parts k 0 = λ k low. held.partition.positive k 0 low in
    let more : sum (take (i + 1) parts) ≡ sum (take i parts) + get_or parts i 0 = sum_by_more (λ x. x) parts i 0 lt in
    let part : sum (take (i + 1) parts) ≤ sum parts = sum_by-take-le (λ x. x) parts (i + 1) in
    let small : sum parts ≤ 32 = held.small in
    record {
      positive = pos i lt;
      fits = omega (arith, rows_before i parts (omega arith) pos, more, part, small, pos i lt);
      room = λ l.
          let nodes_few : count_on e l (nodes (take i parts)) ≤ length (nodes (take i parts)) =
          count_by-le-length (λ x. nat_eq (ladder_of e x) l) (nodes (take i parts)) in
          omega (arith, nodes_few, degree-nodes 1 (take i parts), more, part, small);
    }

-- So does a row that the code counts from 1.
pub row_fits : (e i r : ℕ) (parts : List ℕ) → IsHeld parts → i < length parts → r ≡ i →
    r + 1 + 63 * (get_or parts i 0 - 1) < LADDERS
row_fits e i r parts held lt same =
    subst (λ n. n + 1 + 63 * (get_or parts i 0 - 1) < LADDERS) (sym same) (row e i parts held lt).fits

-- A partition that the code holds has at most 32 rows.
pub rows_few : (parts : List ℕ) → IsHeld parts → length parts ≤ 32
rows_few parts held =
    let pos : (k : ℕ) → k < length parts → 0 < get_or parts k 0 = λ k low. held.partition.positive k 0 low in
    let part : sum (take (length parts) parts) ≤ sum parts = sum_by-take-le (λ x. x) parts (length parts) in
    let small : sum parts ≤ 32 = held.small in
    omega (arith, rows_before (length parts) parts (omega arith) pos, part, small)

-- The counts of the first rows, and of one row more.
pub counted_row : (e l i before after : ℕ) (parts : List ℕ) → i < length parts →
    before ≡ count_on e l (nodes (take i parts)) →
    after ≡ before + count_on e l (row_nodes (i + 1) (get_or parts i 0)) → after
    ≡ count_on e l (nodes (take (i + 1) parts))
counted_row e l i before after parts lt so_far more =
    more ∙ ap (λ n. n + count_on e l (row_nodes (i + 1) (get_or parts i 0))) so_far
    ∙ sym (ap (count_on e l) (nodes-more parts i 0 lt)
    ∙ count_on-append e l (nodes (take i parts)) (row_nodes (i + 1) (get_or parts i 0)))

-- ---- the greatest ladder

-- The greatest of m and the ladder numbers of these nodes.
abbrev pub greatest_ladder : ℕ → ℕ → List Node → ℕ
greatest_ladder e m xs = fold (λ n x. max n (ladder_of e x)) m xs

greatest_ladder-append : (e m : ℕ) (xs ys : List Node) →
    greatest_ladder e m (xs ++ ys) ≡ greatest_ladder e (greatest_ladder e m xs) ys
greatest_ladder-append e m [] ys = refl
greatest_ladder-append e m (x ∷ xs) ys = greatest_ladder-append e (max m (ladder_of e x)) xs ys

-- In a row it is that of the last node.
greatest_in_row : (e m r n : ℕ) → greatest_ladder e m (row_nodes r (n + 1)) ≡ max m (ladder_of e (r, n + 1))
greatest_in_row e m r zero =
    let first : ladder_of e (r, 1) ≡ ladder_of e (r, 0 + 1) = refl in
    refl
greatest_in_row e m r (suc n) =
    let next : suc n ≡ n + 1 = omega arith in
    ap (greatest_ladder e m) (row_nodes-more r (suc n))
    ∙ greatest_ladder-append e m (row_nodes r (suc n)) ((r, 1 + suc n) ∷ [])
    ∙ ap (λ k. max (greatest_ladder e m (row_nodes r k)) (ladder_of e (r, 1 + suc n))) next
    ∙ ap (λ k. max k (ladder_of e (r, 1 + suc n))) (greatest_in_row e m r n)
    ∙ later
  where
    later : max (max m (ladder_of e (r, n + 1))) (ladder_of e (r, 1 + suc n)) ≡ max m (ladder_of e (r, suc n + 1))
    later =
        let before : ladder_of e (r, n + 1) ≡ r + (e - 1) * n = let c : n + 1 - 1 ≡ n = omega arith in
        ap (λ k. r + (e - 1) * k) c in
        let here : ladder_of e (r, 1 + suc n) ≡ r + (e - 1) * (n + 1) =
        let c : 1 + suc n - 1 ≡ n + 1 = omega arith in ap (λ k. r + (e - 1) * k) c in
        let there : ladder_of e (r, suc n + 1) ≡ r + (e - 1) * (n + 1) =
        let c : suc n + 1 - 1 ≡ n + 1 = omega arith in ap (λ k. r + (e - 1) * k) c in
        omega (arith, before, here, there)

-- The greatest ladder of the first rows, and of one row more.
pub greatest_row : (e i before after : ℕ) (parts : List ℕ) → i < length parts → 0 < get_or parts i 0 →
    before ≡ greatest_ladder e 0 (nodes (take i parts)) → after ≡ max before (ladder_of e (i + 1, get_or parts i 0)) →
    after ≡ greatest_ladder e 0 (nodes (take (i + 1) parts))
greatest_row e i before after parts lt pos so_far more =
    let p : ℕ = get_or parts i 0 in
    let columns : p - 1 + 1 ≡ p = omega arith in
    more ∙ ap (λ n. max n (ladder_of e (i + 1, p))) so_far
    ∙ sym (ap (greatest_ladder e 0) (nodes-more parts i 0 lt)
    ∙ greatest_ladder-append e 0 (nodes (take i parts)) (row_nodes (i + 1) p)
    ∙ subst (λ q. greatest_ladder e (greatest_ladder e 0 (nodes (take i parts))) (row_nodes (i + 1) q)
    ≡ max (greatest_ladder e 0 (nodes (take i parts))) (ladder_of e (i + 1, q))) columns
    (greatest_in_row e (greatest_ladder e 0 (nodes (take i parts))) (i + 1) (p - 1)))

-- ---- ladders with nodes

-- Each node stands on one ladder, so over any ladders the counts add up to at most the nodes.
one_ladder : (v a k : ℕ) → sum_by (λ l. cond (nat_eq v l) 1 0) (range_with_len a k) ≤ 1
one_ladder v a zero = omega arith
one_ladder v a (suc k) = by_test (nat_eq v a) refl (one_ladder v (a + 1) k)
  where
    none_later : (b n : ℕ) → v < b → ◌≡◌ {A = ℕ} (sum_by (λ l. cond (nat_eq v l) 1 0) (range_with_len b n)) 0
    none_later b zero lt = refl
    none_later b (suc n) lt =
        sum_by-cons (λ l. cond (nat_eq v l) 1 0) b (range_with_len (b + 1) n)
        ∙ ap₂ (λ t m. cond t 1 0 + m) (ne_eqb v b (λ e. omega arith)) (none_later (b + 1) n (omega arith))

    by_test : (t : Bool) → nat_eq v a ≡ t → sum_by (λ l. cond (nat_eq v l) 1 0) (range_with_len (a + 1) k) ≤ 1 →
        sum_by (λ l. cond (nat_eq v l) 1 0) (range_with_len a (suc k)) ≤ 1
    by_test true is rest =
        let same : v ≡ a = eqb-true v a is in
        let head : ◌≡◌ {A = ℕ} (cond (nat_eq v a) 1 0) 1 = ap (λ t. cond t 1 0) is in
        omega (
          arith,
          sum_by-cons (λ l. cond (nat_eq v l) 1 0) a (range_with_len (a + 1) k),
          head,
          none_later (a + 1) k (omega arith),
        )
    by_test false is rest =
        let head : ◌≡◌ {A = ℕ} (cond (nat_eq v a) 1 0) 0 = ap (λ t. cond t 1 0) is in
        omega (arith, sum_by-cons (λ l. cond (nat_eq v l) 1 0) a (range_with_len (a + 1) k), head, rest)

counts_within : (e a k : ℕ) (xs : List Node) → sum_by (λ l. count_on e l xs) (range_with_len a k) ≤ length xs
counts_within e a k [] = omega (arith, sum-zeros (range_with_len a k))
counts_within e a k (x ∷ xs) =
    let split : sum_by (λ l. count_on e l (x ∷ xs)) (range_with_len a k)
    ≡ sum_by (λ l. cond (nat_eq (ladder_of e x) l) 1 0 + count_on e l xs) (range_with_len a k) =
    sum-alike (λ l. count_on e l (x ∷ xs)) (λ l. cond (nat_eq (ladder_of e x) l) 1 0 + count_on e l xs)
    (range_with_len a k)
    (all_every (λ l. count_on e l (x ∷ xs) ≡ cond (nat_eq (ladder_of e x) l) 1 0 + count_on e l xs)
    (range_with_len a k) (λ l. sum_by-cons (λ y. cond (nat_eq (ladder_of e y) l) 1 0) x xs)) in
    omega (
      arith,
      split,
      sum-plus (λ l. cond (nat_eq (ladder_of e x) l) 1 0) (λ l. count_on e l xs) (range_with_len a k),
      one_ladder (ladder_of e x) a k,
      counts_within e a k xs,
    )

kept_within : (f : ℕ → ℕ) (ls : List ℕ) → length (filter (λ l. nat_lt 0 (f l)) ls) ≤ sum_by f ls
kept_within f [] = omega arith
kept_within f (l ∷ ls) = by_test (nat_lt 0 (f l)) refl (kept_within f ls)
  where
    by_test : (t : Bool) → nat_lt 0 (f l) ≡ t → length (filter (λ l. nat_lt 0 (f l)) ls) ≤ sum_by f ls →
        length (filter (λ l. nat_lt 0 (f l)) (l ∷ ls)) ≤ sum_by f (l ∷ ls)
    by_test true is rest =
        let kept =
        ap (λ t. length (cond t (l ∷ filter (λ l. nat_lt 0 (f l)) ls) (filter (λ l. nat_lt 0 (f l)) ls))) is in
        omega (arith, sum_by-cons f l ls, kept, rest, ltb-true 0 (f l) is)
    by_test false is rest =
        let kept =
        ap (λ t. length (cond t (l ∷ filter (λ l. nat_lt 0 (f l)) ls) (filter (λ l. nat_lt 0 (f l)) ls))) is in
        omega (arith, sum_by-cons f l ls, kept, rest)

-- The ladders up to k that have nodes.
abbrev pub with_nodes : ℕ → List ℕ → ℕ → List ℕ
with_nodes e mu k = filter (λ l. nat_lt 0 (on_ladder e mu l)) (range_with_len 1 k)

with_nodes-more : (e k : ℕ) (mu : List ℕ) →
    with_nodes e mu (k + 1) ≡ with_nodes e mu k ++ cond (nat_lt 0 (on_ladder e mu (1 + k))) ((1 + k) ∷ []) []
with_nodes-more e k mu =
    let next : k + 1 ≡ suc k = omega arith in
    ap (λ n. filter (λ l. nat_lt 0 (on_ladder e mu l)) (range_with_len 1 n)) next
    ∙ ap (filter (λ l. nat_lt 0 (on_ladder e mu l))) (range_snoc 1 k)
    ∙ filter-append (λ l. nat_lt 0 (on_ladder e mu l)) (range_with_len 1 k) ((1 + k) ∷ [])

-- There is room for one step more.
pub steps_few : (e k : ℕ) (mu : List ℕ) → degree mu ≤ 32 → 0 < on_ladder e mu (1 + k) → length (with_nodes e mu k) < 32
unfolding on_ladder
steps_few e k mu small some =
    let next : k + 1 ≡ suc k = omega arith in
    let sums : sum_by (λ l. count_on e l (nodes mu)) (range_with_len 1 (suc k))
    ≡ sum_by (λ l. count_on e l (nodes mu)) (range_with_len 1 k) + (0 + count_on e (1 + k) (nodes mu)) =
    ap (sum_by (λ l. count_on e l (nodes mu))) (range_snoc 1 k)
    ∙ sum_by-append (λ l. count_on e l (nodes mu)) (range_with_len 1 k) ((1 + k) ∷ []) in
    omega (
      arith,
      sums,
      kept_within (λ l. count_on e l (nodes mu)) (range_with_len 1 k),
      counts_within e 1 (suc k) (nodes mu),
      degree-nodes 1 mu,
    )

-- ---- the steps found so far

-- The next ladder has nodes: its step is the last of those found.
pub found_more : (e ladder : ℕ) (mu : List ℕ) (found : List Step) → 1 ≤ ladder → 0 < on_ladder e mu ladder →
    found ≡ map (step_on e mu) (with_nodes e mu (ladder - 1)) →
    found ++ (step_on e mu ladder ∷ []) ≡ map (step_on e mu) (with_nodes e mu (ladder + 1 - 1))
found_more e ladder mu found least some so_far =
    let k : ℕ = ladder - 1 in
    let here : 1 + k ≡ ladder = omega arith in
    let next : k + 1 ≡ ladder + 1 - 1 = omega arith in
    let is_some : nat_lt 0 (on_ladder e mu (1 + k)) ≡ true = ap (λ l. nat_lt 0 (on_ladder e mu l)) here
    ∙ lt-ltb 0 (on_ladder e mu ladder) some in
    sym (ap (λ n. map (step_on e mu) (with_nodes e mu n)) (sym next)
    ∙ ap (map (step_on e mu)) (with_nodes-more e k mu
    ∙ ap (λ t. with_nodes e mu k ++ cond t ((1 + k) ∷ []) []) is_some ∙ ap (λ l. with_nodes e mu k ++ (l ∷ [])) here)
    ∙ map-append (step_on e mu) (with_nodes e mu k) (ladder ∷ [])
    ∙ ap (λ s. s ++ (step_on e mu ladder ∷ [])) (sym so_far))

-- The next ladder has no node: no step is found.
pub found_same : (e ladder : ℕ) (mu : List ℕ) (found : List Step) → 1 ≤ ladder → on_ladder e mu ladder ≤ 0 →
    found ≡ map (step_on e mu) (with_nodes e mu (ladder - 1)) → found
    ≡ map (step_on e mu) (with_nodes e mu (ladder + 1 - 1))
found_same e ladder mu found least none so_far =
    let k : ℕ = ladder - 1 in
    let here : 1 + k ≡ ladder = omega arith in
    let next : k + 1 ≡ ladder + 1 - 1 = omega arith in
    let is_none : nat_lt 0 (on_ladder e mu (1 + k)) ≡ false = ap (λ l. nat_lt 0 (on_ladder e mu l)) here
    ∙ le-ltb 0 (on_ladder e mu ladder) none in
    so_far ∙ sym (ap (λ n. map (step_on e mu) (with_nodes e mu n)) (sym next)
    ∙ ap (map (step_on e mu)) (with_nodes-more e k mu ∙ ap (λ t. with_nodes e mu k ++ cond t ((1 + k) ∷ []) []) is_none
    ∙ append-nil (with_nodes e mu k)))
