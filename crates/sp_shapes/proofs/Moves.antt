-- What a move says of the two diagrams: the rows grow, the new nodes have the residue, and counts of nodes add up.
use Rattle.std.proofs.Common.{◌≡◌, ℕ, suc, ◌+◌, ◌-◌, ◌<◌, ◌≤◌, Bool, true, false, not, ◌&&◌, List, [], ◌∷◌, filter}
use Rattle.std.proofs.Common.{length, refl, sym, ◌∙◌, ap, ap₂, subst, arith, count_by, nat_le, nat_eq, slice_index}
use Rattle.std.proofs.Common.{true≢false, ◌⊎◌, inl, inr, le-leb, eqb-true, eq-eqb}
use Rattle.std.specs.List.{AllByRecursion, list_all}
use Rattle.std.proofs.lemmas.List.Sums.{length-filter}
use Rattle.sp_defs.specs.Partition.{part, degree, IsPartition}
use Rattle.sp_defs.specs.Node.{Node, in_diagram, nodes, residue}
use Rattle.sp_defs.specs.Power.{is_move, added}
use Rattle.sp_lists.proofs.Elements.{and_split, and_join, all_tests, tests_all, filter_all, all_filter, count_split}
use Rattle.sp_lists.proofs.Elements.{le_or_lt}
use Rattle.sp_shapes.proofs.Diagram.{in_node, node_in, at_node, all_nodes, keep_filter, degree-nodes}

-- m nodes more, all of residue i
pub record Move (e i m : ℕ) (before after : List ℕ) : Type 0 where
  pub rows : (k : ℕ) → slice_index before k ≤ slice_index after k
  pub residues : (r c : ℕ) → 1 ≤ r → 1 ≤ c → c ≤ part after r → part before r < c → residue e (r, c) ≡ i
  pub count : length (added before after) ≡ m

not_false : (b : Bool) → b ≡ false → not b ≡ true
not_false b e = ap not e

-- a node right of a row is outside
pub out_node : (parts : List ℕ) (r c : ℕ) → 1 ≤ r → 1 ≤ c → part parts r < c → in_diagram parts (r, c) ≡ false
out_node parts r c hr hc h = tested (in_diagram parts (r, c)) refl
  where
    tested : (b : Bool) → in_diagram parts (r, c) ≡ b → b ≡ false
    tested true e = let w = node_in parts r c e in absurd (omega (arith, w.within))
    tested false e = refl

-- ---- the test of a move, as facts, and back

-- the node has residue i, as a fact on the test
abbrev HasResidue : ℕ → ℕ → Node → Type 0
HasResidue e i x = nat_eq (residue e x) i ≡ true

-- a move that passes the test has m nodes more of residue i
pub move_facts : (e i m : ℕ) (before after : List ℕ) → is_move e i m before after ≡ true → Move e i m before after
unfolding is_move
move_facts e i m before after h =
    let p = and_split inside (counted && same_residue) h in
    let q = and_split counted same_residue p.1 in
    record {
      rows = λ k. row_of k (le_or_lt (slice_index before k) 0) (all_tests (in_diagram after) (nodes before) p.0);
      residues = λ r c hr hc w out. eqb-true (residue e (r, c)) i
          (at_node (λ x. not (in_diagram before x) ≡ true → HasResidue e i x) after (each q.1) r c hr hc w
          (not_false (in_diagram before (r, c)) (out_node before r c hr hc out)));
      count = eqb-true (length (added before after)) m q.0;
    }
  where
    inside : Bool
    inside = list_all (in_diagram after) (nodes before)

    counted : Bool
    counted = nat_eq (length (added before after)) m

    same_residue : Bool
    same_residue = list_all (λ x. nat_eq (residue e x) i) (added before after)

    each : list_all (λ x. nat_eq (residue e x) i) (added before after) ≡ true →
        AllByRecursion (λ x. not (in_diagram before x) ≡ true → HasResidue e i x) (nodes after)
    each t = filter_all (HasResidue e i) (λ x. not (in_diagram before x)) (nodes after)
        (all_tests (λ x. nat_eq (residue e x) i) (added before after) t)

    row_of : (k : ℕ) → (slice_index before k ≤ 0) ⊎ (0 < slice_index before k) →
        AllByRecursion (λ x. in_diagram after x ≡ true) (nodes before) → slice_index before k ≤ slice_index after k
    row_of k (inl z) h = omega arith
    row_of k (inr w) h =
        let back : suc k - 1 ≡ k = omega arith in
        let last_in : slice_index before k ≤ part before (suc k) =
        subst (λ n. slice_index before k ≤ slice_index before n) (sym back) (omega arith) in
        let v = node_in after (suc k) (slice_index before k) (at_node (λ x. in_diagram after x ≡ true) before h (suc k)
        (slice_index before k) (omega arith) w last_in) in
        subst (λ n. slice_index before k ≤ slice_index after n) back v.within

-- and what has them passes the test
pub facts_move : (e i m : ℕ) (before after : List ℕ) → Move e i m before after → is_move e i m before after ≡ true
unfolding is_move
facts_move e i m before after h =
    and_join (list_all (in_diagram after) (nodes before))
    (nat_eq (length (added before after)) m && list_all (λ x. nat_eq (residue e x) i) (added before after))
    (tests_all (in_diagram after) (nodes before)
    (all_nodes (λ x. in_diagram after x ≡ true) before inside))
    (and_join (nat_eq (length (added before after)) m) (list_all (λ x. nat_eq (residue e x) i) (added before after))
    (eq-eqb (length (added before after)) m h.count)
    (tests_all (λ x. nat_eq (residue e x) i) (added before after)
    (all_filter (HasResidue e i) (λ x. not (in_diagram before x)) (nodes after)
    (all_nodes (λ x. not (in_diagram before x) ≡ true → HasResidue e i x) after same_residue))))
  where
    inside : (r c : ℕ) → 1 ≤ r → 1 ≤ c → c ≤ part before r → in_diagram after (r, c) ≡ true
    inside r c hr hc w =
        let l : slice_index before (r - 1) ≤ slice_index after (r - 1) = h.rows (r - 1) in
        in_node after r c hr hc (omega arith)

    outside : (r c : ℕ) → 1 ≤ r → 1 ≤ c → not (in_diagram before (r, c)) ≡ true → part before r < c
    outside r c hr hc out = settle (le_or_lt c (part before r))
      where
        settle : (c ≤ part before r) ⊎ (part before r < c) → part before r < c
        settle (inl w) = absurd (true≢false (sym out ∙ ap not (in_node before r c hr hc w)))
        settle (inr w) = w

    same_residue : (r c : ℕ) → 1 ≤ r → 1 ≤ c → c ≤ part after r → not (in_diagram before (r, c)) ≡ true →
        HasResidue e i (r, c)
    same_residue r c hr hc w out =
        eq-eqb (residue e (r, c)) i (h.residues r c hr hc w (outside r c hr hc out))

-- ---- counts

-- the smaller diagram's nodes, in the larger one
pub inner_nodes : (inner outer : List ℕ) → IsPartition inner → ((k : ℕ) → slice_index inner k ≤ slice_index outer k) →
    filter (in_diagram inner) (nodes outer) ≡ nodes inner
inner_nodes inner outer pi le = keep_filter (in_diagram inner) 1 inner outer (λ k c lo hi. same k c lo) le pi
  where
    same : (k c : ℕ) → 1 ≤ c → in_diagram inner (1 + k, c) ≡ nat_le c (slice_index inner k)
    same k c lo =
        let back : 1 + k - 1 ≡ k = omega arith in
        ap₂ (λ a b. a && (b && nat_le c (part inner (1 + k)))) (le-leb 1 (1 + k) (omega arith)) (le-leb 1 c lo)
        ∙ ap (λ n. nat_le c (slice_index inner n)) back

-- the nodes that pass a test: those of the smaller diagram and the new ones
pub count_added : (p : Node → Bool) (before after : List ℕ) → IsPartition before →
    ((k : ℕ) → slice_index before k ≤ slice_index after k) →
    count_by p (nodes after) ≡ count_by p (nodes before) + count_by p (added before after)
count_added p before after pb le =
    count_split p (in_diagram before) (nodes after)
    ∙ ap (λ xs. count_by p xs + count_by p (added before after)) (inner_nodes before after pb le)

-- the degree grows by the nodes added
pub degree_added : (before after : List ℕ) → IsPartition before →
    ((k : ℕ) → slice_index before k ≤ slice_index after k) → degree after ≡ degree before + length (added before after)
degree_added before after pb le =
    sym (degree-nodes 1 after) ∙ all_count (nodes after) ∙ count_added (λ _. true) before after pb le
    ∙ ap₂ (λ x y. x + y) (sym (all_count (nodes before)) ∙ degree-nodes 1 before) (sym (all_count (added before after)))
  where
    all_count : (xs : List Node) → length xs ≡ count_by (λ _. true) xs
    all_count xs = ap length (sym (all_kept xs)) ∙ length-filter (λ _. true) xs
      where
        all_kept : (xs : List Node) → filter (λ _. true) xs ≡ xs
        all_kept [] = refl
        all_kept (x ∷ xs) = ap (λ r. x ∷ r) (all_kept xs)
