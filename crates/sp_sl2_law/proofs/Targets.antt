-- The partitions at which a restriction can be other than 0: those with a node less than an entry of the vector.
use Rattle.std.proofs.Common.{◌≡◌, ◌≢◌, ℕ, ◌+◌, ◌-◌, ◌≤◌, true, cond, ◌&&◌, nat_eq, List, [], ◌∷◌, map}
use Rattle.std.proofs.Common.{filter, flat_map, length, refl, sym, ◌∙◌, ap, ap₂, subst, arith, sum_by, ◌⊎◌, inl, inr}
use Rattle.std.proofs.Common.{Less, Equal, Greater}
use Rattle.std.proofs.lemmas.List.Sums.{sum_by-cons}
use Rattle.std.specs.List.{AllByRecursion}
use Rattle.std.specs.Ordering.{is_eq}
use Rattle.std.specs.declared.cmp.Ordering.{Ordering}
use Rattle.sp_defs.specs.Partition.{part, degree, partitions, compare, from_one_to, IsPartition, IsPartitionOf}
use Rattle.sp_defs.specs.Node.{Node, residue, nodes, is_removable, removable}
use Rattle.sp_defs.specs.Laurent.{Laurent, collect, power, plus, times, size, sum_over}
use Rattle.sp_defs.specs.Power.{Entries, vector_of, is_move}
use Rattle.sp_defs.specs.Signature.{shrink, remove_node}
use Rattle.sp_lists.proofs.Elements.{all_map, all_filter, all_every, and_split, and_join, nil_or_not}
use Rattle.sp_lists.proofs.Occurrence.{Occurs, at_occurs, occurs_flat, occurs_map, occurs_filter, occurs_range}
use Rattle.sp_algebra.proofs.Laws.{times_nought}
use Rattle.sp_shapes.proofs.CornerRows.{removable-rows}
use Rattle.sp_shapes.proofs.Corners.{removable_column, removable_least}
use Rattle.sp_shapes.proofs.Order.{same_lists}
use Rattle.sp_shapes.proofs.Shrink.{degree-shrink}
use Rattle.sp_power_law.proofs.Gains.{Gains, addable_facts}
use Rattle.sp_sl2_law.specs.Restriction.{restriction_exponent, enlarged, restriction, restricted_size}
use Rattle.sp_sl2_law.specs.Marks.{shrunken}
use Rattle.sp_sl2_law.proofs.OneNode.{Loses, removable_facts, facts_removable, shrinks, corner_of, MovedRow}
use Rattle.sp_sl2_law.proofs.OneNode.{moved_row, loses_back, shrunk_back}
use Rattle.sp_sl2_law.proofs.ByRows.{loss_near}

-- A removable i-node is the last of a row that can lose a node.
pub loses_node : (e i : ℕ) (parts : List ℕ) (x : Node) → is_removable parts x ≡ true → nat_eq (residue e x) i ≡ true →
    Loses e i parts x.0
loses_node e i parts (r, c) h k =
    let same : c ≡ part parts r = removable_column parts r c h in
    removable_facts e i parts r
    (subst (λ d. (is_removable parts (r, d) && nat_eq (residue e (r, d)) i) ≡ true) same
    (and_join (is_removable parts (r, c)) (nat_eq (residue e (r, c)) i) h k))

-- All partitions with a node less are of one degree less.
pub all_shrunken : (e i n : ℕ) (parts : List ℕ) → IsPartitionOf n parts →
    AllByRecursion (IsPartitionOf (n - 1)) (shrunken e i parts)
all_shrunken e i n parts p =
    all_map (IsPartitionOf (n - 1)) (remove_node parts) (filter (λ x. nat_eq (residue e x) i) (removable parts))
    (all_filter (λ x. IsPartitionOf (n - 1) (remove_node parts x)) (λ x. nat_eq (residue e x) i) (removable parts)
    (all_filter (λ x. nat_eq (residue e x) i ≡ true → IsPartitionOf (n - 1) (remove_node parts x)) (is_removable parts)
    (nodes parts)
    (all_every _ (nodes parts) (λ x h k. one x h k))))
  where
    one : (x : Node) → is_removable parts x ≡ true → nat_eq (residue e x) i ≡ true →
        IsPartitionOf (n - 1) (remove_node parts x)
    one (r, c) h k =
        let l : Loses e i parts r = loses_node e i parts (r, c) h k in
        let hr : 1 ≤ r = removable_least parts r c h in
        let less : degree (shrink (r - 1) parts) + 1 ≡ degree parts =
        degree-shrink (r - 1) parts p.partition (corner_of e i parts r hr l) in
        record {
          partition = (shrinks e i parts r hr p.partition l).partition;
          total = omega (arith, less, p.total);
        }

-- From a partition that a move leads to, it is among those with a node less.
pub move_shrunken : (e i : ℕ) (smaller larger : List ℕ) → 2 ≤ e → IsPartition smaller → IsPartition larger →
    is_move e i 1 smaller larger ≡ true → Occurs smaller (shrunken e i larger)
move_shrunken e i smaller larger he ps pl h =
    let m : MovedRow e i smaller larger = moved_row e i smaller larger he ps pl h in
    let g : Gains e i smaller m.row = addable_facts e i smaller m.row m.gains in
    let l : Loses e i larger m.row =
    subst (λ y. Loses e i y m.row) (sym m.is) (loses_back e i smaller m.row m.least ps g) in
    let back : shrink (m.row - 1) larger ≡ smaller =
    ap (shrink (m.row - 1)) m.is ∙ shrunk_back e i smaller m.row m.least ps g in
    let both = and_split (is_removable larger (m.row, part larger m.row))
    (nat_eq (residue e (m.row, part larger m.row)) i) (facts_removable e i larger m.row m.least l) in
    let near : m.row ≤ length larger = loss_near larger e i m.row m.least l in
    subst (λ y. Occurs y (shrunken e i larger)) back
    (occurs_map (remove_node larger) (m.row, part larger m.row)
    (filter (λ x. nat_eq (residue e x) i) (removable larger))
    (occurs_filter (λ x. nat_eq (residue e x) i) (m.row, part larger m.row) (removable larger) both.1
    (subst (λ xs. Occurs (m.row, part larger m.row) xs) (sym (removable-rows larger))
    (occurs_filter (is_removable larger) (m.row, part larger m.row)
    (map (λ r. (r, part larger r)) (from_one_to (length larger))) both.0
    (occurs_map (λ r. (r, part larger r)) m.row (from_one_to (length larger))
    (occurs_range m.row 1 (length larger) m.least (omega arith)))))))

-- ---- the partitions of a vector

-- Where a vector isn't 0 it has an entry.
pub entry_there : (es : Entries) (x : List ℕ) → vector_of es x ≢ [] → (p : Laurent) × Occurs (x, p) es
unfolding vector_of
entry_there [] x ne = absurd (ne refl)
entry_there ((kappa, p) ∷ es) x ne = by_order (compare kappa x) refl ne (entry_there es x)
  where
    by_order : (o : Ordering) → compare kappa x ≡ o → cond (is_eq o) p (vector_of es x) ≢ [] →
        (vector_of es x ≢ [] → (q : Laurent) × Occurs (x, q) es) → (q : Laurent) × Occurs (x, q) ((kappa, p) ∷ es)
    by_order Less is n rest = let r = rest n in (r.0, inr r.1)
    by_order Greater is n rest = let r = rest n in (r.0, inr r.1)
    by_order Equal is n rest = (p, inl (ap (λ y. (y, p)) (sym (same_lists kappa x is))))

-- All of a list of polynomials are 0, or one isn't.
pub zeros_or_some : (xs : List (List ℕ)) (w : List ℕ → Laurent) →
    AllByRecursion (λ x. w x ≡ []) xs ⊎ ((x : List ℕ) × Occurs x xs × (w x ≢ []))
zeros_or_some [] w = inl tt
zeros_or_some (x ∷ xs) w = settle (nil_or_not (w x)) (zeros_or_some xs w)
  where
    settle : (w x ≡ []) ⊎ (w x ≢ []) →
        AllByRecursion (λ x. w x ≡ []) xs ⊎ ((y : List ℕ) × Occurs y xs × (w y ≢ [])) →
        AllByRecursion (λ x. w x ≡ []) (x ∷ xs) ⊎ ((y : List ℕ) × Occurs y (x ∷ xs) × (w y ≢ []))
    settle (inl z) (inl zs) = inl (z, zs)
    settle (inr n) b = inr (x, inl refl, n)
    settle (inl z) (inr s) = inr (s.0, inr s.1, s.2)

-- At a partition the restriction is 0, and so are the sizes.
pub record Nothing (e i : ℕ) (es : Entries) (mu : List ℕ) : Type 0 where
  pub zero_there : restriction e i (vector_of es) mu ≡ []
  pub no_size : restricted_size e i (vector_of es) mu ≡ 0

nothing : (e i : ℕ) (es : Entries) (mu : List ℕ) → AllByRecursion (λ x. vector_of es x ≡ []) (enlarged e i mu) →
    Nothing e i es mu
unfolding restriction sum_over plus collect
nothing e i es mu zeros = record { zero_there = sums (enlarged e i mu) zeros; no_size = sizes (enlarged e i mu) zeros }
  where
    sums : (xs : List (List ℕ)) → AllByRecursion (λ x. vector_of es x ≡ []) xs →
        sum_over xs (λ x. times (power (restriction_exponent e i mu x)) (vector_of es x)) ≡ []
    sums [] h = refl
    sums (x ∷ xs) (h, hs) =
        ap₂ (λ p q. plus (times (power (restriction_exponent e i mu x)) p) q) h (sums xs hs)
        ∙ ap (λ p. plus p []) (times_nought (power (restriction_exponent e i mu x)))

    sizes : (xs : List (List ℕ)) → AllByRecursion (λ x. vector_of es x ≡ []) xs →
        sum_by (λ x. size (vector_of es x)) xs ≡ 0
    sizes [] h = refl
    sizes (x ∷ xs) (h, hs) =
        omega (arith, sum_by-cons (λ x. size (vector_of es x)) x xs, ap size h, sizes xs hs)

-- Each partition of one degree less has a node less than an entry, or nothing is there.
pub target_or_nothing : (e i n : ℕ) (es : Entries) → 2 ≤ e → AllByRecursion (λ t. IsPartitionOf n t.0) es →
    (mu : List ℕ) → IsPartition mu → Occurs mu (flat_map (λ t. shrunken e i t.0) es) ⊎ Nothing e i es mu
unfolding enlarged
target_or_nothing e i n es he all mu pm = settle (zeros_or_some (enlarged e i mu) (vector_of es))
  where
    settle : AllByRecursion (λ x. vector_of es x ≡ []) (enlarged e i mu) ⊎
        ((x : List ℕ) × Occurs x (enlarged e i mu) × (vector_of es x ≢ [])) →
        Occurs mu (flat_map (λ t. shrunken e i t.0) es) ⊎ Nothing e i es mu
    settle (inl zeros) = inr (nothing e i es mu zeros)
    settle (inr s) =
        let entry = entry_there es s.0 s.2 in
        let p : IsPartitionOf n s.0 = at_occurs (λ t. IsPartitionOf n t.0) (s.0, entry.0) es entry.1 all in
        let moved : is_move e i 1 mu s.0 ≡ true =
        at_occurs (λ x. is_move e i 1 mu x ≡ true) s.0 (enlarged e i mu) s.1
        (all_filter (λ x. is_move e i 1 mu x ≡ true) (λ x. is_move e i 1 mu x) (partitions (degree mu + 1))
        (all_every _ (partitions (degree mu + 1)) (λ x h. h))) in
        inl (occurs_flat (λ t. shrunken e i t.0) (s.0, entry.0) es mu entry.1
        (move_shrunken e i mu s.0 he pm p.partition moved))
