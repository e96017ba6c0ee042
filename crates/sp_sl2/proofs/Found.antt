-- The targets of a restriction, found, sorted and without repetitions.
use Rattle.std.proofs.Common.{◌≡◌, ℕ, zero, suc, ◌-◌, ◌<◌, ◌≤◌, true, nat_eq, List, [], ◌∷◌, map, filter, flat_map}
use Rattle.std.proofs.Common.{length}
use Rattle.std.proofs.Common.{get_or, sym, ◌∙◌, ap, subst, arith, Less}
use Rattle.std.specs.List.{AllByRecursion, dedup}
use Rattle.std.specs.List.Sorted.{IsPermutation, IsSorted, IsStrictlySortedBy}
use Rattle.std.specs.Cmp.Lexicographic.{pointwise}
use Rattle.std.proofs.lemmas.List.Elements.{All-from_recursion, recursion_from_All}
use Rattle.std.proofs.lemmas.List.Filters.{All-dedup}
use Rattle.std.proofs.lemmas.List.Kept.{Contains-dedup, IsStrictlySortedBy-dedup}
use Rattle.std.proofs.lemmas.List.Sorted.{All-permutation, Contains-permutation}
use Rattle.sp_defs.specs.Partition.{part, order, Ascending, IsEarlier, IsPartitionOf}
use Rattle.sp_defs.specs.Node.{residue, nodes, is_removable, removable}
use Rattle.sp_defs.specs.Power.{Entries, IsVector}
use Rattle.sp_lists.proofs.Elements.{all_flat, all_filter, all_every}
use Rattle.sp_lists.proofs.Occurrence.{Occurs, contains, occurs}
use Rattle.sp_lists.proofs.Places.{all_weaken}
use Rattle.sp_shapes.proofs.Corners.{removable_column}
use Rattle.sp_partition.specs.OrderLaws.{equal_lists, order_one_degree, parts_equivalence, order_total}
use Rattle.sp_partition.specs.OrderLaws.{order_matches_eq}
use Rattle.sp_fock.specs.Held.{ArePairs}
use Rattle.sp_nodes.specs.Nodes.{pair}
use Rattle.sp_nodes.specs.declared.node.Node.{Node as CodeNode}
use Rattle.sp_sl2_law.specs.Marks.{shrunken}
use Rattle.sp_sl2_law.proofs.Targets.{all_shrunken}
use Rattle.sp_sl2.specs.Targets.{AreTargets, HasRoom}

-- A partition of one degree less than a partition that the code holds has room for a node.
has_room : (n : ℕ) (mu : List ℕ) → n ≤ 32 → IsPartitionOf (n - 1) mu → HasRoom mu
has_room n mu le p = record { partition = p.partition; small = omega (arith, p.total) }

-- All that is found is of one degree less, and has room.
all_found : (e i n : ℕ) (es : Entries) → AllByRecursion (λ t. IsPartitionOf n t.0) es → ArePairs es →
    AllByRecursion (λ mu. IsPartitionOf (n - 1) mu × HasRoom mu) (flat_map (λ t. shrunken e i t.0) es)
all_found e i n [] all held = tt
all_found e i n (t ∷ es) (p, all) (h, held) =
    all_flat (λ mu. IsPartitionOf (n - 1) mu × HasRoom mu) (λ t. shrunken e i t.0) (t ∷ es) (first, rest es all held)
  where
    first : AllByRecursion (λ mu. IsPartitionOf (n - 1) mu × HasRoom mu) (shrunken e i t.0)
    first = all_weaken (IsPartitionOf (n - 1)) (λ mu. IsPartitionOf (n - 1) mu × HasRoom mu) (shrunken e i t.0)
        (λ mu q. (q, has_room n mu (omega (arith, p.total, h.0.small)) q)) (all_shrunken e i n t.0 p)

    rest : (fs : Entries) → AllByRecursion (λ t. IsPartitionOf n t.0) fs → ArePairs fs →
        AllByRecursion (λ t. AllByRecursion (λ mu. IsPartitionOf (n - 1) mu × HasRoom mu) (shrunken e i t.0)) fs
    rest [] a b = tt
    rest (u ∷ fs) (q, a) (k, b) = (
      all_weaken (IsPartitionOf (n - 1)) (λ mu. IsPartitionOf (n - 1) mu × HasRoom mu) (shrunken e i u.0)
          (λ mu r. (r, has_room n mu (omega (arith, q.total, k.0.small)) r)) (all_shrunken e i n u.0 q),
      rest fs a b,
    )

-- Partitions of one degree in strict order ascend.
ascends : (n : ℕ) (xs : List (List ℕ)) → AllByRecursion (IsPartitionOf n) xs → IsStrictlySortedBy order xs →
    Ascending xs
unfolding IsStrictlySortedBy
ascends n [] all up = tt
ascends n (x ∷ xs) (p, all) (later, up) = (further xs all later, ascends n xs all up)
  where
    further : (ys : List (List ℕ)) → AllByRecursion (IsPartitionOf n) ys → AllByRecursion (λ y. order x y ≡ Less) ys →
        AllByRecursion (IsEarlier x) ys
    further [] a l = tt
    further (y ∷ ys) (q, a) (l, ls) = (sym (order_one_degree x y (p.total ∙ sym q.total)) ∙ l, further ys a ls)

-- What is found, sorted and left without repetitions are the targets.
pub are_targets : (e i n : ℕ) (es pairs : Entries) (found sorted left : List (List ℕ)) →
    IsVector n es → ArePairs es → pairs ≡ es →
    found ≡ flat_map (λ t. shrunken e i t.0) pairs → IsPermutation found sorted → IsSorted order sorted →
    left ≡ dedup (pointwise nat_eq) sorted → AreTargets e i n es left
are_targets e i n es pairs found sorted left v held same is perm up left_is =
    subst (AreTargets e i n es) (sym left_is)
    (record {
      vector = v;
      ascending =
          ascends (n - 1) (dedup (pointwise nat_eq) sorted)
          (all_weaken (λ mu. IsPartitionOf (n - 1) mu × HasRoom mu) (IsPartitionOf (n - 1)) _ (λ mu h. h.0) every)
          (IsStrictlySortedBy-dedup order_total order_matches_eq sorted up);
      partitions_of =
          all_weaken (λ mu. IsPartitionOf (n - 1) mu × HasRoom mu) (IsPartitionOf (n - 1)) _ (λ mu h. h.0) every;
      room = all_weaken (λ mu. IsPartitionOf (n - 1) mu × HasRoom mu) HasRoom _ (λ mu h. h.1) every;
      all = λ mu o.
          occurs mu (dedup (pointwise nat_eq) sorted)
          (Contains-dedup parts_equivalence equal_lists sorted mu
          (Contains-permutation found sorted mu perm
          (contains mu found (subst (Occurs mu) (sym found_is) o))));
    })
  where
    found_is : found ≡ flat_map (λ t. shrunken e i t.0) es
    found_is = is ∙ ap (flat_map (λ t. shrunken e i t.0)) same

    every : AllByRecursion (λ mu. IsPartitionOf (n - 1) mu × HasRoom mu) (dedup (pointwise nat_eq) sorted)
    every =
        recursion_from_All (λ mu. IsPartitionOf (n - 1) mu × HasRoom mu) (dedup (pointwise nat_eq) sorted)
        (All-dedup (pointwise nat_eq) (λ mu. IsPartitionOf (n - 1) mu × HasRoom mu) sorted
        (All-permutation (λ mu. IsPartitionOf (n - 1) mu × HasRoom mu) found sorted perm
        (All-from_recursion (λ mu. IsPartitionOf (n - 1) mu × HasRoom mu) found
        (subst (AllByRecursion (λ mu. IsPartitionOf (n - 1) mu × HasRoom mu)) (sym found_is)
        (all_found e i n es v.partitions_of held)))))

-- ---- nodes

-- The node at a place is the removable one of its row.
pub removable_there : (p : List ℕ) (xs : List CodeNode) (k : ℕ) (d : CodeNode) →
    AllByRecursion (λ x. is_removable p x ≡ true) (map pair xs) → k < length xs →
    is_removable p ((get_or xs k d).row, part p (get_or xs k d).row) ≡ true
removable_there p [] k d h lt = absurd (omega arith)
removable_there p (x ∷ xs) zero d (h, hs) lt =
    subst (λ c. is_removable p (x.row, c) ≡ true) (removable_column p x.row x.column h) h
removable_there p (x ∷ xs) (suc k) d (h, hs) lt = removable_there p xs k d hs (omega arith)

-- All nodes of a residue among the removable ones are removable.
pub all_removable : (e i : ℕ) (p : List ℕ) (items now : List CodeNode) → now ≡ items →
    map pair items ≡ filter (λ x. nat_eq (residue e x) i) (removable p) →
    AllByRecursion (λ x. is_removable p x ≡ true) (map pair now)
all_removable e i p items now same is =
    subst (AllByRecursion (λ x. is_removable p x ≡ true)) (sym (ap (map pair) same ∙ is))
    (all_filter (λ x. is_removable p x ≡ true) (λ x. nat_eq (residue e x) i) (removable p)
    (all_filter (λ x. nat_eq (residue e x) i ≡ true → is_removable p x ≡ true) (is_removable p) (nodes p)
    (all_every _ (nodes p) (λ x h _. h))))
