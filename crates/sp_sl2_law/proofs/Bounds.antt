-- How far the powers of a restriction lie from those of the vector.
use Rattle.std.proofs.Common.{◌≡◌, ℕ, ◌+◌, ◌≤◌, true, ◌&&◌, nat_eq, nat_lt, List, [], ◌∷◌, map, length, ap}
use Rattle.std.proofs.Common.{arith, pos, ◌+ℤ◌, ◌-ℤ◌}
use Rattle.std.proofs.lemmas.Int.{ints}
use Rattle.std.proofs.lemmas.List.FromFn.{length-map-range_with_len}
use Rattle.std.proofs.lemmas.List.Sums.{length-filter, count_by-le-length}
use Rattle.std.specs.Int.RustNames.{unsigned_abs}
use Rattle.sp_defs.specs.Partition.{part, degree, from_one_to, IsPartition}
use Rattle.sp_defs.specs.Laurent.{Laurent, power, times, int_sum}
use Rattle.sp_defs.specs.Node.{Node, residue, is_addable, is_removable, addable, removable, row_ends}
use Rattle.sp_defs.specs.Power.{Vector, added, is_move}
use Rattle.sp_defs.specs.Within.{PowersWithin}
use Rattle.sp_lists.proofs.Places.{all_weaken}
use Rattle.sp_algebra.proofs.Sizes.{within_sum, within_times, product_within}
use Rattle.sp_shapes.proofs.CornerRows.{removable-rows}
use Rattle.sp_shapes.proofs.Degrees.{length-degree}
use Rattle.sp_shapes.proofs.Moves.{move_facts}
use Rattle.sp_sl2_law.specs.Restriction.{below, restriction_exponent, enlarged, restriction}
use Rattle.sp_sl2_law.proofs.Enlarged.{IsEnlarged, all_enlarged}

-- No more nodes are counted than the list has.
few_below : (e i r : ℕ) (xs : List Node) → below e i r xs ≤ length xs
few_below e i r xs = count_by-le-length (λ x. nat_eq (residue e x) i && nat_lt r x.0) xs

-- A partition has at most one addable node more than rows.
few_addable : (parts : List ℕ) → length (addable parts) ≤ length parts + 1
few_addable parts = omega (
  arith,
  length-filter (is_addable parts) (row_ends parts),
  count_by-le-length (is_addable parts) (row_ends parts),
  length-map-range_with_len {X = Node} (λ r. (r, part parts r + 1)) 1 (length parts + 1),
)

-- It has at most as many removable nodes as rows.
few_removable : (parts : List ℕ) → length (removable parts) ≤ length parts
few_removable parts = omega (
  arith,
  ap length (removable-rows parts),
  length-filter (is_removable parts) (map (λ r. (r, part parts r)) (from_one_to (length parts))),
  count_by-le-length (is_removable parts) (map (λ r. (r, part parts r)) (from_one_to (length parts))),
  length-map-range_with_len {X = Node} (λ r. (r, part parts r)) 1 (length parts),
)

-- The exponent of a restriction lies within one more than the number of rows.
pub near_exponent : (e i : ℕ) (smaller larger : List ℕ) → is_move e i 1 smaller larger ≡ true →
    unsigned_abs (restriction_exponent e i smaller larger) ≤ length smaller + 1
unfolding restriction_exponent int_sum
near_exponent e i smaller larger h = by_list (added smaller larger) (move_facts e i 1 smaller larger h).count
  where
    between : (a b n : ℕ) → a ≤ n → b ≤ n → unsigned_abs ((pos a -ℤ pos b) +ℤ pos 0) ≤ n
    between a b n h k = omega (arith, ints)

    by_list : (xs : List Node) → length xs ≡ 1 →
        unsigned_abs
        (int_sum (map (λ x. pos (below e i x.0 (removable smaller)) -ℤ pos (below e i x.0 (addable smaller))) xs)) ≤
        length smaller + 1
    by_list [] is = absurd (omega arith)
    by_list (x ∷ []) is =
        between (below e i x.0 (removable smaller)) (below e i x.0 (addable smaller)) (length smaller + 1)
        (omega (arith, few_below e i x.0 (removable smaller), few_removable smaller))
        (omega (arith, few_below e i x.0 (addable smaller), few_addable smaller))
    by_list (x ∷ y ∷ xs) is = absurd (omega arith)

-- The powers of a restriction are at most one more than the degree further than those of the vector.
pub near_restriction : (e i b : ℕ) (w : Vector) (mu : List ℕ) → IsPartition mu →
    ((x : List ℕ) → PowersWithin b (w x)) → PowersWithin (degree mu + 1 + b) (restriction e i w mu)
unfolding restriction
near_restriction e i b w mu pm near =
    within_sum (degree mu + 1 + b) term (enlarged e i mu)
    (all_weaken (IsEnlarged e i mu) (λ x. PowersWithin (degree mu + 1 + b) (term x)) (enlarged e i mu)
    (λ x h. within_times (degree mu + 1 + b) (power (restriction_exponent e i mu x)) (w x)
    (product_within (degree mu + 1) b (degree mu + 1 + b) (power (restriction_exponent e i mu x)) (w x) (omega arith)
    (omega (arith, near_exponent e i mu x h.move, length-degree mu pm), tt) (near x))) (all_enlarged e i mu))
  where
    term : List ℕ → Laurent
    term x = times (power (restriction_exponent e i mu x)) (w x)
