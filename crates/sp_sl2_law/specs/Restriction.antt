-- Restriction: one node of a residue is taken from each partition of a vector.
-- Lascoux, Leclerc and Thibon, 1996: Hecke algebras at roots of unity and crystal bases of quantum affine algebras.
use Rattle.std.specs.Prelude.{ℕ, ◌+◌, ◌-◌, ◌&&◌, nat_lt, nat_eq, List, map, count_by, filter, sum_by, ℤ, pos, ◌-ℤ◌}
use Rattle.sp_defs.specs.Partition.{degree, partitions}
use Rattle.sp_defs.specs.Node.{Node, residue, addable, removable}
use Rattle.sp_defs.specs.Laurent.{int_sum, power, times, sum_over, size}
use Rattle.sp_defs.specs.Power.{Vector, greatest, added, is_move}

-- How many i-nodes of the list stand below the row r.
-- (Lascoux, Leclerc and Thibon, Comm. Math. Phys. 181, 1996, section 4)
abbrev pub below : ℕ → ℕ → ℕ → List Node → ℕ
below e i r xs = count_by (λ x. nat_eq (residue e x) i && nat_lt r x.0) xs

-- The removable i-nodes of `smaller` below the node that it lacks of `larger`, minus its addable i-nodes below that
-- node. (Lascoux, Leclerc and Thibon, Comm. Math. Phys. 181, 1996, section 4; Misra and Miwa, Comm. Math. Phys. 134,
-- 1990)
unfoldable pub restriction_exponent : ℕ → ℕ → List ℕ → List ℕ → ℤ
restriction_exponent e i smaller larger =
    int_sum
    (map (λ x. pos (below e i x.0 (removable smaller)) -ℤ pos (below e i x.0 (addable smaller))) (added smaller larger))

-- The partitions with one node more, of residue i.
-- (Lascoux, Leclerc and Thibon, Comm. Math. Phys. 181, 1996, section 4)
unfoldable pub enlarged : ℕ → ℕ → List ℕ → List (List ℕ)
enlarged e i smaller = filter (λ larger. is_move e i 1 smaller larger) (partitions (degree smaller + 1))

-- The operator e_i on a vector, at `smaller`.
-- (Lascoux, Leclerc and Thibon, Comm. Math. Phys. 181, 1996, section 4; at v = 1 Ariki, J. Math. Kyoto Univ. 36, 1996)
unfoldable pub restriction : ℕ → ℕ → Vector → Vector
restriction e i w smaller =
    sum_over (enlarged e i smaller) (λ larger. times (power (restriction_exponent e i smaller larger)) (w larger))

-- The sum of the sizes at all partitions that restrict to `smaller` (this project's own).
abbrev pub restricted_size : ℕ → ℕ → Vector → List ℕ → ℕ
restricted_size e i w smaller = sum_by (λ larger. size (w larger)) (enlarged e i smaller)

-- The greatest such sum, for a vector of degree n: past the limit the restriction is too large (this project's own).
abbrev pub restriction_weight : ℕ → ℕ → ℕ → Vector → ℕ
restriction_weight e i n w = greatest (map (restricted_size e i w) (partitions (n - 1)))
