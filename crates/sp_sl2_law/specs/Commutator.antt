-- The relation between restriction and induction: the commutator of e_i and f_j.
-- Lascoux, Leclerc and Thibon, 1996: Hecke algebras at roots of unity and crystal bases of quantum affine algebras.
use Rattle.std.specs.Prelude.{◌≡◌, ℕ, ◌*◌, ◌≤◌, cond, nat_eq, List, [], map, unsigned_abs}
use Rattle.sp_defs.specs.Partition.{partitions, IsPartition}
use Rattle.sp_defs.specs.Laurent.{plus, negate, times, size}
use Rattle.sp_defs.specs.Power.{Vector, greatest, divided_power}
use Rattle.sp_sl2_law.specs.Restriction.{restriction}
use Rattle.sp_sl2_law.specs.Balanced.{balanced, corner_difference}

-- e_i f_j w - f_j e_i w
-- (Lascoux, Leclerc and Thibon, Comm. Math. Phys. 181, 1996, section 4)
unfoldable pub commutator : ℕ → ℕ → ℕ → Vector → Vector
commutator e i j w lambda =
    plus (restriction e i (divided_power e j 1 w) lambda) (negate (divided_power e j 1 (restriction e i w) lambda))

-- Each polynomial times the balanced integer of its partition's addable minus removable i-nodes.
-- (Lascoux, Leclerc and Thibon, Comm. Math. Phys. 181, 1996, section 4)
unfoldable pub corner_multiple : ℕ → ℕ → Vector → Vector
corner_multiple e i w lambda = times (balanced (corner_difference e i lambda)) (w lambda)

-- For a vector of degree n, the greatest product of such a difference and a size where i and j are equal, and else 0:
-- past the limit the commutator is too large (this project's own).
abbrev pub commutator_weight : ℕ → ℕ → ℕ → ℕ → Vector → ℕ
commutator_weight e i j n w =
    cond (nat_eq i j)
    (greatest (map (λ lambda. unsigned_abs (corner_difference e i lambda) * size (w lambda)) (partitions n))) 0

-- Where i and j differ, the commutator is 0. Where they are equal, it multiplies the polynomial at each partition by
-- the balanced integer of the partition's addable minus its removable i-nodes.
-- (Lascoux, Leclerc and Thibon, Comm. Math. Phys. 181, 1996, section 4; Misra and Miwa, Comm. Math. Phys. 134, 1990)
abbrev pub CommutatorLaw : Type 0
CommutatorLaw =
    (e i j : ℕ) → 2 ≤ e → (w : Vector) (lambda : List ℕ) → IsPartition lambda →
    commutator e i j w lambda ≡ cond (nat_eq i j) (corner_multiple e i w lambda) []
