-- Hook lengths of a partition that there is room for.
use Rattle.std.proofs.Common.{ℕ, ◌≤◌, List, arith, nat_le}
use Rattle.std.proofs.lemmas.List.Sums.{count_by-le-length}
use Rattle.sp_shapes.proofs.Columns.{column}
use Rattle.sp_partition.specs.Held.{IsHeld}
use Rattle.sp_partition.proofs.Holding.{few_parts}

-- A column has at most 32 nodes.
pub column_small : (parts : List ℕ) (c : ℕ) → IsHeld parts → column parts c ≤ 32
column_small parts c h = omega (arith, count_by-le-length (λ p. nat_le c p) parts, few_parts parts h)
