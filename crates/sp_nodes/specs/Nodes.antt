-- What the definitions see of the nodes of the code.
use Rattle.std.specs.Prelude.{ℕ, ◌≤◌, List, filter, nat_eq}
use Rattle.sp_defs.specs.Node.{residue}
use Rattle.sp_nodes.specs.declared.node.Node.{Node}

-- Row and column.
abbrev pub pair : Node → ℕ × ℕ
pair node = (node.row, node.column)

-- A place that a partition of at most 32 can have a node at, or one more.
pub record IsPlace (node : Node) : Type 0 where
  pub row_least : 1 ≤ node.row
  pub row_most : node.row ≤ 33
  pub column_least : 1 ≤ node.column
  pub column_most : node.column ≤ 33

-- The nodes of residue i, in their order.
abbrev pub of_residue : ℕ → ℕ → List (ℕ × ℕ) → List (ℕ × ℕ)
of_residue e i places = filter (λ x. nat_eq (residue e x) i) places
