use Rattle.std.proofs.Common.{◌≤◌, sym, ◌∙◌, ap₂, ◌+◌, ◌-◌, arith}
use Rattle.sp_shapes.proofs.Columns.{column, column_reaches, hook-column}
use Rattle.sp_shapes.proofs.Diagram.{node_in}
use Rattle.sp_nodes.proofs.diagram.hook.Goals as goal

-- the column reaches the node's row
pub overflow_sub-below : goal.overflow_sub-below
overflow_sub-below c =
    let row = c.args.node.row in
    let node = node_in c.args.p.now row c.args.node.column c.requires in
    let reaches : row ≤ column c.args.p.now c.args.node.column =
    column_reaches c.args.p.now row c.args.node.column c.column_length.ensures.partition
    node.row node.column node.within in
    omega (arith, reaches, c.column_length.ensures.value)

pub returns : goal.returns
returns c =
    let row = c.args.node.row in
    let node = node_in c.args.p.now row c.args.node.column c.requires in
    ap₂ (λ right below. (right - c.args.node.column) + (below - row) + 1)
    c.part.ensures.value c.column_length.ensures.value
    ∙ sym (hook-column c.args.p.now row c.args.node.column c.column_length.ensures.partition node)
