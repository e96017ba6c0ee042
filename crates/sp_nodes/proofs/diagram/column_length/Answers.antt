use Rattle.std.proofs.Common.{arith, ◌≤◌}
use Rattle.sp_nodes.proofs.Hooks.{column_small}
use Rattle.sp_nodes.proofs.diagram.column_length.Goals as goal

pub overflow_cast-result : goal.overflow_cast-result
overflow_cast-result c =
    let few = column_small c.args.p.now c.args.column c.parts.ensures.held in
    let small : c.count_from.result ≤ 32 = rw (c.count_from.ensures, c.parts.ensures.parts) few in
    omega arith

pub returns-clause-small : goal.returns-clause-small
returns-clause-small c =
    let few = column_small c.args.p.now c.args.column c.parts.ensures.held in
    rw (c.count_from.ensures, c.parts.ensures.parts) few
