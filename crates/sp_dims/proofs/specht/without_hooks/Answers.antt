use Rattle.std.proofs.Common.{◌/◌, ◌∙◌, ap₂}
use Rattle.sp_defs.specs.Node.{hook}
use Rattle.sp_nodes.specs.Nodes.{pair}
use Rattle.sp_nodes.specs.declared.node.Node.{Node}
use Rattle.sp_dims.proofs.Factorials.{nothing-divided, divided-next}
use Rattle.sp_dims.proofs.specht.without_hooks.Goals as goal

pub loop-node-init : goal.loop-node-init
loop-node-init c = nothing-divided c.args.number

pub loop-node-preserved : goal.loop-node-preserved
loop-node-preserved c =
    let default : Node = record { row = 0; column = 0 } in
    ap₂ (λ x y. x / y) c.loop-node.invariant (c.from-quotient.ensures ∙ c.hook.ensures)
    ∙ divided-next (λ node. hook c.args.p.now (pair node)) c.args.nodes.now c.loop-node.node-index c.args.number default
    c.loop-node-test.true
