use Rattle.std.proofs.Common.{◌≡◌, ◌/◌, map, take}
use Rattle.sp_defs.specs.Node.{hook}
use Rattle.sp_module_defs.specs.Dims.{product}
use Rattle.sp_nodes.specs.Nodes.{pair}
use Rattle.sp_dims.proofs.specht.without_hooks.Given as goal

abbrev pub invariant-loop-node : goal.invariant-loop-node
invariant-loop-node l = l.quotient ≡ l.number / product (map (λ node. hook l.p (pair node)) (take l.node-index l.nodes))
