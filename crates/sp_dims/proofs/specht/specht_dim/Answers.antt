use Rattle.std.proofs.Common.{◌≡◌, ◌/◌, true, map, sym, ◌∙◌, ap, ap₂, subst}
use Rattle.std.specs.List.{AllByRecursion}
use mathlib.Core.List.{map-map}
use Rattle.sp_defs.specs.Node.{hook, in_diagram}
use Rattle.sp_lists.proofs.Elements.{map_all}
use Rattle.sp_nodes.specs.Nodes.{pair}
use Rattle.sp_module_defs.specs.Dims.{specht_dim, product, factorial}
use Rattle.sp_dims.proofs.Factorials.{nodes_inside}
use Rattle.sp_dims.proofs.specht.specht_dim.Goals as goal

pub without_hooks-requires : goal.without_hooks-requires
without_hooks-requires c = record {
  inside =
      map_all (λ x. in_diagram c.args.p.now x ≡ true) pair c.as_slice.result.now
      (subst (AllByRecursion (λ x. in_diagram c.args.p.now x ≡ true))
      (sym (ap (map pair) c.as_slice.ensures.value ∙ c.nodes.ensures.nodes)) (nodes_inside c.args.p.now));
}

pub returns-clause-value : goal.returns-clause-value
unfolding specht_dim
returns-clause-value c =
    c.without_hooks.ensures.value
    ∙ ap₂ (λ n hooks. n / product hooks) (c.factorial.ensures.value ∙ ap factorial c.degree.ensures.sum)
    (sym (map-map (hook c.args.p.now) pair c.as_slice.result.now)
    ∙ ap (map (hook c.args.p.now)) (ap (map pair) c.as_slice.ensures.value ∙ c.nodes.ensures.nodes))
