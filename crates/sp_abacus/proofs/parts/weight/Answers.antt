use Rattle.std.proofs.Common.{◌+◌, ◌-◌, ◌*◌, ◌/◌, ◌∙◌, sym, ap, ap₂, arith}
use Rattle.sp_defs.specs.Partition.{degree}
use Rattle.sp_defs.specs.Abacus.{core}
use Rattle.sp_abacus_law.proofs.Bounds.{degree-core-le}
use Rattle.sp_abacus_law.proofs.Weight.{degree-core}
use Rattle.sp_abacus.proofs.Showing.{weight_by_core}
use Rattle.sp_abacus.proofs.parts.weight.Goals as goal

pub overflow_sub-result : goal.overflow_sub-result
overflow_sub-result c =
    omega (
      arith,
      c.degree.ensures.sum,
      c.degree-2.ensures.sum ∙ ap degree c.core.ensures,
      degree-core-le c.args.e c.args.p.now (omega arith) c.degree.ensures.held.partition,
    )

pub returns-clause-value : goal.returns-clause-value
returns-clause-value c =
    ap₂ (λ m n. (m - n) / c.args.e) c.degree.ensures.sum (c.degree-2.ensures.sum ∙ ap degree c.core.ensures)
    ∙ weight_by_core c.args.e c.args.p.now c.requires.e_least c.degree.ensures.held

pub returns-clause-degree : goal.returns-clause-degree
returns-clause-degree c =
    degree-core c.args.e c.args.p.now (omega arith) c.degree.ensures.held.partition
    ∙ ap (λ w. degree (core c.args.e c.args.p.now) + c.args.e * w)
    (sym (ap₂ (λ m n. (m - n) / c.args.e) c.degree.ensures.sum (c.degree-2.ensures.sum ∙ ap degree c.core.ensures)
    ∙ weight_by_core c.args.e c.args.p.now c.requires.e_least c.degree.ensures.held))
