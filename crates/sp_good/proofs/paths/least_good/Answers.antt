use Rattle.std.proofs.Common.{◌∙◌, sym, ap, arith, ◌-◌, ◌+◌}
use Rattle.sp_defs.specs.Signature.{least_good}
use Rattle.sp_nodes.specs.Nodes.{pair}
use Rattle.sp_good.proofs.Descending.{least-here, least-later, least-none}
use Rattle.sp_good.proofs.paths.least_good.Goals as goal

pub returns-in-Some-clause-step : goal.returns-in-Some-clause-step
returns-in-Some-clause-step c =
    let i = c.loop-residue.residue in
    sym (least-here c.args.e i (c.args.e - i) c.args.p.now (pair c.in-Some.node) (omega arith)
    (sym c.in-Some.ensures.node))
    ∙ c.loop-residue.invariant

pub loop-residue-preserved : goal.loop-residue-preserved
loop-residue-preserved c =
    let e = c.args.e in
    let i = c.loop-residue.residue in
    ap (λ n. least_good e (i + 1) n c.args.p.now) (omega arith)
    ∙ sym (least-later e i (e - i) c.args.p.now (omega arith) (sym c.in_default.ensures.node))
    ∙ c.loop-residue.invariant

pub returns-clause-step : goal.returns-clause-step
returns-clause-step c =
    let i = c.loop-residue.residue in
    sym (least-none c.args.e i (c.args.e - i) c.args.p.now (omega arith)) ∙ c.loop-residue.invariant
