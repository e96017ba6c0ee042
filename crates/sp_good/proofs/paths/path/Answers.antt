use Rattle.std.proofs.Common.{◌≡◌, subst, sym, ap, arith, ◌-◌}
use Rattle.sp_defs.specs.Partition.{degree}
use Rattle.sp_defs.specs.Signature.{shrink}
use Rattle.sp_partition.proofs.Listings.{unwrapped}
use Rattle.sp_good.proofs.Descending.{Descended, some_fact, descended_start, one_less}
use Rattle.sp_good.proofs.Descending.{descended_more, descended_all, descended_whole}
use Rattle.sp_good.proofs.paths.path.Goals as goal
use Rattle.sp_good.proofs.paths.path.Goals.{After-unwrap-at}

shrunk : (c : After-unwrap-at) → c.unwrap-at.result ≡ shrink (c.in-Some.step.node.row - 1) c.loop-step.at
shrunk c = unwrapped _ _ _ _ c.remove_node.ensures.node c.unwrap-at.ensures

pub loop-step-init : goal.loop-step-init
loop-step-init c =
    subst (λ rs. Descended c.args.e c.args.mu.now c.args.mu.now rs) (sym c.new-residues.ensures)
    (descended_start c.args.e c.args.mu.now c.requires.e_least c.degree.ensures.held c.requires.regular)

pub loop-step-smaller : goal.loop-step-smaller
loop-step-smaller c =
    let less = one_less c.args.e c.args.mu.now c.loop-step.at c.loop-step.residues.items c.loop-step.invariant
    c.in-Some.step.residue c.in-Some.step.node.row c.in-Some.step.node.column (sym c.in-Some.ensures.step)
    c.in-Some.ensures.removable in
    omega (arith, less, ap degree (shrunk c))

pub loop-step-preserved : goal.loop-step-preserved
loop-step-preserved c =
    descended_more c.args.e c.args.mu.now c.loop-step.at c.loop-step.residues.items c.loop-step.invariant
    c.in-Some.step.residue c.in-Some.step.node.row c.in-Some.step.node.column (sym c.in-Some.ensures.step)
    c.in-Some.ensures.removable _ _ (shrunk c) c.push.ensures.items c.in-Some.ensures.below
    (some_fact _ _ _ c.remove_node.ensures.held c.unwrap-at.ensures)
    (c.in-Some.ensures.regular c.loop-step.invariant.label.regular)

pub returns-clause-residues : goal.returns-clause-residues
returns-clause-residues c =
    descended_all c.args.e c.args.mu.now c.loop-step.at c.loop-step.residues.items c.loop-step.invariant
    (sym c.in_default.ensures.step)

pub returns-clause-whole : goal.returns-clause-whole
returns-clause-whole c =
    descended_whole c.args.e c.args.mu.now c.loop-step.at c.loop-step.residues.items c.loop-step.invariant
    (sym c.in_default.ensures.step)
