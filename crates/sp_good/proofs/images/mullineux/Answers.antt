use Rattle.std.proofs.Common.{◌≡◌, refl, subst, sym}
use Rattle.sp_good.specs.Climb.{negated_path}
use Rattle.sp_partition.proofs.Listings.{unwrapped}
use Rattle.sp_good.proofs.Descending.{some_fact}
use Rattle.sp_good.proofs.Climbing.{Climbed, climbed_start, climbed_more, climbed_stops, climbed_all}
use Rattle.sp_good.proofs.Climbing.{stopped_image, stopped_stop, ended_image, ended_stop}
use Rattle.sp_good.proofs.images.mullineux.Goals as goal

pub loop-residue-init : goal.loop-residue-init
loop-residue-init c =
    subst (λ rest. Climbed c.args.e (negated_path c.args.e c.args.mu.now) rest c.empty-at.result 0) (sym rest_is)
    (subst (λ at. Climbed c.args.e (negated_path c.args.e c.args.mu.now) c.path-residues.result.items at 0)
    (sym c.empty-at.ensures)
    (climbed_start c.args.e c.args.mu.now c.path-residues.result.items c.path-residues.ensures.residues
    c.path-residues.ensures.whole c.degree.ensures.held c.path-residues.ensures.below))
  where
    rest_is : c.into_iter-residue-iterator.result.iter.rest.now ≡ c.path-residues.result.items
    rest_is = cc

pub loop-residue-preserved : goal.loop-residue-preserved
loop-residue-preserved c =
    climbed_more c.args.e _ _ _ _ _ c.in-Some.residue.now c.loop-residue.invariant c.in-Some.ensures.steps
    c.unwrap-at.result c.in-Some-cogood.node.row c.in-Some-cogood.node.column (sym c.in-Some-cogood.ensures.node)
    c.in-Some-cogood.ensures.addable (unwrapped _ _ _ _ c.add_node.ensures.node c.unwrap-at.ensures)
    (some_fact _ _ _ c.add_node.ensures.held c.unwrap-at.ensures)

pub returns-in-None-cogood-clause-image : goal.returns-in-None-cogood-clause-image
returns-in-None-cogood-clause-image c =
    stopped_image c.args.e (negated_path c.args.e c.args.mu.now) _
    (climbed_stops c.args.e _ _ _ _ _ c.in-Some.residue.now c.loop-residue.invariant c.in-Some.ensures.steps
    c.loop-residue.step refl (sym c.in-None-cogood.ensures.node))

pub returns-in-None-cogood-clause-stop : goal.returns-in-None-cogood-clause-stop
returns-in-None-cogood-clause-stop c =
    stopped_stop c.args.e (negated_path c.args.e c.args.mu.now) _
    (climbed_stops c.args.e _ _ _ _ _ c.in-Some.residue.now c.loop-residue.invariant c.in-Some.ensures.steps
    c.loop-residue.step refl (sym c.in-None-cogood.ensures.node))

pub returns-clause-image : goal.returns-clause-image
returns-clause-image c =
    ended_image c.args.e (negated_path c.args.e c.args.mu.now) c.loop-residue.at
    (climbed_all c.args.e _ _ _ _ c.in-None.ensures.steps.0 c.loop-residue.invariant)

pub returns-clause-stop : goal.returns-clause-stop
returns-clause-stop c =
    ended_stop c.args.e (negated_path c.args.e c.args.mu.now) c.loop-residue.at
    (climbed_all c.args.e _ _ _ _ c.in-None.ensures.steps.0 c.loop-residue.invariant)
