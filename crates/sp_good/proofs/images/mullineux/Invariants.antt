use Rattle.sp_good.specs.Climb.{negated_path}
use Rattle.sp_good.proofs.Climbing.{Climbed}
use Rattle.sp_good.proofs.images.mullineux.Given as goal

abbrev pub invariant-loop-residue : goal.invariant-loop-residue
invariant-loop-residue l = Climbed l.e (negated_path l.e l.mu) l.residue-iterator.iter.rest.now l.at l.step
