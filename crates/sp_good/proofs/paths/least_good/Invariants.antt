use Rattle.std.proofs.Common.{◌≡◌, ◌-◌}
use Rattle.sp_defs.specs.Signature.{least_good}
use Rattle.sp_good.proofs.paths.least_good.Given as goal

abbrev pub invariant-loop-residue : goal.invariant-loop-residue
invariant-loop-residue l = least_good l.e l.residue (l.e - l.residue) l.p ≡ least_good l.e 0 l.e l.p
