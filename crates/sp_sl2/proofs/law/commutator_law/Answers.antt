-- The law.
use Rattle.sp_sl2_law.proofs.Relation.{relation}
use Rattle.sp_sl2.proofs.law.commutator_law.Goals as goal

pub returns : goal.returns
returns c = relation
