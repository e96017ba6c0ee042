use Rattle.sp_good.proofs.Reducing.{reached, final, only}
use Rattle.sp_good.proofs.law.signature_law.Goals as goal

pub returns-clause-reached : goal.returns-clause-reached
returns-clause-reached c = reached

pub returns-clause-last : goal.returns-clause-last
returns-clause-last c = final

pub returns-clause-only : goal.returns-clause-only
returns-clause-only c = only
