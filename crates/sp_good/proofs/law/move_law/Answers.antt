use Rattle.sp_good_law.proofs.MoveLaw.{move_law}
use Rattle.sp_good.proofs.law.move_law.Goals as goal

pub returns : goal.returns
returns c = move_law
