use Rattle.sp_grid_law.proofs.InverseLaw.{inverse_law}
use Rattle.sp_inverse.proofs.law.inverse_law.Goals as goal

pub returns : goal.returns
returns c = inverse_law
