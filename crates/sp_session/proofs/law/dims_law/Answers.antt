use Rattle.sp_session.proofs.SimpleDims.{dims_solved}
use Rattle.sp_session.proofs.law.dims_law.Goals as goal

pub returns : goal.returns
returns c = dims_solved
