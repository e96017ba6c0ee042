use Rattle.sp_checking.proofs.Ends.{ends, silent}
use Rattle.sp_checking.proofs.law.end_law.Goals as goal

pub returns : goal.returns
returns c = record { ends = ends; silent = silent }
