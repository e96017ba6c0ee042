-- The law.
use Rattle.sp_sl2_law.proofs.Contents.{restricted_content}
use Rattle.sp_sl2.proofs.law.restriction_law.Goals as goal

pub returns : goal.returns
returns c = restricted_content
