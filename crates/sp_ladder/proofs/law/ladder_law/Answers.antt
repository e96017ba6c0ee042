use Rattle.sp_ladder_law.proofs.LadderLaw.{ladder_law}
use Rattle.sp_ladder_law.proofs.Contents.{ladder_content}
use Rattle.sp_ladder.proofs.law.ladder_law.Goals as goal

pub returns-clause-law : goal.returns-clause-law
returns-clause-law c = ladder_law

pub returns-clause-content : goal.returns-clause-content
returns-clause-content c = ladder_content
