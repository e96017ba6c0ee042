-- The law is proved in the crate of the law.
use Rattle.sp_block_law.proofs.Law.{block_law as the_law}
use Rattle.sp_block_law.proofs.RowBlocks.{row_block_law}
use Rattle.sp_blocks.proofs.law.block_law.Goals as goal

pub returns-clause-law : goal.returns-clause-law
returns-clause-law c = the_law

pub returns-clause-rows : goal.returns-clause-rows
returns-clause-rows c = row_block_law
