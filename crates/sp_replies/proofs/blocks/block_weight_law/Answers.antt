use Rattle.sp_replies.proofs.BlockCores.{weight_of_members}
use Rattle.sp_replies.proofs.blocks.block_weight_law.Goals as goal

pub returns : goal.returns
returns c = weight_of_members
