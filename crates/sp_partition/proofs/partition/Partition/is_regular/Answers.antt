use Rattle.sp_partition.proofs.Regularity.{same_test}
use Rattle.sp_partition.proofs.partition.Partition.is_regular.Goals as goal

pub returns : goal.returns
returns c =
    same_test c.args.e c.args.self.now c.differ.result c.requires c.parts.ensures.held.partition
    (rw c.parts.ensures.parts at c.differ.ensures)
