use Rattle.std.proofs.Common.{◌∙◌}
use Rattle.sp_partition.proofs.PaddedOrder.{arrays_order}
use Rattle.sp_partition.proofs.partition.Partition.compare_parts.Goals as goal

pub returns : goal.returns
returns c =
    c.compare_arrays.ensures
    ∙ arrays_order _ _ _ _ _ _ _ _ c.self.invariant c.self.view_is c.other.invariant c.other.view_is
