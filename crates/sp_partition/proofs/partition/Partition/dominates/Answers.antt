use Rattle.std.proofs.Common.{◌↔◌, IsTrue}
use Rattle.sp_defs.specs.Partition.{Dominates}
use Rattle.sp_partition.proofs.Lexicographic.{not_before}
use Rattle.sp_partition.proofs.partition.Partition.dominates.Goals as goal

pub returns-clause-order : goal.returns-clause-order
returns-clause-order c =
    let tells : IsTrue c.sums_stay_above.result ↔ Dominates c.args.self.now c.args.other.now =
    rw (c.parts.ensures.parts, c.parts-2.ensures.parts) at c.sums_stay_above.ensures in
    λ t. not_before c.args.self.now c.args.other.now c.parts-2.ensures.held.partition (tells.0 t)
