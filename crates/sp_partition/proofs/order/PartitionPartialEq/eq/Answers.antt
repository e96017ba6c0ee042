use Rattle.std.proofs.Common.{sym, ◌∙◌, ap}
use Rattle.std.specs.Ordering.{is_eq}
use Rattle.sp_lists.proofs.Comparing.{same_equality}
use Rattle.sp_partition.proofs.order.PartitionPartialEq.eq.Goals as goal

pub returns : goal.returns
returns c =
    c.is_eq.ensures ∙ ap is_eq c.compare_parts.ensures ∙ sym (same_equality c.args.self.now c.args.other.now)
