use Rattle.std.proofs.Common.{◌≡◌, ◌++◌, take}
use Rattle.sp_replies.specs.Orders.{partition_lines}
use Rattle.sp_replies.proofs.orders.put_lines.Given as goal

abbrev pub invariant-loop-p : goal.invariant-loop-p
invariant-loop-p l = l.out.items ≡ l.fn.out.items ++ partition_lines (take l.p-index l.list)
