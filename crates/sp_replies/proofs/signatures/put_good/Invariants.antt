use Rattle.std.proofs.Common.{◌≡◌, ◌++◌, flat_map}
use Rattle.std.specs.List.{range_with_len}
use Rattle.sp_replies.specs.Signatures.{residue_line}
use Rattle.sp_replies.proofs.signatures.put_good.Given as goal

abbrev pub invariant-loop-i : goal.invariant-loop-i
invariant-loop-i l = l.out.items ≡ l.fn.out.items ++ flat_map (residue_line l.e l.p) (range_with_len 0 l.i)
