use Rattle.std.proofs.Common.{◌≡◌, map, length}
use Rattle.std.specs.List.{range_with_len}
use Rattle.sp_defs.specs.Node.{content}
use Rattle.sp_nodes.proofs.diagram.content.Given as goal

abbrev pub invariant-loop-i : goal.invariant-loop-i
invariant-loop-i l = record {
  is : l.listed.items ≡ map (content l.e l.p) (range_with_len 0 l.i);
  len : length l.listed.items ≡ l.i;
}
