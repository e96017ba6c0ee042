use Rattle.std.proofs.Common.{rules}
use Rattle.sp_jantzen.specs.Beads.{count_greater}
use Rattle.sp_jantzen.proofs.numbers.count_greater.Goals as goal

pub returns : goal.returns
unfolding count_greater
returns c = search rules
