use Rattle.std.proofs.Common.{◌≡◌, drop}
use Rattle.sp_module_defs.specs.Jantzen.{is_distinct}
use Rattle.sp_jantzen.proofs.numbers.is_distinct.Given as goal

abbrev pub invariant-loop-place : goal.invariant-loop-place
invariant-loop-place l = is_distinct (drop l.place l.numbers) ≡ is_distinct l.numbers
