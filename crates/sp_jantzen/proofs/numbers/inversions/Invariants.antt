use Rattle.std.proofs.Common.{◌≡◌, ◌+◌, drop}
use Rattle.sp_module_defs.specs.Jantzen.{inversions}
use Rattle.sp_jantzen.proofs.numbers.inversions.Given as goal

abbrev pub invariant-loop-place : goal.invariant-loop-place
invariant-loop-place l = l.count + inversions (drop l.place l.numbers) ≡ inversions l.numbers
