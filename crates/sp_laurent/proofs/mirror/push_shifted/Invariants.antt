use Rattle.std.proofs.Common.{◌≡◌, ◌++◌, take}
use Rattle.sp_algebra.proofs.Canonical.{shifted}
use Rattle.sp_laurent.proofs.mirror.push_shifted.Given as goal

abbrev pub invariant-loop-place : goal.invariant-loop-place
invariant-loop-place l = l.out.items ≡ l.initial.out.items ++ shifted l.fn.power (take l.place-index l.terms)
