use Rattle.std.proofs.Common.{ℕ, ◌<◌}
use Rattle.sp_defs.specs.Laurent.{Term}
use Rattle.sp_laurent.proofs.Symmetry.{IsMatched}
use Rattle.sp_laurent.proofs.values.is_mirrored.Given as goal

abbrev pub invariant-loop-place : goal.invariant-loop-place
invariant-loop-place l = (i : ℕ) (d : Term) → i < l.place → IsMatched l.terms i d
