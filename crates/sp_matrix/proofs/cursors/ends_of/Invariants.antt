use Rattle.std.proofs.Common.{◌≡◌, length, map, take}
use Rattle.sp_defs.specs.Power.{FockVector}
use Rattle.sp_matrix.specs.Walk.{vectors_of}
use Rattle.sp_matrix.proofs.cursors.ends_of.Given as goal

abbrev pub invariant-loop-row : goal.invariant-loop-row
invariant-loop-row l = l.ends.items ≡ map (λ (v : FockVector). length v.entries) (vectors_of (take l.row-index l.rows))
